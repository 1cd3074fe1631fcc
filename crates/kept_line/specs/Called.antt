-- A caller and a post on one line, both kept as bytes: the bytes of both, the flash, what each has sent, and what the line feeds them by the
-- calls for C.
use Rattle.std.specs.Prelude.{ℕ, true, List, [], ◌++◌, ◌≡◌, take}
use Rattle.wire.specs.Frame.{Frame}
use Rattle.module_promises.specs.Runs.{heard_in}
use Rattle.host_model.specs.Events.{number_in}
use Rattle.host_model.specs.declared.events.Answer.TheVariants.{Nothing}
use Rattle.posts.specs.Post.{is_open}
use Rattle.line.specs.Steps.{after_each, EachMay}
use Rattle.line.specs.Wired.{completes, Sent}
use Rattle.kept_module.specs.Kept as module_kept
use Rattle.kept_host.specs.Kept as host_kept
use Rattle.kept_caller.specs.Kept as caller
use Rattle.kept_caller.specs.Kept.{caller_in}
use Rattle.kept_post.specs.Kept as post
use Rattle.kept_post.specs.Kept.{post_in}

-- The bytes that keep each end, the flash, and every frame that each end has sent since the host's opening.
pub record Called : Type 0 where
  pub caller : List ℕ
  pub post : List ℕ
  pub flash : List ℕ
  pub from_host : List Frame
  pub from_board : List Frame

-- What happens next: a byte, sent or not, damaged or not, or some time, reaches an end by zrn_post_hear, zrn_post_wait, zrn_caller_hear or
-- zrn_caller_wait, with the reply buffer or the output that the call is lent.
pub data Call : Type 0 where
  post_byte : ℕ → List ℕ → Call
  post_time : ℕ → List ℕ → Call
  caller_byte : ℕ → List ℕ → Call
  caller_time : ℕ → List ℕ → Call

-- Noise may be any, but for one thing: a frame that it completes, for the module while a session is open, is one that the other end has sent.
abbrev pub MayCall : Called → Call → Type 0
MayCall x (post_byte byte reply) =
    is_open (post_in x.post) ≡ true → Sent x.from_host (completes (post_in x.post).board.reader byte)
MayCall x (post_time ms reply) = Unit
MayCall x (caller_byte byte output) = Sent x.from_board (completes (caller_in x.caller).end.reader byte)
MayCall x (caller_time ms output) = Unit

-- What a call leaves of the whole. Nobody else writes the flash.
abbrev pub post_called : Called → module_kept.Kept → Called
post_called x k = record {
  caller = x.caller;
  post = k.state;
  flash = k.flash;
  from_host = x.from_host;
  from_board = x.from_board ++ heard_in (take k.count k.reply);
}

abbrev pub caller_called : Called → host_kept.Kept → Called
caller_called x k = record {
  caller = k.state;
  post = x.post;
  flash = x.flash;
  from_host = x.from_host ++ heard_in (take k.count k.output);
  from_board = x.from_board;
}

-- The calls that a promise speaks of: those of the post, those of the caller, and the stage that its view answers.
pub record Ends : Type 0 where
  pub post_hears_law : List ℕ → ℕ → List ℕ → List ℕ → module_kept.Kept
  pub post_waits_law : List ℕ → ℕ → List ℕ → List ℕ → module_kept.Kept
  pub caller_hears_law : List ℕ → ℕ → List ℕ → List ℕ → host_kept.Kept
  pub caller_waits_law : List ℕ → ℕ → List ℕ → List ℕ → host_kept.Kept
  pub stage : List ℕ → ℕ

-- Ours.
abbrev pub ours : Ends
ours = record {
  post_hears_law = post.kept_hears;
  post_waits_law = post.kept_waits;
  caller_hears_law = caller.kept_hears;
  caller_waits_law = caller.kept_waits;
  stage = λ st. (caller.view_in st).stage;
}

abbrev pub called_by : Ends → List ℕ → Called → Call → Called
called_by e image x (post_byte byte reply) = post_called x (e.post_hears_law x.post byte x.flash reply)
called_by e image x (post_time ms reply) = post_called x (e.post_waits_law x.post ms x.flash reply)
called_by e image x (caller_byte byte output) = caller_called x (e.caller_hears_law x.caller byte image output)
called_by e image x (caller_time ms output) = caller_called x (e.caller_waits_law x.caller ms image output)

abbrev pub called : List ℕ → Called → Call → Called
called = called_by ours

-- What a call of the caller answers; nothing where it is the post's.
abbrev pub caller_answers : Ends → List ℕ → Called → Call → ℕ
caller_answers e image x (post_byte byte reply) = number_in Nothing
caller_answers e image x (post_time ms reply) = number_in Nothing
caller_answers e image x (caller_byte byte output) = (e.caller_hears_law x.caller byte image output).answer
caller_answers e image x (caller_time ms output) = (e.caller_waits_law x.caller ms image output).answer

-- A run of them, each allowed where it comes.
abbrev pub all_by : Ends → List ℕ → Called → List Call → Called
all_by e image = after_each (called_by e image)

abbrev pub called_all : List ℕ → Called → List Call → Called
called_all = all_by ours

abbrev pub MayBy : Ends → List ℕ → Called → List Call → Type 0
MayBy e image = EachMay MayCall (called_by e image)

abbrev pub MayCalls : List ℕ → Called → List Call → Type 0
MayCalls = MayBy ours

-- What an opening by zrn_caller_open joins to any post and any flash. The first message, if it is a frame, has been sent.
abbrev pub begun : host_kept.Opened → List ℕ → List ℕ → Called
begun o post flash = record {
  caller = o.state;
  post = post;
  flash = flash;
  from_host = heard_in (take o.count o.output);
  from_board = [];
}
