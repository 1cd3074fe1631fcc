-- A host and a module joined by a line: where both ends stand, what each has sent, the flash, and the moves.
use Rattle.std.specs.Prelude.{ℕ, length}
use mathlib.Core.List.{List, [], ◌++◌, Memᴰ}
use Rattle.octets.specs.Octets.{Bytes}
use Rattle.wire.specs.Frame.{Frame}
use Rattle.module.specs.Session as module_session
use Rattle.module.specs.Step as module_step
use Rattle.module_promises.specs.Runs.{heard_in}
use Rattle.module_promises.specs.Runs as module_runs
use Rattle.module.specs.declared.session.Session as module_declared
use Rattle.module_model.specs.declared.events.Event.TheVariants as module_event
use Rattle.host.specs.Step as host_step
use Rattle.host_promises.specs.Runs as host_runs
use Rattle.host.specs.declared.session.Session as host_declared
use Rattle.host_model.specs.declared.events.Event.TheVariants as host_event
use Rattle.host_model.specs.declared.events.Answer.TheVariants.{Nothing}
use Rattle.line.specs.Steps.{after_each, EachMay}

abbrev pub ModuleSession : Type 0
ModuleSession = module_declared.Session

abbrev pub HostSession : Type 0
HostSession = host_declared.Session

-- Both sessions, the flash, and every frame that each end has sent since the host's opening: those a reader hears in its bytes.
pub record Joined : Type 0 where
  pub host : HostSession
  pub board : ModuleSession
  pub flash : List ℕ
  pub from_host : List Frame
  pub from_board : List Frame

-- What the line does next, with the reply buffer or the output that the end is lent for it. Nothing says when, how often or in which
-- order frames arrive, or that they arrive at all: so frames may be lost, repeated, delayed and reordered.
pub data Move : Type 0 where
  -- the module takes a frame; time passes there; the board opens a session anew, as it does on the start text;
  board_hears_law : Frame → List ℕ → Move
  board_waits_law : ℕ → List ℕ → Move
  board_opens_law : Move
  -- the host takes a frame, or a line of text; time passes there.
  host_hears_law : Frame → List ℕ → Move
  host_reads : List ℕ → List ℕ → Move
  host_waits_law : ℕ → List ℕ → Move

-- An end is handed only a frame that the other end has sent. Its payload is bytes, as the types of the calls have it. Lines of text are
-- any.
abbrev pub May : Joined → Move → Type 0
May j (board_hears_law f reply) = Memᴰ f j.from_host × Bytes f.payload
May j (board_waits_law ms reply) = Unit
May j board_opens_law = Unit
May j (host_hears_law f output) = Memᴰ f j.from_board × Bytes f.payload
May j (host_reads line output) = Bytes line
May j (host_waits_law ms output) = Unit

-- What an end leaves when it takes a frame; the payload is all of what is lent beside it.
abbrev pub host_gets : List ℕ → List ℕ → HostSession → Frame → host_step.Left
host_gets image output s f = host_step.step_of s (host_event.Frame f.command (length f.payload)) f.payload image output

abbrev pub board_gets : List ℕ → List ℕ → ModuleSession → Frame → module_step.Left
board_gets flash reply s f = module_step.step_of s (module_event.Frame f.command (length f.payload)) f.payload flash reply

-- What a step of the module and one of the host leave of the whole.
abbrev pub board_takes : Joined → module_step.Left → Joined
board_takes j l = record {
  host = j.host;
  board = l.session;
  flash = l.flash;
  from_host = j.from_host;
  from_board = j.from_board ++ heard_in (module_runs.sent_by l);
}

abbrev pub host_takes : Joined → host_step.Left → Joined
host_takes j l = record {
  host = l.session;
  board = j.board;
  flash = j.flash;
  from_host = j.from_host ++ heard_in (host_runs.sent_by l);
  from_board = j.from_board;
}

abbrev pub board_opens : Joined → Joined
board_opens j = record {
  host = j.host;
  board = (module_session.opening_of j.flash).session;
  flash = j.flash;
  from_host = j.from_host;
  from_board = j.from_board;
}

-- What the host is given in a move: the image is the same at every step, and nothing where the move is the module's.
abbrev pub host_leaves : List ℕ → Joined → Move → host_step.Left
host_leaves image j (board_hears_law f reply) = host_step.left (record { session = j.host; answer = Nothing }) []
host_leaves image j (board_waits_law ms reply) = host_step.left (record { session = j.host; answer = Nothing }) []
host_leaves image j board_opens_law = host_step.left (record { session = j.host; answer = Nothing }) []
host_leaves image j (host_hears_law f output) = host_gets image output j.host f
host_leaves image j (host_reads line output) = host_step.step_of j.host (host_event.Line (length line)) line image output
host_leaves image j (host_waits_law ms output) = host_step.step_of j.host (host_event.Elapsed ms) [] image output

-- A move. Nobody else writes the flash: each step of the module is lent it as the last one left it.
abbrev pub after : List ℕ → Joined → Move → Joined
after image j (board_hears_law f reply) = board_takes j (board_gets j.flash reply j.board f)
after image j (board_waits_law ms reply) = board_takes j (module_step.step_of j.board (module_event.Elapsed ms) [] j.flash reply)
after image j board_opens_law = board_opens j
after image j (host_hears_law f output) = host_takes j (host_leaves image j (host_hears_law f output))
after image j (host_reads line output) = host_takes j (host_leaves image j (host_reads line output))
after image j (host_waits_law ms output) = host_takes j (host_leaves image j (host_waits_law ms output))

-- A run of moves, each allowed where it is made.
abbrev pub after_all : List ℕ → Joined → List Move → Joined
after_all image = after_each (after image)

abbrev pub Allowed : List ℕ → Joined → List Move → Type 0
Allowed image = EachMay May (after image)

-- What an opening of the host joins to any session of the module and any flash: the first frame, if it is one, has been sent.
abbrev pub joined : host_step.Left → ModuleSession → List ℕ → Joined
joined opening s flash = record {
  host = opening.session;
  board = s;
  flash = flash;
  from_host = heard_in (host_runs.sent_by opening);
  from_board = [];
}
