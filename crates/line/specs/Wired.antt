-- A board and a host's end on one line, fed bytes: where both stand, what each has sent, the flash, and what the line feeds them.
use Rattle.std.specs.Prelude.{ℕ, take}
use mathlib.Core.List.{List, [], ◌++◌, Memᴰ}
use Rattle.octets.specs.Octets.{Bytes}
use Rattle.wire.specs.Frame.{Frame}
use Rattle.reader.specs.Reader as reader
use Rattle.reader.specs.declared.steps.Reader.{Reader}
use Rattle.module.specs.Session as module_session
use Rattle.module_promises.specs.Runs.{heard_in}
use Rattle.module_model.specs.Answers as module_answers
use Rattle.host.specs.Step as host_step
use Rattle.host_model.specs.Events as host_events
use Rattle.host_model.specs.Events.{Answer}
use Rattle.host_model.specs.declared.events.Answer.TheVariants.{Nothing}
use Rattle.host_promises.specs.Runs as host_runs
use Rattle.board_end.specs.Board.{BoardLeft, board_of, board_hears, board_waits}
use Rattle.host_end.specs.HostEnd.{HostLeft, end_of, host_hears, host_waits}
use Rattle.board_end.specs.declared.board.Board.{Board}
use Rattle.host_end.specs.declared.end.HostEnd.{HostEnd}
use Rattle.line.specs.Steps.{after_each, EachMay}
use Rattle.line.specs.Joined.{Joined}

-- Both ends, the flash, and every frame that each end has sent since the host's opening.
pub record Wired : Type 0 where
  pub host : HostEnd
  pub board : Board
  pub flash : List ℕ
  pub from_host : List Frame
  pub from_board : List Frame

-- What the line does next: a byte, sent or not, damaged or not, or some time, reaches an end, with the reply buffer or the output that
-- it is lent; or the board opens its session anew.
pub data Feed : Type 0 where
  board_byte : ℕ → List ℕ → Feed
  board_time : ℕ → List ℕ → Feed
  board_anew_law : Feed
  host_byte : ℕ → List ℕ → Feed
  host_time : ℕ → List ℕ → Feed

-- The frames that a byte completes for a reader: one or none.
abbrev pub completes : Reader → ℕ → List Frame
completes r byte = reader.frames_of (reader.step_of r byte)

-- Noise may be any, but for one thing: a frame that it completes is one that the other end has sent. Payloads are bytes.
abbrev pub Sent : List Frame → List Frame → Type 0
Sent sent fs = (f : Frame) → Memᴰ f fs → Memᴰ f sent × Bytes f.payload

abbrev pub MayFeed : Wired → Feed → Type 0
MayFeed x (board_byte byte reply) = Sent x.from_host (completes x.board.reader byte)
MayFeed x (board_time ms reply) = Unit
MayFeed x board_anew_law = Unit
MayFeed x (host_byte byte output) = Sent x.from_board (completes x.host.reader byte)
MayFeed x (host_time ms output) = Unit

-- What each end leaves of the whole.
abbrev pub board_fed : Wired → BoardLeft → Wired
board_fed x l = record {
  host = x.host;
  board = l.board;
  flash = l.flash;
  from_host = x.from_host;
  from_board = x.from_board ++ heard_in (take (module_answers.count_in l.answer) l.reply);
}

abbrev pub host_fed : Wired → HostLeft → Wired
host_fed x l = record {
  host = l.end;
  board = x.board;
  flash = x.flash;
  from_host = x.from_host ++ heard_in (take (host_events.count_in l.answer) l.output);
  from_board = x.from_board;
}

abbrev pub board_anew : Wired → Wired
board_anew x = record {
  host = x.host;
  board = board_of (module_session.opening_of x.flash).session;
  flash = x.flash;
  from_host = x.from_host;
  from_board = x.from_board;
}

abbrev pub fed : List ℕ → Wired → Feed → Wired
fed image x (board_byte byte reply) = board_fed x (board_hears x.board byte x.flash reply)
fed image x (board_time ms reply) = board_fed x (board_waits x.board ms x.flash reply)
fed image x board_anew_law = board_anew x
fed image x (host_byte byte output) = host_fed x (host_hears x.host byte image output)
fed image x (host_time ms output) = host_fed x (host_waits x.host ms image output)

-- What the host answers then; nothing where it is the board that is fed.
abbrev pub host_answers : List ℕ → Wired → Feed → Answer
host_answers image x (board_byte byte reply) = Nothing
host_answers image x (board_time ms reply) = Nothing
host_answers image x board_anew_law = Nothing
host_answers image x (host_byte byte output) = (host_hears x.host byte image output).answer
host_answers image x (host_time ms output) = (host_waits x.host ms image output).answer

-- A run of them, each allowed where it comes.
abbrev pub fed_all : List ℕ → Wired → List Feed → Wired
fed_all image = after_each (fed image)

abbrev pub MayAll : List ℕ → Wired → List Feed → Type 0
MayAll image = EachMay MayFeed (fed image)

-- What an opening of the host joins to any board and any flash. The first message, if it is a frame, has been sent.
abbrev pub wired : host_step.Left → Board → List ℕ → Wired
wired opening b flash = record {
  host = end_of opening.session;
  board = b;
  flash = flash;
  from_host = heard_in (host_runs.sent_by opening);
  from_board = [];
}

-- The same without the readers.
abbrev pub joined_in : Wired → Joined
joined_in x = record {
  host = x.host.session;
  board = x.board.session;
  flash = x.flash;
  from_host = x.from_host;
  from_board = x.from_board;
}
