-- A board fed bytes: the reader's step, and the session's where a frame is complete.
use Rattle.std.specs.Prelude.{ℕ, Bool, true, false, List, []}
use Rattle.reader.specs.Reader.{fresh, payload_in}
use Rattle.reader.specs.Reader as reader
use Rattle.reader.specs.declared.steps.Reader.{Reader}
use Rattle.reader.specs.declared.steps.Heard.{Heard}
use Rattle.reader.specs.declared.steps.Heard.TheVariants.{Nothing, Frame, Dropped}
use Rattle.module.specs.Step.{Left, step_of}
use Rattle.module.specs.declared.session.Session.{Session}
use Rattle.module_model.specs.declared.events.Event.TheVariants as event
use Rattle.module_model.specs.Answers.{Answer}
use Rattle.module_model.specs.declared.events.Answer.TheVariants as answer
use Rattle.board_end.specs.declared.board.Board.{Board}
use Rattle.board_end.specs.declared.board.BoardStep.{BoardStep}

-- All that a byte or a time leaves.
pub record BoardLeft : Type 0 where
  pub board : Board
  pub answer : Answer
  pub dropped : Bool
  pub flash : List ℕ
  pub reply : List ℕ

abbrev pub board_left : BoardStep → List ℕ → List ℕ → BoardLeft
board_left r flash reply = record { board = r.board; answer = r.answer; dropped = r.dropped; flash = flash; reply = reply }

abbrev pub board_with : Reader → Session → Board
board_with r s = record { reader = r; session = s }

-- A board at the start: a fresh reader.
abbrev pub board_of : Session → Board
board_of s = board_with fresh s

abbrev pub unheard_step : Reader → Session → Bool → BoardStep
unheard_step r s dropped = record { board = board_with r s; answer = answer.Nothing; dropped = dropped }

-- A byte that completes no frame: session, flash and reply stay.
abbrev pub unheard : Reader → Session → Bool → List ℕ → List ℕ → BoardLeft
unheard r s dropped flash reply =
    record { board = board_with r s; answer = answer.Nothing; dropped = dropped; flash = flash; reply = reply }

-- What the session leaves, beside the reader.
abbrev pub beside : Reader → Left → BoardLeft
beside r l = record { board = board_with r l.session; answer = l.answer; dropped = false; flash = l.flash; reply = l.reply }

-- The session takes the frame that the reader has handed out.
unfoldable pub frame_heard : Reader → Session → ℕ → ℕ → List ℕ → List ℕ → BoardLeft
frame_heard r s command n flash reply = beside r (step_of s (event.Frame command n) (payload_in r.store n) flash reply)

abbrev pub heard_by : Heard → Reader → Session → List ℕ → List ℕ → BoardLeft
heard_by Nothing r s flash reply = unheard r s false flash reply
heard_by (Frame command n) r s flash reply = frame_heard r s command n flash reply
heard_by Dropped r s flash reply = unheard r s true flash reply

-- One byte.
unfoldable pub board_hears : Board → ℕ → List ℕ → List ℕ → BoardLeft
board_hears b byte flash reply =
    heard_by (reader.step_of b.reader byte).heard (reader.step_of b.reader byte).reader b.session flash reply

-- Some milliseconds.
unfoldable pub board_waits : Board → ℕ → List ℕ → List ℕ → BoardLeft
board_waits b ms flash reply = beside b.reader (step_of b.session (event.Elapsed ms) [] flash reply)
