-- A host's end fed bytes: the reader's step, and the session's where a frame or the answer to the start text is complete.
use Rattle.std.specs.Prelude.{ℕ, Bool, true, false, cond, List, [], eqb, length}
use Rattle.commands.specs.Commands.{start_answer}
use Rattle.reader.specs.Reader.{fresh, payload_in}
use Rattle.reader.specs.Reader as reader
use Rattle.reader.specs.declared.steps.Reader.{Reader}
use Rattle.reader.specs.declared.steps.Heard.{Heard}
use Rattle.reader.specs.declared.steps.Heard.TheVariants.{Nothing, Frame, Dropped}
use Rattle.host.specs.Step.{Left, step_of}
use Rattle.host.specs.declared.session.Session.{Session}
use Rattle.host_model.specs.declared.events.Event.TheVariants as event
use Rattle.host_model.specs.Events.{Answer}
use Rattle.host_model.specs.declared.events.Answer.TheVariants as answer
use Rattle.host_end.specs.Text.{followed}
use Rattle.host_end.specs.declared.end.HostEnd.{HostEnd}
use Rattle.host_end.specs.declared.end.HostStep.{HostStep}

-- All that a byte or a time leaves.
pub record HostLeft : Type 0 where
  pub end : HostEnd
  pub answer : Answer
  pub dropped : Bool
  pub output : List ℕ

abbrev pub host_left : HostStep → List ℕ → HostLeft
host_left r output = record { end = r.end; answer = r.answer; dropped = r.dropped; output = output }

abbrev pub end_with : Reader → ℕ → Session → HostEnd
end_with r seen s = record { reader = r; seen = seen; session = s }

abbrev pub host_step : Reader → ℕ → Session → Answer → Bool → HostStep
host_step r seen s answer dropped = record { end = end_with r seen s; answer = answer; dropped = dropped }

-- A host's end at the start: a fresh reader, no text heard.
abbrev pub end_of : Session → HostEnd
end_of s = end_with fresh 0 s

-- What the session leaves, beside the reader.
abbrev pub beside : Reader → ℕ → Bool → Left → HostLeft
beside r seen dropped l = record { end = end_with r seen l.session; answer = l.answer; dropped = dropped; output = l.output }

-- The session takes the frame that the reader has handed out.
unfoldable pub frame_heard : Reader → ℕ → Session → ℕ → ℕ → List ℕ → List ℕ → HostLeft
frame_heard r seen s command n image output =
    beside r seen false (step_of s (event.Frame command n) (payload_in r.store n) image output)

-- No frame: the session takes the answer to the start text where all of it has now been heard.
unfoldable pub line_heard : Reader → ℕ → Session → Bool → List ℕ → List ℕ → HostLeft
line_heard r seen s dropped image output =
    cond (eqb seen (length start_answer))
    (beside r seen dropped (step_of s (event.Line (length start_answer)) start_answer image output))
    (record { end = end_with r seen s; answer = answer.Nothing; dropped = dropped; output = output })

abbrev pub heard_by : Heard → Reader → ℕ → Session → List ℕ → List ℕ → HostLeft
heard_by Nothing r seen s image output = line_heard r seen s false image output
heard_by (Frame command n) r seen s image output = frame_heard r seen s command n image output
heard_by Dropped r seen s image output = line_heard r seen s true image output

-- One byte.
unfoldable pub host_hears : HostEnd → ℕ → List ℕ → List ℕ → HostLeft
host_hears e byte image output =
    heard_by (reader.step_of e.reader byte).heard (reader.step_of e.reader byte).reader (followed start_answer e.seen byte)
    e.session image output

-- Some milliseconds.
unfoldable pub host_waits : HostEnd → ℕ → List ℕ → List ℕ → HostLeft
host_waits e ms image output = beside e.reader e.seen false (step_of e.session (event.Elapsed ms) [] image output)
