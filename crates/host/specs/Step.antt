-- What an opening and a step of the host answer and leave: the session, the answer, the output.
use Rattle.std.specs.Prelude.{ℕ, cond, List, eqb, ltb, length, None, Option, Some}
use Rattle.octets.specs.Octets.{over}
use Rattle.refusals.specs.Refusals.{no_room, wrong_length, wrong_type}
use Rattle.kinds.specs.Kinds.{kind_of}
use Rattle.kinds.specs.declared.Kind.{Kind}
use Rattle.commands.specs.Commands.{restart_frame}
use Rattle.host_model.specs.Views.{failed_phase}
use Rattle.host_model.specs.Waits.{wait}
use Rattle.host_model.specs.Messages.{goes_out, message_of}
use Rattle.host_model.specs.Nexts.{resend_next, move_next, time_next, event_next, plan_next}
use Rattle.host_model.specs.declared.plan.Rate.{Rate}
use Rattle.host_model.specs.declared.plan.Start.{Start}
use Rattle.host_model.specs.declared.plan.Same.{Same}
use Rattle.host_model.specs.declared.plan.Plan.{Plan}
use Rattle.host_model.specs.declared.plan.Stage.{Stage}
use Rattle.host_model.specs.declared.answers.Move.{Move}
use Rattle.host_model.specs.declared.waits.Wait.{Wait}
use Rattle.host_model.specs.declared.waits.Phase.{Phase}
use Rattle.host_model.specs.declared.waits.Phase.TheVariants.{Ended, EndedAt, Waiting}
use Rattle.host_model.specs.declared.events.Event.{Event}
use Rattle.host_model.specs.Events.{Answer}
use Rattle.host_model.specs.declared.events.Answer.TheVariants.{Nothing, Sent, Refused, Failed}
use Rattle.host_model.specs.declared.nexts.Next.{Next}
use Rattle.host_model.specs.declared.nexts.Next.TheVariants.{Stays, Waits, Sends, Ends, Fails}
use Rattle.host.specs.Session.{session, stepped, arises}
use Rattle.host.specs.declared.session.Session.{Session}
use Rattle.host.specs.declared.session.Stepped.{Stepped}

-- All that an opening or a step leaves.
pub record Left : Type 0 where
  pub session : Session
  pub answer : Answer
  pub output : List ℕ

abbrev pub left : Stepped → List ℕ → Left
left r output = record { session = r.session; answer = r.answer; output = output }

-- A message is sent from a session that becomes another; 2 where the output is shorter, and all stays as lent.
unfoldable pub sends : Session → Stepped → List ℕ → List ℕ → Left
sends s next message output =
    cond (ltb (length output) (length message)) (left (stepped s (Refused no_room)) output) (left next (over message output))

-- A session over an image that waits, one that has ended, and one that ends with the restart frame.
abbrev pub waiting_of : ℕ → Plan → Stage → ℕ → ℕ → Session
waiting_of image plan stage waited repeats = session image (Waiting (wait plan stage waited repeats))

abbrev pub ended_of : ℕ → Session
ended_of image = session image Ended

abbrev pub failed_of : Session → ℕ → Session
failed_of s image = session image (failed_phase s.phase)

-- What follows an event or an opening, performed: a message is sent, or none, and the session becomes what it then is. With 21 and 22
-- the restart frame is sent, the module's byte passed on, and the session ends, keeping the rate of that frame.
abbrev pub performs : Session → Next → List ℕ → List ℕ → Left
performs s Stays image output = left (stepped s Nothing) output
performs s (Waits w) image output = left (stepped (session (length image) (Waiting w)) Nothing) output
performs s (Sends w) image output =
    sends s (stepped (session (length image) (Waiting w)) (Sent (length (message_of w.plan image w.stage))))
    (message_of w.plan image w.stage) output
performs s (Ends answer) image output = left (stepped (ended_of (length image)) answer) output
performs s (Fails number passed) image output =
    sends s (stepped (failed_of s (length image)) (Failed number passed (length (goes_out restart_frame)))) (goes_out restart_frame) output

-- A stage is entered with its message, and a message sent again.
abbrev pub enters : Session → Plan → Stage → List ℕ → List ℕ → Left
enters s plan stage image output = performs s (Sends (wait plan stage 0 0)) image output

abbrev pub resends : Session → Wait → List ℕ → List ℕ → Left
resends s w image output = performs s (resend_next w) image output

-- An event in a session that waits: a move, milliseconds, either.
abbrev pub moved : Session → Wait → Move → List ℕ → List ℕ → Left
moved s w move image output = performs s (move_next w move) image output

abbrev pub time_step : Session → Wait → ℕ → List ℕ → List ℕ → Left
time_step s w ms image output = performs s (time_next w ms) image output

abbrev pub event_step : Session → Wait → Event → List ℕ → List ℕ → List ℕ → Left
event_step s w event bytes image output = performs s (event_next w (length image) event bytes) image output

abbrev pub phase_step : Session → Phase → Event → List ℕ → List ℕ → List ℕ → Left
phase_step s Ended event bytes image output = left (stepped s Nothing) output
phase_step s (EndedAt kind rate) event bytes image output = left (stepped s Nothing) output
phase_step s (Waiting w) event bytes image output = event_step s w event bytes image output

-- Any event in any session: 3 for an image of another length; a session that has ended or could not arise answers nothing and is
-- handed back as it came.
unfoldable pub step_of : Session → Event → List ℕ → List ℕ → List ℕ → Left
step_of s event bytes image output =
    cond (eqb (length image) s.image)
    (cond (arises s) (phase_step s s.phase event bytes image output) (left (stepped s Nothing) output))
    (left (stepped s (Refused wrong_length)) output)

-- ---- the opening

-- What a session is opened with besides type and image.
pub record Wishes : Type 0 where
  pub first : Rate
  pub wish : ℕ
  pub start : Start
  pub same : Same

abbrev pub plan_of : Kind → Wishes → Plan
plan_of kind w = record { kind = kind; first = w.first; wish = w.wish; start = w.start; same = w.same }

-- A refused opening gives an ended session that keeps the length: 8 for an image that cannot be loaded, then 2.
abbrev pub plan_opening : Plan → List ℕ → List ℕ → Left
plan_opening plan image output = performs (ended_of (length image)) (plan_next plan (length image)) image output

abbrev pub known_opening : Option Kind → Wishes → List ℕ → List ℕ → Left
known_opening (Some kind) w image output = plan_opening (plan_of kind w) image output
known_opening None w image output = left (stepped (ended_of (length image)) (Refused wrong_type)) output

-- 6 for a type that is not known; else the first text or frame is sent.
unfoldable pub opening_of : ℕ → Wishes → List ℕ → List ℕ → Left
opening_of number w image output = known_opening (kind_of number) w image output
