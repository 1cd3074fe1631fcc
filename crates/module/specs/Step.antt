-- What a step answers and leaves: the session, the answer, the flash, the reply buffer.
use Rattle.std.specs.Prelude.{ℕ, ◌+◌, ◌-◌, cond, List, [], ◌∷◌, ◌++◌, eqb, ltb, leb, length, take}
use Rattle.octets.specs.Octets.{over}
use Rattle.refusals.specs.Refusals.{no_room, wrong_length}
use Rattle.wire.specs.Frame.{Frame, wire_of}
use Rattle.module_model.specs.Phases.{longest_idle, closing_idle}
use Rattle.module_model.specs.Rules.{frames_of, put_of, decide_of}
use Rattle.module.specs.Session.{session, stepped, takes}
use Rattle.module_model.specs.declared.phases.Phase.TheVariants.{Closed}
use Rattle.module_model.specs.declared.events.Event.{Event}
use Rattle.module_model.specs.declared.events.Event.TheVariants.{Elapsed}
use Rattle.module_model.specs.declared.events.Event.TheVariants as event
use Rattle.module_model.specs.Answers.{Answer}
use Rattle.module_model.specs.declared.events.Answer.TheVariants.{Nothing, Sent, Refused}
use Rattle.module_model.specs.declared.rules.Decision.{Decision}
use Rattle.module.specs.declared.session.Session.{Session}
use Rattle.module.specs.declared.session.Stepped.{Stepped}

-- All that a step leaves.
pub record Left : Type 0 where
  pub session : Session
  pub answer : Answer
  pub flash : List ℕ
  pub reply : List ℕ

abbrev pub left : Stepped → List ℕ → List ℕ → Left
left r flash reply = record { session = r.session; answer = r.answer; flash = flash; reply = reply }

-- The smallest reply buffer.
abbrev pub smallest_reply : ℕ
smallest_reply = 64

-- The wire forms of some frames, one behind the other.
unfoldable pub wires_of : List Frame → List ℕ
wires_of [] = []
wires_of (f ∷ fs) = wire_of f ++ wires_of fs

-- So many bytes are sent, or nothing where there is no frame.
abbrev pub answer_of : List Frame → Answer
answer_of [] = Nothing
answer_of (f ∷ fs) = Sent (length (wires_of (f ∷ fs)))

-- What a decision leaves: the phase is moved, the sum starts anew, the data are put, the frames stand in the reply buffer.
abbrev pub performed : Session → Decision → List ℕ → List ℕ → List ℕ → Left
performed s d payload flash reply =
    left (stepped (session s.flash 0 d.phase) (answer_of (frames_of d.say))) (put_of d.put payload flash)
    (over (wires_of (frames_of d.say)) reply)

-- A frame given to an open session.
unfoldable pub frame_step : Session → ℕ → List ℕ → List ℕ → List ℕ → Left
frame_step s command payload flash reply = performed s (decide_of s.phase command payload flash) payload flash reply

-- Milliseconds in an open session: a sum of at most 7,000 is kept, one over it closes and stops at 7,001.
unfoldable pub time_step : Session → ℕ → Stepped
time_step s ms =
    cond (leb ms (longest_idle - s.idle)) (stepped (session s.flash (s.idle + ms) s.phase) Nothing)
    (stepped (session s.flash closing_idle Closed) Nothing)

-- An event in an open session. The payload is the first count bytes of the slice, or all of it where it is shorter.
abbrev pub event_step : Session → Event → List ℕ → List ℕ → List ℕ → Left
event_step s (event.Frame command count) payload flash reply = frame_step s command (take count payload) flash reply
event_step s (Elapsed ms) payload flash reply = left (time_step s ms) flash reply

-- Any event in any session: 2, then 3; a session that is closed or could not arise answers nothing and is handed back.
unfoldable pub step_of : Session → Event → List ℕ → List ℕ → List ℕ → Left
step_of s e payload flash reply =
    cond (ltb (length reply) smallest_reply) (left (stepped s (Refused no_room)) flash reply)
    (cond (eqb (length flash) s.flash)
    (cond (takes s) (event_step s e payload flash reply) (left (stepped s Nothing) flash reply))
    (left (stepped s (Refused wrong_length)) flash reply))
