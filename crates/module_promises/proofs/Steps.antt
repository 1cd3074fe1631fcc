-- What a step can be, and what the frame that an open session is given can do.
use Rattle.refusals.specs.declared.Refusal.{Refusal}
use Rattle.std.specs.Prelude.{ℕ, true, false, List, ◌≡◌, refl, eqb, ltb, length}
use Rattle.std.proofs.Common.{sym, eqb-true}
use Rattle.octets.specs.Octets.{Bytes}
use Rattle.octets.proofs.Choice.{either_way}
use Rattle.octets.proofs.Lists.{bytes_take}
use Rattle.refusals.specs.Refusals.{no_room, wrong_length}
use Rattle.module_model.specs.Rules.{decide_of}
use Rattle.module_model.proofs.Outcomes.{Outcome, outcome}
use Rattle.module.specs.Session.{stepped, takes}
use Rattle.module.specs.SessionLaws.{takes_facts}
use Rattle.module.specs.Step.{Left, left, performed, time_step, frame_step, event_step, step_of, smallest_reply}
use Rattle.module_promises.specs.Runs.{Given, exchange, payload_of, payload_in}
use Rattle.module_model.specs.declared.events.Event.{Event}
use Rattle.module_model.specs.declared.events.Event.TheVariants.{Frame, Elapsed}
use Rattle.module_model.specs.declared.events.Answer.TheVariants as answer
use Rattle.module.specs.declared.session.Session.{Session}

-- What a step can be: refused; not taken; time in an open session; a frame in an open session.
pub data Case (s : Session) (g : Given) (x : Left) : Type 0 where
  refuses : (n : Refusal) → x ≡ left (stepped s (answer.Refused n)) g.flash g.reply → Case s g x
  sleeps : takes s ≡ false → x ≡ left (stepped s answer.Nothing) g.flash g.reply → Case s g x
  waits : takes s ≡ true → length g.flash ≡ s.flash → (ms : ℕ) → g.event ≡ Elapsed ms → x ≡ left (time_step s ms) g.flash g.reply
      → Case s g x
  hears : takes s ≡ true → length g.flash ≡ s.flash → (command count : ℕ) → g.event ≡ Frame command count
      → x ≡ performed s (decide_of s.phase command (payload_of g) g.flash) (payload_of g) g.flash g.reply → Case s g x

-- An event in an open session.
event_step_law : (s : Session) (e : Event) (payload flash reply : List ℕ) → takes s ≡ true → length flash ≡ s.flash
    → Case s (record { event = e; payload = payload; flash = flash; reply = reply }) (event_step s e payload flash reply)
unfolding frame_step
event_step_law s (Frame command count) payload flash reply t size = hears t size command count refl refl
event_step_law s (Elapsed ms) payload flash reply t size = waits t size ms refl refl

-- Any step.
pub step_of_law : (s : Session) (g : Given) → Case s g (exchange s g).left
unfolding step_of
step_of_law s g =
    either_way (Case s g) (ltb (length g.reply) smallest_reply) (λ r. refuses no_room refl) (λ r.
    either_way (Case s g) (eqb (length g.flash) s.flash)
    (λ f. either_way (Case s g) (takes s)
    (λ t. event_step_law s g.event g.payload g.flash g.reply t (eqb-true (length g.flash) s.flash f))
    (λ t. sleeps t refl))
    (λ f. refuses wrong_length refl))

-- What the frame that an open session is given does.
pub outcome_of : (s : Session) (g : Given) → Bytes g.payload → takes s ≡ true → length g.flash ≡ s.flash → (command : ℕ)
    → Outcome s.phase command (payload_of g) g.flash (decide_of s.phase command (payload_of g) g.flash)
outcome_of s g bytes t size command =
    outcome s.phase command (payload_of g) g.flash (event_bytes g.event) (rw (sym size) at (takes_facts s t).1)
  where
    event_bytes : (e : Event) → Bytes (payload_in e g.payload)
    event_bytes (Frame command count) = bytes_take count g.payload bytes
    event_bytes (Elapsed ms) = tt
