-- The laws of Step.
use Rattle.refusals.specs.declared.Refusal.{Refusal}
use Rattle.std.specs.Prelude.{ℕ, ◌≤◌, ◌<◌, Bool, List, refl, ltb, Err, Ok, Result}
use Rattle.std.proofs.Math.Bool.{true, false, cond}
use Rattle.std.proofs.lemmas.Bool.{false≢true}
use Rattle.std.proofs.Math.Path.{◌≡◌, sym, ap}
use Rattle.std.proofs.Common.{◌∙◌, arith, eq-eqb, ne_eqb, lt-ltb, le-ltb}
use Rattle.std.proofs.Math.ListN.{length}
use Rattle.octets.proofs.Choice.{cond_yes, cond_no, either_way}
use Rattle.octets.specs.Octets.{over}
use Rattle.refusals.specs.Refusals.{no_room, wrong_length}
use Rattle.refusals.specs.Written.{Out, refused, written, bytes_written, number_in, count_in}
use Rattle.host.specs.Session.{stepped, arises, taken_phase}
use Rattle.host_model.specs.Waits.{wait_fits}
use Rattle.host_model.specs.Messages.{sent_of}
use Rattle.host.specs.Step.{left, sends, phase_step, step_of}
use Rattle.host_model.specs.declared.waits.Wait.{Wait}
use Rattle.host_model.specs.declared.waits.Phase.{Phase}
use Rattle.host_model.specs.declared.waits.Phase.TheVariants.{Ended, EndedAt, Waiting}
use Rattle.host.specs.declared.session.Session.{Session}
use Rattle.host_model.specs.declared.events.Event.{Event}
use Rattle.host_model.specs.declared.events.Answer.TheVariants.{Nothing, Refused}
use Rattle.host.specs.declared.session.Stepped.{Stepped}

-- ---- a message sent from a session

module _ (s : Session) (message output : List ℕ) (answer : Result ℕ Refusal) (after : List ℕ)
    (sent : record { answer = answer; output = after } ≡ sent_of message output) where
  -- A counted message was sent, and the session is the next.
  pub sends_counted : (next : ℕ → Stepped) (n : ℕ) → answer ≡ Ok n
      → left (next n) after ≡ sends s (next (length message)) message output
  unfolding sent_of sends
  sends_counted next n told = go (ltb (length output) (length message)) sent
    where
      go : (t : Bool) → record { answer = answer; output = after } ≡ cond t (refused no_room output) (written message output)
          → left (next n) after ≡ cond t (left (stepped s (Refused no_room)) output) (left (next (length message)) (over message output))
      go true e =
          let other : ◌≡◌ {A = Result ℕ Refusal} (Ok n) (Err no_room) = sym told ∙ ap (λ (o : Out). o.answer) e in cc
      go false e =
          let count : n ≡ length message = ap count_in (sym told) ∙ ap (λ (o : Out). count_in o.answer) e in
          rw (count, ap (λ (o : Out). o.output) e)

  -- A refused one left all as it was.
  pub sends_refused : (next : Stepped) (n : Refusal) → answer ≡ Err n
      → left (stepped s (Refused n)) after ≡ sends s next message output
  unfolding sent_of sends
  sends_refused next n told = go (ltb (length output) (length message)) sent
    where
      go : (t : Bool) → record { answer = answer; output = after } ≡ cond t (refused no_room output) (written message output)
          → left (stepped s (Refused n)) after ≡ cond t (left (stepped s (Refused no_room)) output) (left next (over message output))
      go true e =
          let same : ◌≡◌ {A = Result ℕ Refusal} (Err n) (Err no_room) = sym told ∙ ap (λ (o : Out). o.answer) e in
          let refusal : n ≡ no_room = cc in
          rw (refusal, ap (λ (o : Out). o.output) e)
      go false e =
          let other : ◌≡◌ {A = Result ℕ Refusal} (Err n) (Ok (length message)) = sym told ∙ ap (λ (o : Out). o.answer) e in cc

-- ---- the ways of a step: 3, or by its phase

-- A waiting session that arises could.
pub arisen : (s : Session) (w : Wait) → arises s ≡ true → s.phase ≡ Waiting w → wait_fits s.image w ≡ true
unfolding arises
arisen s w h told = rw told at h

module _ (s : Session) (e : Event) (bytes image output : List ℕ) where
  -- An image of another length is refused with 3.
  pub step_wrong_length : (length image ≡ s.image → ⊥)
      → step_of s e bytes image output ≡ left (stepped s (Refused wrong_length)) output
  unfolding step_of
  step_wrong_length n = rw (ne_eqb (length image) s.image n)

  -- One that could arise goes by its phase.
  pub step_phase : length image ≡ s.image → arises s ≡ true → (phase : Phase) → s.phase ≡ phase
      → step_of s e bytes image output ≡ phase_step s phase e bytes image output
  unfolding step_of
  step_phase l a phase told =
      rw (eq-eqb (length image) s.image l, a) (ap (λ (p : Phase). phase_step s p e bytes image output) told)

-- ---- how far a session is taken to be

pub taken_arisen : (s : Session) → arises s ≡ true → s.phase ≡ taken_phase s
unfolding taken_phase
taken_arisen s h = sym (cond_yes _ _ _ h)

pub taken_never : (s : Session) → arises s ≡ false → Ended ≡ taken_phase s
unfolding taken_phase
taken_never s h = sym (cond_no _ _ _ h)

-- Whether a phase waits.
abbrev is_waiting : Phase → Bool
is_waiting Ended = false
is_waiting (EndedAt kind rate) = false
is_waiting (Waiting w) = true

-- One that is taken to wait has numbers that could arise.
pub taken_waits : (s : Session) (w : Wait) → taken_phase s ≡ Waiting w → wait_fits s.image w ≡ true
unfolding taken_phase
taken_waits s w =
    either_way (λ (p : Phase). p ≡ Waiting w → wait_fits s.image w ≡ true) (arises s)
    (λ a told. arisen s w a told)
    (λ a told. absurd (false≢true (ap is_waiting told)))

-- A step goes by that phase.
pub step_taken : (s : Session) (e : Event) (bytes image output : List ℕ) → length image ≡ s.image → (phase : Phase)
    → taken_phase s ≡ phase → step_of s e bytes image output ≡ phase_step s phase e bytes image output
unfolding step_of taken_phase
step_taken s e bytes image output same phase told =
    rw (eq-eqb (length image) s.image same)
    (choose (arises s) ∙ ap (λ (p : Phase). phase_step s p e bytes image output) told)
  where
    choose : (t : Bool) → cond t (phase_step s s.phase e bytes image output) (left (stepped s Nothing) output)
        ≡ phase_step s (cond t s.phase Ended) e bytes image output
    choose true = refl
    choose false = refl

-- ---- room

-- A message is sent where there is room, else all stays as lent.
pub sends_fits : (s : Session) (next : Stepped) (message output : List ℕ) → length message ≤ length output
    → sends s next message output ≡ left next (over message output)
unfolding sends
sends_fits s next message output h = cond_no _ _ _ (le-ltb (length output) (length message) h)

pub sends_short : (s : Session) (next : Stepped) (message output : List ℕ) → length output < length message
    → sends s next message output ≡ left (stepped s (Refused no_room)) output
unfolding sends
sends_short s next message output h = cond_yes _ _ _ (lt-ltb (length output) (length message) h)
