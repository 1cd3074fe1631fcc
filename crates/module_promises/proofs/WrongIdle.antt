-- Wrong steps that break M4: one closes at 7,000, one stays open at 7,001, one does not set the sum to 0 at a frame, one closes by an
-- unknown command, one answers when closed.
use Rattle.std.specs.Prelude.{ℕ, ◌+◌, Bool, true, false, cond, List, [], ◌∷◌, ◌≡◌, refl, eqb, leb}
use Rattle.std.proofs.lemmas.Bool.{false≢true}
use Rattle.std.proofs.Common.{sym, ap, arith}
use Rattle.commands.specs.Commands.{rate_command}
use Rattle.module_model.specs.Phases.{longest_idle, closing_idle, openable, alive, is_closed}
use Rattle.module_model.specs.Rules as rules
use Rattle.module.specs.Session.{session, takes}
use Rattle.module.specs.Step.{Left, frame_step, step_of}
use Rattle.module_promises.specs.Runs.{Step, Given}
use Rattle.module_promises.specs.Promises.{Closes, idle, restart, IdleRuleOf, ClosedLeavesOf}
use Rattle.module_promises.proofs.When.{command_in}
use Rattle.module_promises.proofs.Tiny.{zeros64}
use Rattle.module_promises.proofs.WrongRules.{leaving}
use Rattle.module_model.specs.declared.phases.Phase.TheVariants.{Closed, Ready}
use Rattle.module_model.specs.declared.events.Event.{Event}
use Rattle.module_model.specs.declared.events.Event.TheVariants.{Frame, Elapsed}
use Rattle.module_model.specs.Answers.{Answer}
use Rattle.module_model.specs.declared.events.Answer.TheVariants.{Nothing, Sent, Refused}
use Rattle.module.specs.declared.session.Session.{Session}

-- A ready session over a flash of one byte that has waited 5 ms.
abbrev waited : Session
waited = session 1 5 Ready

waited_takes : takes waited ≡ true
unfolding takes alive openable
waited_takes = refl

abbrev closed_in : Left → Bool
closed_in l = is_closed l.session.phase

abbrev idle_in : Left → ℕ
idle_in l = l.session.idle

-- ---- a sum of exactly 7,000 closes

abbrev by_time : Event → (ℕ → Left) → Left → Left
by_time (Frame command count) time frame = frame
by_time (Elapsed ms) time frame = time ms

abbrev pub closes_at7000 : Step
closes_at7000 s e payload flash reply =
    let l = step_of s e payload flash reply in
    by_time e (λ ms. cond (leb longest_idle (s.idle + ms)) (leaving (session s.flash closing_idle Closed) l) l) l

pub closes_at_7000_refuted : IdleRuleOf closes_at7000 → ⊥
closes_at_7000_refuted promise =
    false≢true (sym (ap closed_in ((promise waited waited_takes).stays 6995 [] (0 ∷ []) zeros64 (omega arith) refl (omega arith))))

-- ---- a sum of 7,001 stays open

abbrev pub stays_at7001 : Step
stays_at7001 s e payload flash reply =
    let l = step_of s e payload flash reply in
    by_time e (λ ms. cond (eqb (s.idle + ms) closing_idle) (leaving (session s.flash (s.idle + ms) s.phase) l) l) l

pub stays_at_7001_refuted : IdleRuleOf stays_at7001 → ⊥
stays_at_7001_refuted promise =
    false≢true (ap closed_in ((promise waited waited_takes).closes 6996 [] (0 ∷ []) zeros64 (omega arith) refl (omega arith)))

-- ---- a frame leaves the sum

-- An unknown command.
abbrev unknown : Given
unknown = record { event = Frame 7 0; payload = []; flash = 0 ∷ []; reply = zeros64 }

abbrev by_frame : Event → Left → Left → Left
by_frame (Frame command count) frame time = frame
by_frame (Elapsed ms) frame time = time

abbrev pub keeps_sum : Step
keeps_sum s e payload flash reply =
    let l = step_of s e payload flash reply in
    by_frame e (leaving (session l.session.flash s.idle l.session.phase) l) l

pub keeps_sum_refuted : IdleRuleOf keeps_sum → ⊥
unfolding step_of frame_step takes alive openable rules.decide_of
keeps_sum_refuted promise =
    let same : ◌≡◌ {A = ℕ} 5 0 = (promise waited waited_takes).restarts unknown 7 0 refl refl in
    omega (arith, same)

-- ---- an unknown command closes

abbrev closes_unknown : Event → Left → Left → Left
closes_unknown (Frame command count) frame other = cond (eqb command 7) frame other
closes_unknown (Elapsed ms) frame other = other

abbrev pub closes_by_unknown : Step
closes_by_unknown s e payload flash reply =
    let l = step_of s e payload flash reply in closes_unknown e (leaving (session s.flash 0 Closed) l) l

pub closes_by_unknown_refuted : IdleRuleOf closes_by_unknown → ⊥
closes_by_unknown_refuted promise = go ((promise waited waited_takes).only unknown tt refl)
  where
    go : Closes closes_by_unknown waited unknown → ⊥
    go (idle ms e over) = omega (arith, ap command_in e)
    go (restart count e said) = omega (arith, ap command_in e)

-- ---- a closed session answers

abbrev closed : Session
closed = session 1 0 Closed

closed_takes : takes closed ≡ false
unfolding takes alive openable
closed_takes = refl

abbrev asked : Given
asked = record { event = Frame rate_command 1; payload = 1 ∷ []; flash = 0 ∷ []; reply = zeros64 }

abbrev is_sent : Answer → Bool
is_sent Nothing = false
is_sent (Sent n) = true
is_sent (Refused n) = false

-- Our step, but a frame is answered whether the session is open or not.
abbrev always : Event → List ℕ → Session → List ℕ → List ℕ → Left → Left
always (Frame command count) payload s flash reply l = frame_step s command payload flash reply
always (Elapsed ms) payload s flash reply l = l

abbrev pub answers_closed : Step
answers_closed s e payload flash reply = always e payload s flash reply (step_of s e payload flash reply)

pub answers_closed_refuted : ClosedLeavesOf answers_closed → ⊥
unfolding frame_step rules.decide_of rules.rate_decision
answers_closed_refuted promise =
    false≢true (sym (ap (λ (l : Left). is_sent l.answer) (promise closed asked closed_takes refl)))
