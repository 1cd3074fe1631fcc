-- M4, over a run: the idle sum of an open session is the time since its last frame.
use Rattle.std.specs.Prelude.{ℕ, ◌-◌, true, cond, List, [], ◌∷◌, ◌≡◌, refl, leb, length}
use Rattle.std.proofs.lemmas.Bool.{false≢true}
use Rattle.std.proofs.Common.{sym, ◌∙◌}
use Rattle.octets.proofs.Choice.{either_way}
use Rattle.module_model.specs.Phases.{longest_idle, openable}
use Rattle.module_model.specs.Rules.{frames_of, decide_of}
use Rattle.module_model.proofs.Leads.{held_open}
use Rattle.module_model.specs.Answers.{is_refused}
use Rattle.module.specs.Session.{session, opening_of, takes}
use Rattle.module.specs.SessionLaws.{takes_facts}
use Rattle.module.specs.Step.{Left, time_step}
use Rattle.module_promises.specs.Runs.{Given, exchange, next_of, after_of, after_by, run_of, run_by, payload_of}
use Rattle.module_promises.proofs.Steps.{Case, refuses, sleeps, waits, hears, step_of_law}
use Rattle.module_promises.proofs.Idle.{time_answer, reply_taken}
use Rattle.module_promises.specs.Promises.{Opening, online, opened_by, summed, idle_over, IdleCounts}
use Rattle.module_model.specs.declared.phases.Phase.TheVariants.{Closed}
use Rattle.module_model.specs.declared.events.Event.{Event}
use Rattle.module.specs.declared.session.Session.{Session}
use Rattle.module.specs.declared.session.Stepped.{Stepped}

-- The sum of a session, as long as it is open.
abbrev Sums : ℕ → Session → Type 0
Sums sum s = takes s ≡ true → s.idle ≡ sum

-- A closed session is not open.
closed_shut : (flash idle : ℕ) → takes (session flash idle Closed) ≡ true → ⊥
closed_shut flash idle t = false≢true (sym (held_open Closed flash (takes_facts (session flash idle Closed) t).1))

-- Time that is counted is added; where it is too much the session closes.
time_sums : (s : Session) (ms sum : ℕ) → s.idle ≡ sum → Sums (summed sum (Event.Elapsed ms)) (time_step s ms).session
unfolding time_step
time_sums s ms sum e =
    either_way (λ (r : Stepped). Sums (summed sum (Event.Elapsed ms)) r.session) (leb ms (longest_idle - s.idle))
    (λ _ t. rw e) (λ _ t. absurd (closed_shut _ _ t))

-- One step.
step_sums : (s : Session) (g : Given) (sum : ℕ) → Sums sum s
    → Sums (cond (is_refused (exchange s g).left.answer) sum (summed sum g.event)) (next_of s g)
step_sums s g sum h = go (exchange s g).left (step_of_law s g)
  where
    go : (x : Left) → Case s g x → Sums (cond (is_refused x.answer) sum (summed sum g.event)) x.session
    go x (refuses n e) = rw e h
    go x (sleeps shut e) = rw e (λ t. absurd (false≢true (sym shut ∙ t)))
    go x (waits t size ms ev e) = rw (e, time_answer s ms, ev) (time_sums s ms sum (h t))
    go x (hears t size command count ev e) =
        rw (e, reply_taken (frames_of (decide_of s.phase command (payload_of g) g.flash).say), ev) (λ _. refl)

-- A run.
run_sums : (s : Session) (gs : List Given) (sum : ℕ) → Sums sum s → Sums (idle_over sum (run_of s gs)) (after_of s gs)
unfolding run_by after_by
run_sums s [] sum h = h
run_sums s (g ∷ gs) sum h = run_sums (next_of s g) gs _ (step_sums s g sum h)

-- An opening begins with 0.
opening_sums : (o : Opening) → Sums 0 (opened_by o)
unfolding opening_of
opening_sums (online flash) = either_way (λ (r : Stepped). Sums 0 r.session) (openable (length flash)) (λ _ t. refl) (λ _ t. refl)

pub idle_counts : IdleCounts
idle_counts o gs = run_sums (opened_by o) gs 0 (opening_sums o)
