-- M5: every session that an opening and any run of steps leads to passes the test.
use Rattle.std.specs.Prelude.{ℕ, ◌-◌, true, List, [], ◌∷◌, ◌≡◌, refl, leb, length}
use Rattle.std.proofs.Math.Bool.{or-true}
use Rattle.std.proofs.Common.{arith, leb-true}
use Rattle.octets.specs.Octets.{Bytes}
use Rattle.octets.proofs.Choice.{either_way}
use Rattle.kinds.specs.KindsLaws.{flash_fits}
use Rattle.module_model.specs.Phases.{longest_idle, closing_idle, openable, held, closed_arises}
use Rattle.module_model.proofs.PhasesLaws.{sizes_openable, openable_sizes, closed_at_0, closed_at_limit}
use Rattle.module_model.proofs.Outcomes.{Outcome, stays, restarts, begins, advances, repeats}
use Rattle.module_model.proofs.Leads.{advance_held}
use Rattle.module.specs.Session.{session, opening_of, takes, arises}
use Rattle.module.specs.SessionLaws.{takes_facts, facts_takes}
use Rattle.module.specs.Step.{Left, time_step}
use Rattle.module_promises.specs.Runs.{Given, next_of, after_of, after_by, AllBytes, exchange}
use Rattle.module_promises.proofs.Steps.{Case, refuses, sleeps, waits, hears, step_of_law, outcome_of}
use Rattle.module_promises.specs.Promises.{Opening, online, opened_by, ReachedArises}
use Rattle.module_model.specs.declared.phases.Phase.{Phase}
use Rattle.module_model.specs.declared.phases.Phase.TheVariants.{Closed, Ready, Begun}
use Rattle.module_model.specs.declared.rules.Decision.{Decision}
use Rattle.module.specs.declared.session.Session.{Session}
use Rattle.module.specs.declared.session.Stepped.{Stepped}

-- A session that takes events arises.
pub takes_arises : (s : Session) → takes s ≡ true → arises s ≡ true
unfolding arises
takes_arises s t = rw t

-- So does a closed one with a sum that closes.
pub closed_arises_law : (flash idle : ℕ) → closed_arises flash idle ≡ true → arises (session flash idle Closed) ≡ true
unfolding arises
closed_arises_law flash idle c = rw c (or-true (takes (session flash idle Closed)))

-- An open session in which time passes.
time_arises : (s : Session) (ms : ℕ) → takes s ≡ true → arises (time_step s ms).session ≡ true
unfolding time_step
time_arises s ms t =
    let facts = takes_facts s t in
    let a = facts.0 in
    either_way (λ (r : Stepped). arises r.session ≡ true) (leb ms (longest_idle - s.idle))
    (λ e. takes_arises _ (facts_takes _ (record {
      some = a.some;
      most = a.most;
      waited = omega (arith, leb-true ms (longest_idle - s.idle) e, a.waited);
    }) facts.1))
    (λ e. closed_arises_law s.flash closing_idle (closed_at_limit s.flash (sizes_openable s.flash a.some a.most)))

-- An open session whose sum starts anew.
anew_arises : (s : Session) (phase : Phase) → takes s ≡ true → held phase s.flash ≡ true → arises (session s.flash 0 phase) ≡ true
anew_arises s phase t h =
    let a = (takes_facts s t).0 in
    takes_arises _ (facts_takes _ (record { some = a.some; most = a.most; waited = omega arith }) h)

-- An open session that takes a frame.
frame_arises : (s : Session) (command : ℕ) (payload flash : List ℕ) (d : Decision) → takes s ≡ true → length flash ≡ s.flash
    → Outcome s.phase command payload flash d → arises (session s.flash 0 d.phase) ≡ true
frame_arises s command payload flash d t size (stays say h e) = rw e (anew_arises s s.phase t (takes_facts s t).1)
frame_arises s command payload flash d t size (restarts c e) = rw e (closed_arises_law s.flash 0 (closed_at_0 s.flash))
frame_arises s command payload flash d t size (begins tr c k n f e) =
    rw e (anew_arises s (Begun tr) t (flash_fits tr.kind tr.extent s.flash (rw size at f)))
frame_arises s command payload flash d t size (advances p number c x k e) =
    rw e (anew_arises s _ t (advance_held p number payload s.flash (rw size at k)))
frame_arises s command payload flash d t size (repeats p number c x k same e) = rw e (anew_arises s s.phase t (takes_facts s t).1)

-- Any step of a session that arises.
pub step_arises : (s : Session) (g : Given) → arises s ≡ true → Bytes g.payload → arises (next_of s g) ≡ true
step_arises s g a bytes = go (exchange s g).left (step_of_law s g)
  where
    go : (x : Left) → Case s g x → arises x.session ≡ true
    go x (refuses n e) = rw e a
    go x (sleeps t e) = rw e a
    go x (waits t size ms ev e) = rw e (time_arises s ms t)
    go x (hears t size command count ev e) = rw e (frame_arises s command _ g.flash _ t size (outcome_of s g bytes t size command))

-- An opening.
pub opening_arises : (o : Opening) → arises (opened_by o) ≡ true
unfolding opening_of
opening_arises (online flash) =
    either_way (λ (r : Stepped). arises r.session ≡ true) (openable (length flash))
    (λ o. takes_arises _ (ready_takes (length flash) o))
    (λ o. closed_arises_law (length flash) 0 (closed_at_0 (length flash)))
  where
    ready_takes : (n : ℕ) → openable n ≡ true → takes (session n 0 Ready) ≡ true
    ready_takes n o =
        let sizes = openable_sizes n o in
        facts_takes (session n 0 Ready) (record { some = sizes.0; most = sizes.1; waited = omega arith }) refl

-- A run.
run_arises : (s : Session) (gs : List Given) → arises s ≡ true → AllBytes gs → arises (after_of s gs) ≡ true
unfolding after_by
run_arises s [] a bytes = a
run_arises s (g ∷ gs) a bytes = run_arises (next_of s g) gs (step_arises s g a bytes.0) bytes.1

pub reached_arises : ReachedArises
reached_arises o gs bytes = run_arises (opened_by o) gs (opening_arises o) bytes
