-- H3: every session that an opening and any run of steps leads to passes the test.
use Rattle.kinds.specs.declared.Kind.{Kind}
use Rattle.std.specs.Prelude.{ℕ, ◌+◌, ◌-◌, ◌≤◌, ◌<◌, true, List, [], ◌∷◌, ◌≡◌, refl, eqb, ltb, length, take, None, Option, Some}
use Rattle.std.proofs.Common.{arith}
use borrow.Author.Tests.{eqb-true, ltb-true}
use Rattle.octets.proofs.Choice.{either_way}
use Rattle.kinds.specs.Kinds.{kind_of, fits_file}
use Rattle.kinds.specs.KindsLaws.{file_some}
use Rattle.host_model.specs.Stages.{stage_fits}
use Rattle.host_model.specs.Views.{failed_phase}
use Rattle.host_model.specs.Waits.{most_repeats, limit_of, loadable}
use Rattle.host_model.specs.Nexts.{resend_next, time_next, plan_next}
use Rattle.host.specs.Session.{session, arises}
use Rattle.host_model.proofs.WaitsLaws.{first_fits, limit_within, WaitOf, wait_facts, facts_wait, failed_arises}
use Rattle.host_model.specs.Answers.{frame_move, line_move}
use Rattle.host_model.proofs.Moves.{FitsMove, fits_frame, fits_line}
use Rattle.host.specs.Step.{Left, Wishes, sends, waiting_of, ended_of, performs, enters, resends, moved, time_step, event_step, phase_step, step_of}
use Rattle.host.specs.Step.{plan_of, plan_opening, known_opening, opening_of}
use Rattle.host_promises.specs.Runs.{Given, leaves, after_of}
use Rattle.host_promises.specs.Promises.{ReachedArises}
use Rattle.host_model.specs.declared.plan.Plan.{Plan}
use Rattle.host_model.specs.declared.plan.Stage.{Stage}
use Rattle.host_model.specs.declared.nexts.Next.{Next}
use Rattle.host_model.specs.declared.waits.Wait.{Wait}
use Rattle.host_model.specs.declared.waits.Phase.{Phase}
use Rattle.host_model.specs.declared.waits.Phase.TheVariants.{Ended, EndedAt, Waiting}
use Rattle.host.specs.declared.session.Session.{Session}
use Rattle.host_model.specs.declared.events.Event.{Event}
use Rattle.host_model.specs.declared.events.Event.TheVariants.{Frame, Line, Elapsed}
use Rattle.host.specs.declared.session.Stepped.{Stepped}
use Rattle.host_model.specs.declared.answers.Move.{Move}
use Rattle.host_model.specs.declared.answers.Move.TheVariants.{Stay, Enter, Await, Resend, Refuse, TooMany, Finish}

-- ---- each step

-- A session that waits arises where its numbers fit.
pub wait_arises : (image : ℕ) (w : Wait) → WaitOf image w → arises (session image (Waiting w)) ≡ true
unfolding arises
wait_arises image w f = facts_wait image w f

pub arises_wait : (image : ℕ) (w : Wait) → arises (session image (Waiting w)) ≡ true → WaitOf image w
unfolding arises
arises_wait image w h = wait_facts image w h

-- One that has ended arises with any length.
pub ended_arises : (image : ℕ) → arises (session image Ended) ≡ true
unfolding arises
ended_arises image = refl

-- So does a load that fails.
failure_arises : (image : ℕ) (phase : Phase) → arises (session image phase) ≡ true → arises (session image (failed_phase phase)) ≡ true
unfolding arises
failure_arises image phase h = failed_arises image phase h

-- What a call leaves is a session that arises.
abbrev Arisen : Left → Type 0
Arisen l = arises l.session ≡ true

-- With its message sent or not.
sends_arises : (s : Session) (next : Stepped) (message output : List ℕ) → arises s ≡ true → arises next.session ≡ true
    → Arisen (sends s next message output)
unfolding sends
sends_arises s next message output a h = either_way Arisen (ltb (length output) (length message)) (λ _. a) (λ _. h)

-- A stage that fits, with a time below the limit and at most 3 repeats.
stage_arises : (image : ℕ) (plan : Plan) (stage : Stage) (waited repeats : ℕ) → fits_file plan.kind image ≡ true
    → waited < limit_of stage → repeats ≤ most_repeats → stage_fits plan image stage ≡ true
    → arises (waiting_of image plan stage waited repeats) ≡ true
stage_arises image plan stage waited repeats fitting short few staged =
    wait_arises image _ (record { fitting = fitting; short = short; few = few; staged = staged })

-- A stage that fits, entered with its message or not.
enters_arises : (s : Session) (plan : Plan) (stage : Stage) (image output : List ℕ) → arises s ≡ true
    → fits_file plan.kind (length image) ≡ true → stage_fits plan (length image) stage ≡ true
    → Arisen (enters s plan stage image output)
enters_arises s plan stage image output a fitting staged =
    sends_arises s _ _ output a (stage_arises (length image) plan stage 0 0 fitting (limit_within stage).0 (omega arith) staged)

-- From a session that waits: a message sent again, a move, time.
module _ (s : Session) (w : Wait) (image output : List ℕ) (a : arises s ≡ true) (f : WaitOf (length image) w)
    (own : arises (session (length image) s.phase) ≡ true) where
  resends_arises : Arisen (resends s w image output)
  unfolding resend_next
  resends_arises =
      either_way (λ (n : Next). Arisen (performs s n image output)) (ltb w.repeats most_repeats)
      (λ e.
      let few : w.repeats < most_repeats = ltb-true w.repeats most_repeats e in
      sends_arises s _ _ output a
      (stage_arises (length image) w.plan w.stage 0 (w.repeats + 1) f.fitting (limit_within w.stage).0 (omega (arith, few))
      f.staged))
      (λ _. ended_arises (length image))

  moved_arises : (move : Move) → FitsMove w.plan (length image) move → Arisen (moved s w move image output)
  moved_arises Stay h = a
  moved_arises (Enter next) h = enters_arises s w.plan next image output a f.fitting h
  moved_arises (Await next) h = stage_arises (length image) w.plan next 0 w.repeats f.fitting (limit_within next).0 f.few h
  moved_arises Resend h = resends_arises
  moved_arises (Refuse refusal passed) h = sends_arises s _ _ output a (failure_arises (length image) s.phase own)
  moved_arises TooMany h = ended_arises (length image)
  moved_arises Finish h = ended_arises (length image)

  time_arises : (ms : ℕ) → Arisen (time_step s w ms image output)
  unfolding time_next
  time_arises ms =
      either_way (λ (n : Next). Arisen (performs s n image output)) (ltb ms (limit_of w.stage - w.waited))
      (λ e.
      let short : w.waited + ms < limit_of w.stage = omega (arith, ltb-true ms (limit_of w.stage - w.waited) e) in
      stage_arises (length image) w.plan w.stage (w.waited + ms) w.repeats f.fitting short f.few f.staged)
      (λ _. resends_arises)

  event_arises : (event : Event) (bytes : List ℕ) → Arisen (event_step s w event bytes image output)
  event_arises (Frame command count) bytes =
      let payload : List ℕ = take count bytes in
      let some : 1 ≤ length image = file_some w.plan.kind (length image) f.fitting in
      moved_arises (frame_move w.plan (length image) w.stage command payload)
      (fits_frame w.plan (length image) w.stage command payload some f.staged)
  event_arises (Line count) bytes =
      moved_arises (line_move w.plan w.stage (take count bytes)) (fits_line w.plan (length image) w.stage (take count bytes))
  event_arises (Elapsed ms) bytes = time_arises ms

-- A step in either phase.
phase_arises_law : (s : Session) (phase : Phase) (event : Event) (bytes image output : List ℕ) → arises s ≡ true
    → arises (session (length image) s.phase) ≡ true → arises (session (length image) phase) ≡ true
    → Arisen (phase_step s phase event bytes image output)
phase_arises_law s Ended event bytes image output a own h = a
phase_arises_law s (EndedAt kind rate) event bytes image output a own h = a
phase_arises_law s (Waiting w) event bytes image output a own h =
    event_arises s w image output a (arises_wait (length image) w h) own event bytes

-- Any step of a session that arises.
pub step_arises : (s : Session) (g : Given) → arises s ≡ true → arises (leaves s g).session ≡ true
unfolding step_of
step_arises s g a =
    either_way Arisen (eqb (length g.image) s.image)
    (λ e. either_way Arisen (arises s)
    (λ _.
    let own : arises (session (length g.image) s.phase) ≡ true = rw (eqb-true (length g.image) s.image e) a in
    phase_arises_law s s.phase g.event g.bytes g.image g.output a own own)
    (λ _. a))
    (λ _. a)

-- ---- openings and runs

-- Every opening leads to a session that arises, refused or not.
plan_arises : (plan : Plan) (image output : List ℕ) → Arisen (plan_opening plan image output)
unfolding plan_next
plan_arises plan image output =
    either_way (λ (n : Next). Arisen (performs (ended_of (length image)) n image output)) (loadable plan.kind (length image))
    (λ fitting. enters_arises _ plan _ image output (ended_arises (length image)) fitting
    (first_fits plan (length image) plan.start refl))
    (λ _. ended_arises (length image))

known_arises : (known : Option Kind) (w : Wishes) (image output : List ℕ) → Arisen (known_opening known w image output)
known_arises (Some kind) w image output = plan_arises (plan_of kind w) image output
known_arises None w image output = ended_arises (length image)

opening_arises : (number : ℕ) (w : Wishes) (image output : List ℕ) → Arisen (opening_of number w image output)
unfolding opening_of
opening_arises number w image output = known_arises (kind_of number) w image output

-- A run.
run_arises : (s : Session) (gs : List Given) → arises s ≡ true → arises (after_of s gs) ≡ true
unfolding after_of
run_arises s [] a = a
run_arises s (g ∷ gs) a = run_arises (leaves s g).session gs (step_arises s g a)

pub reached_arises : ReachedArises
reached_arises number w image output gs =
    run_arises (opening_of number w image output).session gs (opening_arises number w image output)
