-- The laws of Waits: each test and the facts that it stands for.
use Rattle.std.specs.Prelude.{ℕ, ◌≤◌, ◌<◌, true, false, List, ◌≡◌, refl, ltb, leb, None, Option, Some}
use Rattle.std.proofs.Math.Bool.{not-eq-not}
use Rattle.std.proofs.Common.{arith, leb-true, le-leb, ltb-true, lt-ltb}
use Rattle.octets.proofs.Choice.{both}
use Rattle.kinds.specs.KindsLaws.{file_some}
use Rattle.kinds.specs.declared.Kind.{Kind}
use Rattle.host_model.specs.Stages.{stage_fits}
use Rattle.host_model.specs.Answers.{frame_move, line_move}
use Rattle.host_model.proofs.StagesLaws.{facts_rate, stage_small}
use Rattle.host_model.specs.Small.{Small, SmallMove}
use Rattle.host_model.proofs.Moves.{fits_frame, fits_line, fits_small}
use Rattle.host_model.specs.Views.{stage_rate, ended_at_rate, failed_phase}
use Rattle.host_model.specs.Waits.{most_repeats, limit_of, first_stage, loadable, wait_fits, phase_arises}
use Rattle.host_model.specs.declared.plan.Rate.{Rate}
use Rattle.host_model.specs.declared.plan.Plan.{Plan}
use Rattle.host_model.specs.declared.plan.Stage.{Stage}
use Rattle.host_model.specs.declared.plan.Stage.TheVariants.{Text, Asking, Declaring, Sending, Noticing, Restarting}
use Rattle.host_model.specs.declared.plan.Start.{Start}
use Rattle.host_model.specs.declared.plan.Start.TheVariants.{WithText, AtOnce}
use Rattle.host_model.specs.declared.waits.Wait.{Wait}
use Rattle.host_model.specs.declared.waits.Phase.{Phase}
use Rattle.host_model.specs.declared.waits.Phase.TheVariants.{Ended, EndedAt, Waiting}

-- A session begins at a small stage.
pub first_small : (start : Start) (rate : Rate) → Small (first_stage start rate)
first_small WithText rate = tt
first_small AtOnce rate = tt

-- An opening begins at a stage that fits.
pub first_fits : (plan : Plan) (image : ℕ) (start : Start) → plan.start ≡ start
    → stage_fits plan image (first_stage start plan.first) ≡ true
first_fits plan image WithText e = rw e
first_fits plan image AtOnce e = facts_rate plan.first plan.first (omega arith)

-- A limit is 1 to 5,000 ms.
pub limit_within : (stage : Stage) → (0 < limit_of stage) × (limit_of stage ≤ 5000)
limit_within Text = omega arith
limit_within (Asking rate) = omega arith
limit_within (Declaring rate) = omega arith
limit_within (Sending rate size number) = omega arith
limit_within (Noticing rate size) = omega arith
limit_within (Restarting rate size) = omega arith

-- ---- a waiting session

-- Its image can be loaded, it has waited less than the limit and resent at most 3 times, and its stage fits.
pub record WaitOf (image : ℕ) (w : Wait) : Type 0 where
  pub fitting : loadable w.plan.kind image ≡ true
  pub short : w.waited < limit_of w.stage
  pub few : w.repeats ≤ most_repeats
  pub staged : stage_fits w.plan image w.stage ≡ true

-- The test says just these four facts.
pub wait_facts : (image : ℕ) (w : Wait) → wait_fits image w ≡ true → WaitOf image w
unfolding wait_fits
wait_facts image w h =
    let first = both (loadable w.plan.kind image) _ h in
    let second = both (ltb w.waited (limit_of w.stage)) _ first.1 in
    let third = both (leb w.repeats most_repeats) _ second.1 in
    record {
      fitting = first.0;
      short = ltb-true w.waited (limit_of w.stage) second.0;
      few = leb-true w.repeats most_repeats third.0;
      staged = third.1;
    }

pub facts_wait : (image : ℕ) (w : Wait) → WaitOf image w → wait_fits image w ≡ true
unfolding wait_fits
facts_wait image w f =
    rw (
      f.fitting,
      lt-ltb w.waited (limit_of w.stage) f.short,
      le-leb w.repeats most_repeats f.few,
    )
    f.staged

pub wait_no : (image : ℕ) (w : Wait) → (WaitOf image w → ⊥) → wait_fits image w ≡ false
wait_no image w h = not-eq-not.0 (λ e. h (wait_facts image w e))

-- Of one whose numbers are within their bounds the stage decides.
pub wait_stage : (image : ℕ) (w : Wait) → loadable w.plan.kind image ≡ true → w.waited < limit_of w.stage
    → w.repeats ≤ most_repeats → wait_fits image w ≡ stage_fits w.plan image w.stage
unfolding wait_fits
wait_stage image w fitting short few =
    rw (fitting, lt-ltb w.waited (limit_of w.stage) short, le-leb w.repeats most_repeats few)

-- The stage of a waiting session that could arise is small.
pub wait_small : (image : ℕ) (w : Wait) → wait_fits image w ≡ true → Small w.stage
wait_small image w h = stage_small w.plan image w.stage (wait_facts image w h).staged

-- A frame, and a line of text, lead it to small stages only.
pub wait_frame : (image : ℕ) (w : Wait) (command : ℕ) (payload : List ℕ) → wait_fits image w ≡ true
    → SmallMove (frame_move w.plan image w.stage command payload)
wait_frame image w command payload h =
    let f = wait_facts image w h in
    let some : 1 ≤ image = file_some w.plan.kind image f.fitting in
    fits_small w.plan image (frame_move w.plan image w.stage command payload)
    (fits_frame w.plan image w.stage command payload some f.staged)

pub wait_line : (image : ℕ) (w : Wait) (line : List ℕ) → wait_fits image w ≡ true → SmallMove (line_move w.plan w.stage line)
wait_line image w line h =
    fits_small w.plan image (line_move w.plan w.stage line) (fits_line w.plan image w.stage line)

-- A load that fails in a phase that could arise leaves one that could.
with_arises : (image : ℕ) (kind : Kind) (line : Option Rate) → loadable kind image ≡ true → phase_arises image (ended_at_rate kind line) ≡ true
with_arises image kind None h = refl
with_arises image kind (Some rate) h = h

pub failed_arises : (image : ℕ) (phase : Phase) → phase_arises image phase ≡ true → phase_arises image (failed_phase phase) ≡ true
failed_arises image Ended h = h
failed_arises image (EndedAt kind rate) h = h
failed_arises image (Waiting w) h = with_arises image w.plan.kind (stage_rate w.stage) (wait_facts image w h).fitting
