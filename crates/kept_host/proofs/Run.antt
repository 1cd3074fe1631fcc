-- A run through kept bytes is the session's own.
use Rattle.std.specs.Prelude.{ℕ, ◌-◌, ◌^◌, ◌≤◌, ◌<◌, true, ◌≡◌, eqb, leb, ltb, length, take, None, Option, Some}
use mathlib.Core.List.{List, [], ◌∷◌}
use Rattle.std.proofs.Math.Path.{refl, sym, ap, ap₂}
use Rattle.std.proofs.Common.{◌∙◌, arith, eqb-true, le-ltb}
use Rattle.octets.proofs.Choice.{either_way, cond_yes, cond_no}
use Rattle.kinds.specs.Kinds.{kind_of}
use Rattle.kinds.specs.declared.Kind.{Kind}
use Rattle.flat.specs.Words.{recorded}
use Rattle.host_model.specs.Stages.{number_of_rate}
use Rattle.host_model.specs.Answers.{frame_move, line_move}
use Rattle.host_model.specs.declared.answers.Move.{Move}
use Rattle.host_model.specs.declared.answers.Move.TheVariants.{Stay, Enter, Await, Resend, Refuse, TooMany, Finish}
use Rattle.host_model.specs.declared.plan.Rate.{Rate}
use Rattle.host_model.specs.declared.plan.Rate.TheVariants.{R9600, R19200, R38400, R57600, R115200}
use Rattle.host_model.specs.declared.plan.Start.{Start}
use Rattle.host_model.specs.declared.plan.Start.TheVariants.{WithText, AtOnce}
use Rattle.host_model.specs.declared.plan.Same.{Same}
use Rattle.host_model.specs.declared.plan.Same.TheVariants.{GoOn, Stop}
use Rattle.host_model.specs.Views.{stage_rate, ended_at_rate, failed_phase}
use Rattle.host_model.specs.Waits.{most_repeats, limit_of, loadable}
use Rattle.host_model.specs.Nexts.{resend_next, time_next, plan_next}
use Rattle.host.specs.Session.{arises}
use Rattle.host.specs.Step.{Left, Wishes, sends, ended_of, performs, resends, moved, time_step, event_step, phase_step, step_of}
use Rattle.host.specs.Step.{known_opening, opening_of}
use Rattle.host_promises.specs.Runs.{Given, leaves, after_of}
use Rattle.host_promises.proofs.Arises.{step_arises, reached_arises}
use Rattle.host_model.specs.declared.nexts.Next.{Next}
use Rattle.host_model.specs.declared.waits.Wait.{Wait}
use Rattle.host_model.specs.declared.waits.Phase.{Phase}
use Rattle.host_model.specs.declared.waits.Phase.TheVariants.{Ended, EndedAt, Waiting}
use Rattle.host.specs.declared.session.Session.{Session}
use Rattle.host_model.specs.declared.events.Event.{Event}
use Rattle.host_model.specs.declared.events.Event.TheVariants.{Frame, Line, Elapsed}
use Rattle.host.specs.declared.session.Stepped.{Stepped}
use Rattle.kept_host.specs.Record.{record_bytes}
use Rattle.kept_host.specs.Kept.{start_number, same_number, words_of, rate_in, start_in, same_in, kept_of, Kept, kept_as, kept_step, BegunLeft, begun_as, opened_with}
use Rattle.kept_host.specs.Kept.{Opened, opened_as, wishes_known, wishes_in, opening_by, kept_opening}
use Rattle.flat.specs.Calls.{calls_by, bytes_by}
use Rattle.flat.specs.Found.{recorded_again}
use Rattle.kept_host.proofs.KeptLaws.{words_count, opened_told}
use Rattle.kept_host.specs.Promises.{wish_in, Real, kept_by, calls_of, bytes_after, own_run, kept_opened, KeptRun}
use Rattle.kept_host.proofs.Back.{kept_back}

-- ---- image length and wish stay numbers of eight bytes

abbrev RealLeft : Left → Type 0
RealLeft l = Real l.session

-- A load that has failed has no wish, whatever rate it keeps.
rate_wish : (kind : Kind) (line : Option Rate) → wish_in (ended_at_rate kind line) < 2 ^ 64
rate_wish kind None = omega arith
rate_wish kind (Some rate) = omega arith

failed_wish : (phase : Phase) → wish_in (failed_phase phase) < 2 ^ 64
failed_wish Ended = omega arith
failed_wish (EndedAt kind rate) = omega arith
failed_wish (Waiting w) = rate_wish w.plan.kind (stage_rate w.stage)

ended_real : (image : ℕ) → image < 2 ^ 64 → Real (ended_of image)
ended_real image h = record { image_real = h; wish_real = omega arith }

-- A message sent or not.
sends_real : (s : Session) (next : Stepped) (message output : List ℕ) → Real s → Real next.session
    → RealLeft (sends s next message output)
unfolding sends
sends_real s next message output r h = either_way RealLeft (ltb (length output) (length message)) (λ _. r) (λ _. h)

-- From a session that waits: a message sent again, a move, time.
module _ (s : Session) (w : Wait) (image output : List ℕ) (r : Real s) (short : length image < 2 ^ 64) (wish : w.plan.wish < 2 ^ 64) where
  resends_real : RealLeft (resends s w image output)
  unfolding resend_next
  resends_real =
      either_way (λ (n : Next). RealLeft (performs s n image output)) (ltb w.repeats most_repeats)
      (λ _. sends_real s _ _ output r (record { image_real = short; wish_real = wish }))
      (λ _. ended_real (length image) short)

  moved_real : (move : Move) → RealLeft (moved s w move image output)
  moved_real Stay = r
  moved_real (Enter _) = sends_real s _ _ output r (record { image_real = short; wish_real = wish })
  moved_real (Await _) = record { image_real = short; wish_real = wish }
  moved_real Resend = resends_real
  moved_real (Refuse number passed) = sends_real s _ _ output r (record { image_real = short; wish_real = failed_wish s.phase })
  moved_real TooMany = ended_real (length image) short
  moved_real Finish = ended_real (length image) short

  time_real : (ms : ℕ) → RealLeft (time_step s w ms image output)
  unfolding time_next
  time_real ms =
      either_way (λ (n : Next). RealLeft (performs s n image output)) (ltb ms (limit_of w.stage - w.waited))
      (λ _. record { image_real = short; wish_real = wish })
      (λ _. resends_real)

  event_real : (event : Event) (bytes : List ℕ) → RealLeft (event_step s w event bytes image output)
  event_real (Frame command count) bytes =
      moved_real (frame_move w.plan (length image) w.stage command (take count bytes))
  event_real (Line count) bytes = moved_real (line_move w.plan w.stage (take count bytes))
  event_real (Elapsed ms) bytes = time_real ms

-- A step.
phase_real : (s : Session) (phase : Phase) (g : Given) → Real s → length g.image < 2 ^ 64 → wish_in phase < 2 ^ 64
    → RealLeft (phase_step s phase g.event g.bytes g.image g.output)
phase_real s Ended g r short wish = r
phase_real s (EndedAt kind rate) g r short wish = r
phase_real s (Waiting w) g r short wish = event_real s w g.image g.output r short wish g.event g.bytes

pub step_real : (s : Session) (g : Given) → Real s → Real (leaves s g).session
unfolding step_of
step_real s g r =
    either_way RealLeft (eqb (length g.image) s.image)
    (λ e. either_way RealLeft (arises s)
    (λ _. phase_real s s.phase g r (rw (eqb-true (length g.image) s.image e) r.image_real) r.wish_real)
    (λ _. r))
    (λ _. r)

-- An opening.
known_real : (known : Option Kind) (w : Wishes) (image output : List ℕ) → length image < 2 ^ 64 → w.wish < 2 ^ 64
    → RealLeft (known_opening known w image output)
unfolding plan_next
known_real (Some kind) w image output short wish =
    either_way (λ (n : Next). RealLeft (performs (ended_of (length image)) n image output)) (loadable kind (length image))
    (λ _. sends_real _ _ _ output (ended_real (length image) short) (record { image_real = short; wish_real = wish }))
    (λ _. ended_real (length image) short)
known_real None w image output short wish = ended_real (length image) short

pub opening_real : (number : ℕ) (w : Wishes) (image output : List ℕ) → length image < 2 ^ 64 → w.wish < 2 ^ 64
    → Real (opening_of number w image output).session
unfolding opening_of
opening_real number w image output short wish = known_real (kind_of number) w image output short wish

-- ---- a step, and a run

module _ (st : List ℕ) (room : record_bytes ≤ length st) where
  step_same : (s : Session) (g : Given) → arises s ≡ true → Real s
      → kept_by (recorded (words_of s) st) g ≡ kept_as (leaves s g) (recorded (words_of (leaves s g).session) st)
  unfolding kept_step kept_of
  step_same s g a r =
      let back = kept_back s st a r room in
      let next : Session = (leaves s g).session in
      ap (λ (x : Session). kept_as (leaves x g) (kept_of (recorded (words_of s) st) (leaves x g).session)) back.1
      ∙ ap (kept_as (leaves s g))
      (cond_yes _ _ _ back.0
      ∙ recorded_again (words_of s) (words_of next) st (words_count s ∙ sym (words_count next)) (rw (words_count s) (omega (arith, room))))

  run_same : (s : Session) (gs : List Given) → arises s ≡ true → Real s → calls_of (recorded (words_of s) st) gs ≡ own_run s st gs
  unfolding calls_by own_run
  run_same s [] a r = refl
  run_same s (g ∷ gs) a r =
      let here = step_same s g a r in
      ap₂ ◌∷◌ here
      (ap (λ (k : Kept). calls_of k.state gs) here ∙ run_same (leaves s g).session gs (step_arises s g a) (step_real s g r))

  after_same : (s : Session) (gs : List Given) → arises s ≡ true → Real s
      → bytes_after (recorded (words_of s) st) gs ≡ recorded (words_of (after_of s gs)) st
  unfolding bytes_by after_of
  after_same s [] a r = refl
  after_same s (g ∷ gs) a r =
      ap (λ (k : Kept). bytes_after k.state gs) (step_same s g a r)
      ∙ after_same (leaves s g).session gs (step_arises s g a) (step_real s g r)

-- ---- the opening

-- Every wish has a number that is known, and is read from it.
rate_read : (r : Rate) → (rate_in (number_of_rate r) ≡ r) × (leb 1 (number_of_rate r) ≡ true) × (leb (number_of_rate r) 5 ≡ true)
unfolding rate_in
rate_read R9600 = (refl, refl, refl)
rate_read R19200 = (refl, refl, refl)
rate_read R38400 = (refl, refl, refl)
rate_read R57600 = (refl, refl, refl)
rate_read R115200 = (refl, refl, refl)

start_read : (s : Start) → (start_in (start_number s) ≡ s) × (leb (start_number s) 1 ≡ true)
unfolding start_in
start_read WithText = (refl, refl)
start_read AtOnce = (refl, refl)

same_read : (s : Same) → (same_in (same_number s) ≡ s) × (leb (same_number s) 1 ≡ true)
unfolding same_in
same_read GoOn = (refl, refl)
same_read Stop = (refl, refl)

module _ (w : Wishes) where
  pub wishes_known_law : wishes_known (number_of_rate w.first) (start_number w.start) (same_number w.same) ≡ true
  unfolding wishes_known
  wishes_known_law =
      rw ((rate_read w.first).1, (rate_read w.first).2, (start_read w.start).1, (same_read w.same).1)

  pub wishes_back : wishes_in (number_of_rate w.first) w.wish (start_number w.start) (same_number w.same) ≡ w
  wishes_back = rw ((rate_read w.first).0, (start_read w.start).0, (same_read w.same).0)

pub opened_same : (st : List ℕ) (number : ℕ) (w : Wishes) (image output : List ℕ) → record_bytes ≤ length st
    → kept_opened st number w image output ≡ opened_as (opening_of number w image output) st
unfolding kept_opening opening_by
opened_same st number w image output room =
    cond_no _ _ _ (le-ltb (length st) record_bytes room)
    ∙ ap (λ (b : BegunLeft). opened_with b st)
    (cond_yes _ _ _ (wishes_known_law w) ∙ ap (λ (x : Wishes). begun_as (opening_of number x image output)) (wishes_back w))
    ∙ opened_told (opening_of number w image output) st

pub kept_run : KeptRun
unfolding after_of
kept_run st number w image output gs room short wish =
    let s : Session = (opening_of number w image output).session in
    let a : arises s ≡ true = reached_arises number w image output [] in
    let r : Real s = opening_real number w image output short wish in
    let begins = opened_same st number w image output room in
    record {
      opened_same = begins;
      steps_same = ap (λ (o : Opened). calls_of o.state gs) begins ∙ run_same st room s gs a r;
      bytes_same = ap (λ (o : Opened). bytes_after o.state gs) begins ∙ after_same st room s gs a r;
    }
