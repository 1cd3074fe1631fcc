-- A session is read as it was written.
use Rattle.std.specs.Prelude.{ℕ, ◌+◌, ◌*◌, ◌%◌, ◌^◌, ◌≤◌, ◌<◌, true, ◌&&◌, List, ◌≡◌, length, Option, Some}
use Rattle.std.proofs.Math.Path.{refl, ap, ap₂}
use Rattle.std.proofs.Common.{◌∙◌, arith}
use Rattle.octets.proofs.Choice.{cond_yes}
use Rattle.octets.specs.Octets.{spelled, number_at, over}
use Rattle.octets.proofs.OctetsLaws.{little_spelled}
use Rattle.kinds.specs.Kinds.{kind_of, number_of}
use Rattle.kinds.specs.KindsLaws.{kind_of_number, kind_spelled}
use Rattle.kinds.specs.declared.Kind.{Kind}
use Rattle.flat.specs.Words.{low_half, high_half, spelled_all, recorded, stands_for}
use Rattle.flat.specs.WordsLaws.{number_eight}
use Rattle.flat.specs.Found.{recorded_over, recorded_stands}
use Rattle.host_model.specs.Stages.{number_of_rate, stage_fits}
use Rattle.host_model.proofs.StagesLaws.{sending_facts, sent_facts}
use Rattle.host_model.specs.declared.plan.Rate.{Rate}
use Rattle.host_model.specs.declared.plan.Rate.TheVariants.{R9600, R19200, R38400, R57600, R115200}
use Rattle.host_model.specs.declared.plan.Start.{Start}
use Rattle.host_model.specs.declared.plan.Start.TheVariants.{WithText, AtOnce}
use Rattle.host_model.specs.declared.plan.Same.{Same}
use Rattle.host_model.specs.declared.plan.Same.TheVariants.{GoOn, Stop}
use Rattle.host_model.specs.declared.plan.Plan.{Plan}
use Rattle.host_model.specs.declared.plan.Stage.{Stage}
use Rattle.host_model.specs.declared.plan.Stage.TheVariants.{Text, Asking, Declaring, Sending, Noticing, Restarting}
use Rattle.host.specs.Session.{session, arises}
use Rattle.host_model.specs.Waits.{wait}
use Rattle.host_model.proofs.WaitsLaws.{WaitOf}
use Rattle.host_promises.proofs.Arises.{arises_wait}
use Rattle.host_model.proofs.WaitsLaws.{limit_within}
use Rattle.host_model.specs.declared.waits.Wait.{Wait}
use Rattle.host_model.specs.declared.waits.Phase.{Phase}
use Rattle.host_model.specs.declared.waits.Phase.TheVariants.{Ended, EndedAt, Waiting}
use Rattle.host.specs.declared.session.Session.{Session}
use Rattle.kept_host.specs.Record.{image_place, wish_place, type_place, waited_place, repeats_place, record_bytes}
use Rattle.kept_host.specs.Kept.{start_number, same_number, stage_words, wait_words, ended_words, words_of}
use Rattle.kept_host.specs.Kept.{rate_in, start_in, same_in, stage_of, stage_in, plan_in, kind_phase, phase_in, fields_in, stands, session_in}
use Rattle.kept_host.proofs.KeptLaws.{words_count}
use Rattle.kept_host.specs.Promises.{wish_in, Real, KeptBack}
use Rattle.kept_host.specs.declared.words.Staged.{Staged}

-- ---- each number

-- A number of eight bytes is its two halves.
halves : (x : ℕ) → x < 2 ^ 64 → low_half x + 4294967296 * high_half x ≡ x
halves x h = omega (arith, h)

rate_back : (r : Rate) → rate_in (number_of_rate r % 256) ≡ r
unfolding rate_in
rate_back R9600 = refl
rate_back R19200 = refl
rate_back R38400 = refl
rate_back R57600 = refl
rate_back R115200 = refl

start_back : (s : Start) → start_in (start_number s % 256) ≡ s
unfolding start_in
start_back WithText = refl
start_back AtOnce = refl

same_back : (s : Same) → same_in (same_number s % 256) ≡ s
unfolding same_in
same_back GoOn = refl
same_back Stop = refl

-- A stage that fits has a size and a number that a word holds.
stage_back : (plan : Plan) (image : ℕ) (stage : Stage) → stage_fits plan image stage ≡ true
    → stage_of ((stage_words stage).stage % 256) (rate_in ((stage_words stage).rate % 256)) (stage_words stage).size (stage_words stage).number ≡ stage
unfolding stage_of
stage_back plan image Text h = refl
stage_back plan image (Asking rate) h = ap Asking (rate_back rate)
stage_back plan image (Declaring rate) h = ap Declaring (rate_back rate)
stage_back plan image (Sending rate size number) h =
    let s = sending_facts plan image rate size number h in
    let small : low_half size ≡ size = omega (arith, s.cut.small) in
    let few : low_half number ≡ number = omega (arith, s.this.most, s.cut.carried) in
    rw (rate_back rate, small, few)
stage_back plan image (Noticing rate size) h =
    let small : low_half size ≡ size = omega (arith, (sent_facts plan image rate size h).cut.small) in
    rw (rate_back rate, small)
stage_back plan image (Restarting rate size) h =
    let small : low_half size ≡ size = omega (arith, (sent_facts plan image rate size h).cut.small) in
    rw (rate_back rate, small)

-- ---- a session that waits, in bytes with its record at the front

abbrev written : ℕ → Staged → Wait → List ℕ → List ℕ
written image s w st = over (spelled_all (wait_words image s w)) st

module _ (image : ℕ) (s : Staged) (w : Wait) (st : List ℕ) where
  image_at : number_at 8 (written image s w st) image_place ≡ low_half image + 4294967296 * high_half image
  unfolding number_at spelled_all spelled over
  image_at =
      number_eight (written image s w st) image_place
      ∙ ap₂ (λ (x y : ℕ). x + 4294967296 * y)
      (little_spelled 4 (low_half image) (omega arith)) (little_spelled 4 (high_half image) (omega arith))

  wish_at : number_at 8 (written image s w st) wish_place ≡ low_half w.plan.wish + 4294967296 * high_half w.plan.wish
  unfolding number_at spelled_all spelled over
  wish_at =
      number_eight (written image s w st) wish_place
      ∙ ap₂ (λ (x y : ℕ). x + 4294967296 * y)
      (little_spelled 4 (low_half w.plan.wish) (omega arith)) (little_spelled 4 (high_half w.plan.wish) (omega arith))

  kind_at : kind_of (number_at 2 (written image s w st) type_place) ≡ Some w.plan.kind
  unfolding number_at spelled_all spelled over
  kind_at =
      ap kind_of (little_spelled 2 (number_of w.plan.kind) (kind_spelled w.plan.kind).0) ∙ kind_of_number w.plan.kind

  plan_at : w.plan.wish < 2 ^ 64 → plan_in w.plan.kind (written image s w st) ≡ w.plan
  unfolding plan_in spelled_all spelled over
  plan_at h =
      rw (
        rate_back w.plan.first,
        start_back w.plan.start,
        same_back w.plan.same,
        wish_at,
        halves w.plan.wish h,
      )

  stage_at : s.size < 2 ^ 32 → s.number < 2 ^ 32
      → stage_in (written image s w st) ≡ stage_of (s.stage % 256) (rate_in (s.rate % 256)) s.size s.number
  unfolding stage_in number_at spelled_all spelled over
  stage_at h k =
      ap₂ (stage_of (s.stage % 256) (rate_in (s.rate % 256))) (little_spelled 4 s.size h) (little_spelled 4 s.number k)

  times_at : w.waited < 2 ^ 32 → w.repeats < 2 ^ 32
      → (number_at 4 (written image s w st) waited_place ≡ w.waited) × (number_at 4 (written image s w st) repeats_place ≡ w.repeats)
  unfolding number_at spelled_all spelled over
  times_at h k = (little_spelled 4 w.waited h, little_spelled 4 w.repeats k)

-- The words of a stage's size and number fit.
stage_words_law : (stage : Stage) → ((stage_words stage).size < 2 ^ 32) × ((stage_words stage).number < 2 ^ 32)
stage_words_law Text = omega arith
stage_words_law (Asking rate) = omega arith
stage_words_law (Declaring rate) = omega arith
stage_words_law (Sending rate size number) = omega arith
stage_words_law (Noticing rate size) = omega arith
stage_words_law (Restarting rate size) = omega arith

-- No stage that waits has the number of an ended session.
waiting_at : (image : ℕ) (stage : Stage) (w : Wait) (st : List ℕ)
    → let all = written image (stage_words stage) w st in
    kind_phase w.plan.kind all
    ≡ Waiting (wait (plan_in w.plan.kind all) (stage_in all) (number_at 4 all waited_place) (number_at 4 all repeats_place))
unfolding kind_phase spelled_all spelled over
waiting_at image Text w st = refl
waiting_at image (Asking rate) w st = refl
waiting_at image (Declaring rate) w st = refl
waiting_at image (Sending rate size number) w st = refl
waiting_at image (Noticing rate size) w st = refl
waiting_at image (Restarting rate size) w st = refl

-- All of it.
wait_back : (image : ℕ) (w : Wait) (st : List ℕ) → WaitOf image w → image < 2 ^ 64 → w.plan.wish < 2 ^ 64
    → fields_in (written image (stage_words w.stage) w st) ≡ session image (Waiting w)
unfolding fields_in
wait_back image w st f short wish =
    let s : Staged = stage_words w.stage in
    let words = stage_words_law w.stage in
    let times = times_at image s w st (omega (arith, f.short, limit_within w.stage)) (omega (arith, f.few)) in
    let staged : stage_in (written image s w st) ≡ w.stage =
    stage_at image s w st words.0 words.1 ∙ stage_back w.plan image w.stage f.staged in
    ap₂ session (image_at image s w st ∙ halves image short)
    (ap (λ (k : Option Kind). phase_in k (written image s w st)) (kind_at image s w st)
    ∙ waiting_at image w.stage w st
    ∙ rw (plan_at image s w st wish, staged, times.0, times.1))

-- ---- one that has ended

module _ (image type rate : ℕ) (st : List ℕ) where
  abbrev ended : List ℕ
  ended = over (spelled_all (ended_words image type rate)) st

  ended_image : image < 2 ^ 64 → number_at 8 ended image_place ≡ image
  unfolding number_at spelled_all spelled over
  ended_image short =
      number_eight ended image_place
      ∙ ap₂ (λ (x y : ℕ). x + 4294967296 * y)
      (little_spelled 4 (low_half image) (omega arith)) (little_spelled 4 (high_half image) (omega arith))
      ∙ halves image short

  ended_type : type < 256 ^ 2 → number_at 2 ended type_place ≡ type
  unfolding number_at spelled_all spelled over
  ended_type h = little_spelled 2 type h

  ended_phase : (kind : Kind) → kind_phase kind ended ≡ EndedAt kind (rate_in (rate % 256))
  unfolding kind_phase spelled_all spelled over
  ended_phase kind = refl

over_back : (image : ℕ) (st : List ℕ) → image < 2 ^ 64 → fields_in (over (spelled_all (ended_words image 0 0)) st) ≡ session image Ended
unfolding fields_in kind_of
over_back image st short =
    ap₂ session (ended_image image 0 0 st short) (ap (λ (n : ℕ). phase_in (kind_of n) (ended image 0 0 st)) (ended_type image 0 0 st (omega arith)))

failed_back : (image : ℕ) (kind : Kind) (rate : Rate) (st : List ℕ) → image < 2 ^ 64
    → fields_in (over (spelled_all (ended_words image (number_of kind) (number_of_rate rate))) st) ≡ session image (EndedAt kind rate)
unfolding fields_in
failed_back image kind rate st short =
    let all : List ℕ = ended image (number_of kind) (number_of_rate rate) st in
    let known : kind_of (number_at 2 all type_place) ≡ Some kind =
    ap kind_of (ended_type image (number_of kind) (number_of_rate rate) st (kind_spelled kind).0) ∙ kind_of_number kind in
    ap₂ session (ended_image image (number_of kind) (number_of_rate rate) st short)
    (ap (λ (k : Option Kind). phase_in k all) known
    ∙ ended_phase image (number_of kind) (number_of_rate rate) st kind
    ∙ ap (EndedAt kind) (rate_back rate))

-- ---- any

phase_back : (image : ℕ) (phase : Phase) (st : List ℕ) → arises (session image phase) ≡ true → image < 2 ^ 64 → wish_in phase < 2 ^ 64
    → fields_in (over (spelled_all (words_of (session image phase))) st) ≡ session image phase
unfolding words_of
phase_back image Ended st a short wish = over_back image st short
phase_back image (EndedAt kind rate) st a short wish = failed_back image kind rate st short
phase_back image (Waiting w) st a short wish = wait_back image w st (arises_wait image w a) short wish

module _ (s : Session) (st : List ℕ) (a : arises s ≡ true) (r : Real s) (room : record_bytes ≤ length st) where
  enough : 4 * length (words_of s) ≤ length st
  enough = rw (words_count s) room

  fields_back : fields_in (recorded (words_of s) st) ≡ s
  fields_back =
      ap fields_in (recorded_over (words_of s) st (omega (arith, enough))) ∙ phase_back s.image s.phase st a r.image_real r.wish_real

  stands_back : stands (recorded (words_of s) st) ≡ true
  unfolding stands
  stands_back =
      ap (λ (x : Session). stands_for (words_of x) (recorded (words_of s) st) && arises x) fields_back
      ∙ rw (recorded_stands (words_of s) st (omega (arith, enough))) a

  session_back : session_in (recorded (words_of s) st) ≡ s
  unfolding session_in
  session_back = cond_yes _ _ _ stands_back ∙ fields_back

pub kept_back : KeptBack
kept_back s st a r room = (stands_back s st a r room, session_back s st a r room)
