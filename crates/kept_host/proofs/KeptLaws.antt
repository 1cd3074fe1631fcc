-- The laws of Kept that the contracts lean on: how long a record is, and what a call puts together.
use Rattle.kept_host.specs.declared.opening.Begun.{Begun}
use Rattle.std.specs.Prelude.{ℕ, Bool, List, ◌≡◌, refl, length, get_or}
use Rattle.std.proofs.Math.Path.{sym, ap}
use Rattle.std.proofs.Common.{◌∙◌, eq-eqb, ne_eqb}
use Rattle.octets.proofs.Choice.{cond_yes, cond_no}
use Rattle.octets.specs.Octets.{number_at, same_bytes, part_of}
use Rattle.kinds.specs.declared.Kind.{Kind}
use Rattle.host_model.specs.Waits.{wait}
use Rattle.host_model.specs.declared.plan.Rate.{Rate}
use Rattle.flat.specs.Words.{spelled_all, recorded, stands_for}
use Rattle.flat.specs.WordsLaws.{length_spelled_all}
use Rattle.host.specs.Step.{Left, left, step_of}
use Rattle.host_model.specs.declared.waits.Phase.{Phase}
use Rattle.host_model.specs.declared.waits.Phase.TheVariants.{Ended, EndedAt, Waiting}
use Rattle.host.specs.declared.session.Session.{Session}
use Rattle.host_model.specs.declared.events.Event.{Event}
use Rattle.host.specs.declared.session.Stepped.{Stepped}
use Rattle.host_model.specs.Events.{Answer, numbered, number_in, count_in, passed_in}
use Rattle.host_model.specs.declared.events.Answer.TheVariants.{Nothing, Sent, Done, Refused, Failed}
use Rattle.kept_host.specs.Record.{stage_place, rate_place, waited_place, repeats_place, record_words, record_bytes, ended_stage}
use Rattle.kept_host.specs.Kept.{words_of, phase_words, rate_in, stage_in, plan_in, kind_phase, fields_in, session_in, kept_of, told_of, kept, kept_as, kept_step, opened, BegunLeft, begun_as, opened_with, opened_as}
use Rattle.kept_host.specs.declared.answers.Told.{Told}

-- ---- the record

-- How many words a session has.
phase_count : (image : ℕ) (phase : Phase) → length (phase_words image phase) ≡ record_words
phase_count image Ended = refl
phase_count image (EndedAt kind rate) = refl
phase_count image (Waiting w) = refl

pub words_count : (s : Session) → length (words_of s) ≡ record_words
unfolding words_of
words_count s = phase_count s.image s.phase

-- The record of the session read, compared with the front of the bytes, tells whether it stands there.
pub compared : (st own front : List ℕ) (s : Session) (same : Bool) → s ≡ fields_in st → own ≡ spelled_all (words_of s)
    → front ≡ part_of st 0 record_bytes → same ≡ same_bytes own front → same ≡ stands_for (words_of (fields_in st)) st
unfolding stands_for
compared st own front s same read all part compares =
    let size : length (spelled_all (words_of s)) ≡ record_bytes = length_spelled_all (words_of s) ∙ rw (words_count s) in
    compares
    ∙ rw (all, part)
    (ap (λ (n : ℕ). same_bytes (spelled_all (words_of s)) (part_of st 0 n)) (sym size)
    ∙ ap (λ (x : Session). stands_for (words_of x) st) read)

-- ---- the phase of a known type

module _ (kind : Kind) (st : List ℕ) (stage : ℕ) (at : stage ≡ get_or st stage_place 0) where
  pub phase_ended : stage ≡ ended_stage → (rate : ℕ) (r : Rate) → rate ≡ get_or st rate_place 0 → r ≡ rate_in rate
      → EndedAt kind r ≡ kind_phase kind st
  unfolding kind_phase
  phase_ended e rate r there is =
      ap (EndedAt kind) (is ∙ ap rate_in there) ∙ sym (cond_yes _ _ _ (eq-eqb (get_or st stage_place 0) ended_stage (sym at ∙ e)))

  pub phase_waits : (stage ≡ ended_stage → ⊥)
      → Waiting (wait (plan_in kind st) (stage_in st) (number_at 4 st waited_place) (number_at 4 st repeats_place)) ≡ kind_phase kind st
  unfolding kind_phase
  phase_waits n = sym (cond_no _ _ _ (ne_eqb (get_or st stage_place 0) ended_stage (λ e. n (at ∙ e))))

-- ---- the calls

-- An answer told by number says the same count and the same byte passed on.
pub told_numbered : (a : Answer) → told_of (numbered a) ≡ record { number = number_in (numbered a); count = count_in a; passed = passed_in a }
told_numbered Nothing = refl
told_numbered (Sent n) = refl
told_numbered Done = refl
told_numbered (Refused refusal) = refl
told_numbered (Failed refusal passed n) = refl

-- The session read, its step, the next session kept and the answer told are a step of the bytes.
pub step_kept : (st : List ℕ) (event : Event) (bytes image output : List ℕ) (s : Session) (r : Stepped) (out state : List ℕ) (t : Told)
    → s ≡ session_in st → left r out ≡ step_of s event bytes image output → state ≡ kept_of st r.session → t ≡ told_of (numbered r.answer)
    → kept t.number t.count t.passed state out ≡ kept_step st event bytes image output
unfolding kept_step
step_kept st event bytes image output s r out state t read step keeps says =
    ap (λ (x : Told). kept x.number x.count x.passed state out) (says ∙ told_numbered r.answer)
    ∙ ap (kept_as (left r out)) keeps
    ∙ ap (λ (l : Left). kept_as l (kept_of st l.session)) (step ∙ ap (λ (x : Session). step_of x event bytes image output) read)

-- So are an opening and its session's record.
pub open_kept : (st : List ℕ) (b : BegunLeft) (begun : Begun) (out state : List ℕ)
    → record { begun = begun; output = out } ≡ b → state ≡ recorded (words_of begun.session) st
    → opened (number_in begun.answer) (count_in begun.answer) state out ≡ opened_with b st
open_kept st b begun out state opening keeps =
    ap (λ (x : List ℕ). opened (number_in begun.answer) (count_in begun.answer) x out) keeps
    ∙ ap (λ (x : BegunLeft). opened_with x st) opening

pub opened_told : (l : Left) (st : List ℕ) → opened_with (begun_as l) st ≡ opened_as l st
opened_told l st = ap (λ (t : Told). opened t.number t.count (recorded (words_of l.session) st) l.output) (told_numbered l.answer)
