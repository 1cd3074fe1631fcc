-- What is promised of a session that is kept as bytes, to be read without the proofs. Each statement is proved in the file beside it.
use Rattle.std.specs.Prelude.{ℕ, ◌^◌, ◌≤◌, ◌<◌, true, List, [], ◌∷◌, ◌≡◌, length}
use Rattle.flat.specs.Words.{recorded}
use Rattle.flat.specs.Calls.{calls_by, bytes_by}
use Rattle.host_model.specs.Stages.{number_of_rate}
use Rattle.host.specs.Session.{arises}
use Rattle.host.specs.Step.{Wishes, opening_of}
use Rattle.host_promises.specs.Runs.{Given, leaves, after_of}
use Rattle.host_model.specs.declared.waits.Phase.{Phase}
use Rattle.host_model.specs.declared.waits.Phase.TheVariants.{Ended, EndedAt, Waiting}
use Rattle.host.specs.declared.session.Session.{Session}
use Rattle.kept_host.specs.Record.{record_bytes}
use Rattle.kept_host.specs.Kept.{start_number, same_number, words_of, stands, session_in, Kept, kept_as, kept_step, Opened, opened_as, kept_opening}

-- ---- a session is read as it was written

-- The wish of a session that waits; one that has ended has none.
abbrev pub wish_in : Phase → ℕ
wish_in Ended = 0
wish_in (EndedAt kind rate) = 0
wish_in (Waiting w) = w.plan.wish

-- Image length and wish are numbers of eight bytes, as the types of the calls have them.
pub record Real (s : Session) : Type 0 where
  pub image_real : s.image < 2 ^ 64
  pub wish_real : wish_in s.phase < 2 ^ 64

-- Every session that can arise, written over bytes with room for its record, stands there and is read as it was (Back.antt).
abbrev pub KeptBack : Type 0
KeptBack =
    (s : Session) (st : List ℕ) → arises s ≡ true → Real s → record_bytes ≤ length st
    → (stands (recorded (words_of s) st) ≡ true) × (session_in (recorded (words_of s) st) ≡ s)

-- ---- a run through kept bytes is the session's own

-- One step of the bytes.
abbrev pub kept_by : List ℕ → Given → Kept
kept_by st g = kept_step st g.event g.bytes g.image g.output

-- A run of the bytes: what each step leaves, the bytes of each lent to the next; and the bytes after it.
abbrev pub calls_of : List ℕ → List Given → List Kept
calls_of st gs = calls_by kept_by (λ (k : Kept). k.state) st gs

abbrev pub bytes_after : List ℕ → List Given → List ℕ
bytes_after st gs = bytes_by kept_by (λ (k : Kept). k.state) st gs

-- The session's own run told in the same way: the answer of each step by its numbers, its output, and the record of the session then.
unfoldable pub own_run : Session → List ℕ → List Given → List Kept
own_run s st [] = []
own_run s st (g ∷ gs) = kept_as (leaves s g) (recorded (words_of (leaves s g).session) st) ∷ own_run (leaves s g).session st gs

-- An opening of the bytes with these wishes.
abbrev pub kept_opened : List ℕ → ℕ → Wishes → List ℕ → List ℕ → Opened
kept_opened st number w image output =
    kept_opening st number (number_of_rate w.first) w.wish (start_number w.start) (same_number w.same) image output

-- An opening of the bytes leaves what the session's own leaves, with its record; so does each step after it; and at the end the bytes
-- are the record of the session that the run leads to.
pub record RunKept (st : List ℕ) (number : ℕ) (w : Wishes) (image output : List ℕ) (gs : List Given) : Type 0 where
  pub opened_same : kept_opened st number w image output ≡ opened_as (opening_of number w image output) st
  pub steps_same : calls_of (kept_opened st number w image output).state gs ≡ own_run (opening_of number w image output).session st gs
  pub bytes_same : bytes_after (kept_opened st number w image output).state gs
      ≡ recorded (words_of (after_of (opening_of number w image output).session gs)) st

-- From every opening over every image, in bytes with room for a record, whatever the steps are given (Run.antt).
abbrev pub KeptRun : Type 0
KeptRun =
    (st : List ℕ) (number : ℕ) (w : Wishes) (image output : List ℕ) (gs : List Given)
    → record_bytes ≤ length st → length image < 2 ^ 64 → w.wish < 2 ^ 64 → RunKept st number w image output gs
