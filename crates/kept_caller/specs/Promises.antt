-- What is promised of a caller that is kept as bytes, to be read without the proofs. Each statement is proved in the file named beside it.
use Rattle.std.specs.Prelude.{ℕ, ◌^◌, ◌≤◌, ◌<◌, true, List, ◌≡◌, length}
use Rattle.host.specs.Session.{arises}
use Rattle.host.specs.Step.{Wishes, opening_of}
use Rattle.host_model.specs.Stages.{number_of_rate}
use Rattle.posts.specs.Caller.{caller_of, caller_hears, caller_waits}
use Rattle.posts.specs.declared.caller.Caller.{Caller}
use Rattle.kept_reader.specs.Promises.{Whole}
use Rattle.kept_host.specs.Kept.{start_number, same_number, Kept, Opened}
use Rattle.kept_host.specs.Promises.{Real}
use Rattle.kept_caller.specs.Kept.{caller_bytes, caller_kept, caller_in, kept_as, kept_hears, kept_waits, opened_as, kept_opening}

-- A caller as these calls leave it: a reader with a store of 1,035 bytes, a session that can arise, counts as large as their places.
pub record Keeps (c : Caller) : Type 0 where
  pub whole : Whole c.end.reader
  pub arisen : arises c.end.session ≡ true
  pub real : Real c.end.session
  pub seen_small : c.end.seen < 2 ^ 32
  pub resent_small : c.resent < 2 ^ 64
  pub dropped_small : c.dropped < 2 ^ 64

-- Such a caller, put into bytes with room for it, is read there as it was; the buffer keeps its length. Stated of a way to keep one, proved of ours
-- (Back.antt), refuted for wrong ones (Wrong.antt).
abbrev pub KeptBackOf : (Caller → List ℕ → List ℕ) → Type 0
KeptBackOf kept =
    (c : Caller) (st : List ℕ) → Keeps c → caller_bytes ≤ length st → (caller_in (kept c st) ≡ c) × (length (kept c st) ≡ length st)

abbrev pub KeptBack : Type 0
KeptBack = KeptBackOf caller_kept

-- Calls over bytes: an opening by its numbers, and a byte or milliseconds.
abbrev pub Opens : Type 0
Opens = List ℕ → ℕ → ℕ → ℕ → ℕ → ℕ → List ℕ → List ℕ → Opened

abbrev pub Moves : Type 0
Moves = List ℕ → ℕ → List ℕ → List ℕ → Kept

-- An opening of the bytes with these wishes.
abbrev pub opened_by : Opens → List ℕ → ℕ → Wishes → List ℕ → List ℕ → Opened
opened_by opens st number w image output =
    opens st number (number_of_rate w.first) w.wish (start_number w.start) (same_number w.same) image output

abbrev pub kept_opened : List ℕ → ℕ → Wishes → List ℕ → List ℕ → Opened
kept_opened = opened_by kept_opening

-- Every opening in bytes with room leaves what the session's own leaves, and such a caller. Stated of an opening, proved of ours (Calls.antt),
-- refuted for wrong ones (Wrong.antt).
abbrev pub KeptOpeningOf : Opens → Type 0
KeptOpeningOf opens =
    (st : List ℕ) (number : ℕ) (w : Wishes) (image output : List ℕ) → caller_bytes ≤ length st → length image < 2 ^ 64 → w.wish < 2 ^ 64
    → (opened_by opens st number w image output ≡ opened_as (opening_of number w image output) st)
    × Keeps (caller_of (opening_of number w image output).session)

abbrev pub KeptOpening : Type 0
KeptOpening = KeptOpeningOf kept_opening

-- A call answers what the caller's own step does and leaves just that, and again such a caller.
pub record SameCall (hears waits : Moves) (c : Caller) (st : List ℕ) : Type 0 where
  pub hears_same : (byte : ℕ) (image output : List ℕ)
      → hears (caller_kept c st) byte image output ≡ kept_as (caller_hears c byte image output) (caller_kept c st)
  pub hears_keeps : (byte : ℕ) (image output : List ℕ) → Keeps (caller_hears c byte image output).caller
  pub waits_same : (ms : ℕ) (image output : List ℕ)
      → waits (caller_kept c st) ms image output ≡ kept_as (caller_waits c ms image output) (caller_kept c st)
  pub waits_keeps : (ms : ℕ) (image output : List ℕ) → Keeps (caller_waits c ms image output).caller

-- So from every opening, through any calls. Stated of two calls, proved of ours (Calls.antt), refuted for wrong ones (Wrong.antt).
abbrev pub KeptCallOf : Moves → Moves → Type 0
KeptCallOf hears waits = (c : Caller) (st : List ℕ) → Keeps c → caller_bytes ≤ length st → SameCall hears waits c st

abbrev pub KeptCall : Type 0
KeptCall = KeptCallOf kept_hears kept_waits
