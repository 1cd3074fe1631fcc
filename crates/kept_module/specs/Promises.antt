-- What is promised of a session kept as bytes, to be read without the proofs. Each statement is proved in the file named beside it.
use Rattle.std.specs.Prelude.{ℕ, ◌^◌, ◌≤◌, ◌<◌, true, List, map, ◌≡◌, length}
use Rattle.flat.specs.Words.{recorded}
use Rattle.flat.specs.Calls.{calls_by, bytes_by}
use Rattle.module_model.specs.Answers.{numbered, number_in}
use Rattle.module.specs.Session.{opening_of, arises}
use Rattle.module_promises.specs.Runs.{Given, Exchange, after_of, run_of, AllBytes}
use Rattle.module_promises.specs.Promises.{opened}
use Rattle.module.specs.declared.session.Session.{Session}
use Rattle.kept_module.specs.Record.{record_bytes}
use Rattle.kept_module.specs.Kept.{words_of, stands, session_in, Kept, kept_as, kept_step, kept_opening}

-- KeptLaws.antt. The record of any session that can arise, over a flash whose length fits eight bytes, stands in any buffer with room
-- for it and is read there as that session.
abbrev pub KeptBack : Type 0
KeptBack =
    (s : Session) (st : List ℕ) → arises s ≡ true → s.flash < 2 ^ 64 → record_bytes ≤ length st
    → (stands (recorded (words_of s) st) ≡ true) × (session_in (recorded (words_of s) st) ≡ s)

-- A call over some bytes, and a run of calls: each is given the bytes that the one before it left.
abbrev pub called : List ℕ → Given → Kept
called st g = kept_step st g.event g.payload g.flash g.reply

abbrev pub calls_of : List ℕ → List Given → List Kept
calls_of st gs = calls_by called (λ (k : Kept). k.state) st gs

-- The bytes after such a run.
abbrev pub bytes_after : List ℕ → List Given → List ℕ
bytes_after st gs = bytes_by called (λ (k : Kept). k.state) st gs

-- What a session's own step leaves, told as a call tells it: the answer's number and count, flash and reply, and the caller's
-- buffer with the record of the session at its front.
abbrev pub told : List ℕ → Exchange → Kept
told st x = kept_as (recorded (words_of x.left.session) st) x.left

-- A run of calls from an opening is the session's own run: the opening answers the same, each call leaves just what the session's own
-- step leaves, and the bytes at the end are the record of the session after the run.
pub record SameRun (st flash : List ℕ) (gs : List Given) : Type 0 where
  pub opening_answer : (kept_opening st flash).answer ≡ number_in (numbered (opening_of flash).answer)
  pub each : calls_of (kept_opening st flash).state gs ≡ map (told st) (run_of (opened flash) gs)
  pub bytes : bytes_after (kept_opening st flash).state gs ≡ recorded (words_of (after_of (opened flash) gs)) st

-- RunLaws.antt. This holds of every run whose payloads are bytes, from an opening over any flash whose length fits eight bytes, in any
-- buffer with room for the record.
abbrev pub KeptRun : Type 0
KeptRun =
    (st flash : List ℕ) (gs : List Given) → AllBytes gs → length flash < 2 ^ 64 → record_bytes ≤ length st → SameRun st flash gs
