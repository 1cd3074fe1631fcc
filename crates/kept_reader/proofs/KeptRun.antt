-- A reader kept as bytes is the same reader.
use Prim.Native.Nat.{ℕ, ◌+◌, ◌≤◌}
use Rattle.std.specs.Prelude.{Bool, false, ◌≡◌, refl, eqb, length, take}
use Rattle.std.proofs.Math.Bool.{true}
use mathlib.Core.List.{List, [], ◌∷◌, ◌++◌, append_assoc}
use Rattle.std.proofs.Math.Path.{sym, ap}
use Rattle.std.proofs.Common.{◌∙◌, arith, length-append, length-drop, drop_at, drop-drop}
use borrow.Author.Tests.{le-leb, le-ltb}
use Rattle.std.proofs.Math.ListN.{drop}
use Rattle.std.proofs.Math.Seq.{take_at, take-append-le, drop-append-le}
use Rattle.octets.specs.Octets.{number_at, part_of, over}
use Rattle.octets.proofs.OctetsLaws.{length_over, over_over}
use Rattle.octets.proofs.Choice.{cond_yes, cond_no}
use Rattle.wire.specs.Frame.{longest_content}
use Rattle.flat.specs.Words.{spelled_all, low_half}
use Rattle.flat.specs.WordsLaws.{length_spelled_all}
use Rattle.flat.specs.Calls.{calls_by}
use Rattle.flat.specs.Found.{ReadAt, read_all}
use Rattle.reader.specs.Reader.{fresh, step_of, payload_in, number_in, command_in, count_in}
use Rattle.reader_promises.proofs.SeenLaws.{fresh_known, step_known}
use Rattle.reader.specs.declared.steps.Reader.{Reader}
use Rattle.kept_reader.specs.Kept.{reader_bytes, store_place, payload_place, flag, bytes_of, stands, reader_in}
use Rattle.kept_reader.specs.Kept.{Kept, kept_new, kept_after, kept_step}
use Rattle.kept_reader.specs.Promises.{Whole, KeptFresh, KeptBack, KeptPayload, steps_of, KeptRun}

-- A flag is 0 or 1, and is read as it was.
flag_low : (b : Bool) → flag b ≤ 1
flag_low true = omega arith
flag_low false = omega arith

flag_back : (b : Bool) → eqb (flag b) 1 ≡ b
flag_back true = refl
flag_back false = refl

-- The three words of a reader.
abbrev words_of : Reader → List ℕ
words_of r = low_half r.count ∷ flag r.opened ∷ flag r.pending ∷ []

-- As many bytes as a record has.
pub bytes_size : (r : Reader) → Whole r → length (bytes_of r) ≡ reader_bytes
unfolding bytes_of
bytes_size r w = length-append (spelled_all (words_of r)) r.store ∙ rw (length_spelled_all (words_of r), w.size)

module _ (r : Reader) (state : List ℕ) (w : Whole r) (room : reader_bytes ≤ length state) where
  -- What follows the words.
  behind : List ℕ
  behind = r.store ++ drop (length (bytes_of r)) state

  bytes_long : length (bytes_of r) ≡ reader_bytes
  bytes_long = bytes_size r w

  long : length (over (bytes_of r) state) ≡ length state
  long = length_over (bytes_of r) state (rw bytes_long room)

  front : over (bytes_of r) state ≡ spelled_all (words_of r) ++ behind
  unfolding bytes_of over behind
  front = append_assoc (spelled_all (words_of r)) r.store _

  -- The words are read again.
  words_back : ReadAt (over (bytes_of r) state) 0 (words_of r)
  words_back =
      read_all (words_of r) (over (bytes_of r) state) behind 0
      (omega (arith, w.low), (omega (arith, flag_low r.opened), (omega (arith, flag_low r.pending), tt)))
      front

  count_back : number_at 4 (over (bytes_of r) state) 0 ≡ r.count
  count_back = omega (arith, words_back.0, w.low)

  opened_back : number_at 4 (over (bytes_of r) state) 4 ≡ flag r.opened
  opened_back = words_back.1.0

  pending_back : number_at 4 (over (bytes_of r) state) 8 ≡ flag r.pending
  pending_back = words_back.1.1.0

  store_stands : drop store_place (over (bytes_of r) state) ≡ behind
  store_stands = ap (drop store_place) front ∙ drop_at (spelled_all (words_of r)) behind store_place (length_spelled_all (words_of r))

  store_back : part_of (over (bytes_of r) state) store_place longest_content ≡ r.store
  unfolding part_of behind
  store_back = ap (take longest_content) store_stands ∙ take_at r.store (drop (length (bytes_of r)) state) longest_content w.size

  -- The payload stands behind the first four bytes of the store.
  payload_back : (n : ℕ) → n + 4 ≤ longest_content → part_of (over (bytes_of r) state) payload_place n ≡ payload_in r.store n
  unfolding part_of behind
  payload_back n h =
      let rest : List ℕ = drop (length (bytes_of r)) state in
      let place : drop payload_place (over (bytes_of r) state) ≡ drop 4 r.store ++ rest =
      sym (drop-drop 4 store_place (over (bytes_of r) state)) ∙ ap (drop 4) store_stands ∙ drop-append-le 4 r.store rest (omega (arith, w.size)) in
      ap (take n) place ∙ take-append-le n (drop 4 r.store) rest (rw (length-drop, w.size) (omega arith))

  back : reader_in (over (bytes_of r) state) ≡ r
  unfolding reader_in stands
  back =
      let standing : stands (over (bytes_of r) state) ≡ true =
      rw (long, le-leb reader_bytes (length state) room, count_back, opened_back, pending_back, le-leb _ _ w.low, le-leb _ _ (flag_low r.opened), le-leb _ _ (flag_low r.pending)) in
      cond_yes _ _ _ standing
      ∙ rw (store_back, count_back, opened_back, pending_back, flag_back r.opened, flag_back r.pending)

pub fresh_whole : Whole fresh
fresh_whole = let k = fresh_known in record { size = k.size; low = k.low }

pub kept_fresh : KeptFresh
unfolding kept_new
kept_fresh state room = (rw (le-ltb (length state) reader_bytes room), fresh_whole)

pub kept_back : KeptBack
kept_back r state w room = back r state w room

pub kept_payload : KeptPayload
kept_payload r state n w room h = payload_back r state w room n h

-- The reader after a step is as these calls leave it.
pub step_whole : (r : Reader) (b : ℕ) → Whole r → Whole (step_of r b).reader
step_whole r b w = let k = step_known r w.size b in record { size = k.size; low = k.low }

-- One call.
one_call : (r : Reader) (state : List ℕ) (b : ℕ) → Whole r → reader_bytes ≤ length state → kept_step (over (bytes_of r) state) b ≡ kept_after (step_of r b) state
unfolding kept_step
one_call r state b w room =
    let next : Whole (step_of r b).reader = step_whole r b w in
    cond_no _ _ _ (le-ltb (length (over (bytes_of r) state)) reader_bytes (rw (long r state w room) room))
    ∙ ap (λ (x : Reader). kept_after (step_of x b) (over (bytes_of r) state)) (kept_back r state w room)
    ∙ ap
    (λ (l : List ℕ). record {
      answer = number_in (step_of r b).heard;
      command = command_in (step_of r b).heard;
      count = count_in (step_of r b).heard;
      state = l;
    })
    (over_over (bytes_of r) (bytes_of (step_of r b).reader) state (rw (bytes_long r state w room, bytes_long (step_of r b).reader state next room) (omega arith)))

pub kept_run : KeptRun
unfolding steps_of calls_by
kept_run r state [] w room = refl
kept_run r state (b ∷ bs) w room =
    rw (one_call r state b w room)
    (ap (λ (l : List Kept). kept_after (step_of r b) state ∷ l) (kept_run (step_of r b).reader state bs (step_whole r b w) room))
