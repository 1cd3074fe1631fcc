-- What a reader that is kept as bytes promises: it answers as the reader itself does.
use Rattle.std.specs.Prelude.{ℕ, ◌+◌, ◌≤◌, List, [], ◌∷◌, map, ◌≡◌, length}
use Rattle.octets.specs.Octets.{part_of, over}
use Rattle.wire.specs.Frame.{longest_content}
use Rattle.flat.specs.Calls.{calls_by}
use Rattle.reader.specs.Reader.{fresh, step_of, payload_in}
use Rattle.reader.specs.declared.steps.Reader.{Reader}
use Rattle.reader.specs.declared.steps.Stepped.{Stepped}
use Rattle.kept_reader.specs.Kept.{reader_bytes, payload_place, bytes_of, reader_in, Kept, kept_new, kept_after, kept_step}

-- A reader as these calls leave it: its store has 1,035 bytes, and its count is in it.
pub record Whole (r : Reader) : Type 0 where
  pub size : length r.store ≡ longest_content
  pub low : r.count ≤ longest_content

-- Where it has room, a fresh start leaves the bytes of a fresh reader, which is such a one.
abbrev pub KeptFresh : Type 0
KeptFresh = (state : List ℕ) → reader_bytes ≤ length state → ((kept_new state).state ≡ over (bytes_of fresh) state) × Whole fresh

-- Its bytes are read as the same reader again, whatever follows them in the buffer.
abbrev pub KeptBack : Type 0
KeptBack = (r : Reader) (state : List ℕ) → Whole r → reader_bytes ≤ length state → reader_in (over (bytes_of r) state) ≡ r

-- The payload that the reader carries stands in the buffer from byte 16 on, where zrn_reader_payload says.
abbrev pub KeptPayload : Type 0
KeptPayload =
    (r : Reader) (state : List ℕ) (n : ℕ) → Whole r → reader_bytes ≤ length state → n + 4 ≤ longest_content
    → part_of (over (bytes_of r) state) payload_place n ≡ payload_in r.store n

-- The steps of a reader over some bytes.
unfoldable pub steps_of : Reader → List ℕ → List Stepped
steps_of r [] = []
steps_of r (b ∷ bs) = step_of r b ∷ steps_of (step_of r b).reader bs

-- The same by calls that hand the buffer from one to the next.
abbrev pub calls_of : List ℕ → List ℕ → List Kept
calls_of state bytes = calls_by kept_step (λ (k : Kept). k.state) state bytes

-- Over any bytes each call answers what the reader's own step does, and leaves its bytes at the front of the buffer, all else as lent.
abbrev pub KeptRun : Type 0
KeptRun =
    (r : Reader) (state bytes : List ℕ) → Whole r → reader_bytes ≤ length state
    → calls_of (over (bytes_of r) state) bytes ≡ map (λ (s : Stepped). kept_after s state) (steps_of r bytes)
