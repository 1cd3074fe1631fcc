-- A reader as bytes: three words, count, opened and pending, and behind them the store of 1,035 bytes.
use Rattle.std.specs.Prelude.{ℕ, Bool, true, false, cond, ◌&&◌, List, [], ◌∷◌, ◌++◌, eqb, leb, ltb, length}
use Rattle.octets.specs.Octets.{number_at, part_of, over}
use Rattle.refusals.specs.Refusals.{no_room, refusal_number}
use Rattle.wire.specs.Frame.{longest_content}
use Rattle.flat.specs.Words.{spelled_all, low_half}
use Rattle.flat.specs.Answers.{nothing}
use Rattle.reader.specs.Reader.{fresh, step_of, number_in, command_in, count_in}
use Rattle.reader.specs.declared.steps.Reader.{Reader}
use Rattle.reader.specs.declared.steps.Stepped.{Stepped}

-- Where each number of the record stands, and how long the record is. Whatever is added comes last.
abbrev pub count_place : ℕ
count_place = 0

abbrev pub opened_place : ℕ
opened_place = 4

abbrev pub pending_place : ℕ
pending_place = 8

abbrev pub store_place : ℕ
store_place = 12

-- The payload of a frame stands in the store, behind Length, device and command.
abbrev pub payload_place : ℕ
payload_place = 16

abbrev pub reader_bytes : ℕ
reader_bytes = 1047

abbrev pub flag : Bool → ℕ
flag true = 1
flag false = 0

-- The bytes of a reader.
unfoldable pub bytes_of : Reader → List ℕ
bytes_of r = spelled_all (low_half r.count ∷ flag r.opened ∷ flag r.pending ∷ []) ++ r.store

-- Bytes that stand for a reader: room for its record, a count of at most 1,035 and flags of 0 or 1.
unfoldable pub stands : List ℕ → Bool
stands state =
    leb reader_bytes (length state)
    && (leb (number_at 4 state count_place) longest_content && (leb (number_at 4 state opened_place) 1 && leb (number_at 4 state pending_place) 1))

-- The reader in some bytes; where they stand for none, a fresh one.
unfoldable pub reader_in : List ℕ → Reader
reader_in state =
    cond (stands state)
    (record {
      store = part_of state store_place longest_content;
      count = number_at 4 state count_place;
      opened = eqb (number_at 4 state opened_place) 1;
      pending = eqb (number_at 4 state pending_place) 1;
    })
    fresh

-- The bytes with a reader at their front, or as they were where it has no room.
unfoldable pub reader_kept : Reader → List ℕ → List ℕ
reader_kept r state = cond (ltb (length state) reader_bytes) state (over (bytes_of r) state)

-- What a fresh start answers and leaves.
pub record Begun : Type 0 where
  pub answer : ℕ
  pub state : List ℕ

unfoldable pub kept_new : List ℕ → Begun
kept_new state =
    cond (ltb (length state) reader_bytes) (record { answer = refusal_number no_room; state = state })
    (record { answer = nothing; state = over (bytes_of fresh) state })

-- What a byte answers and leaves.
pub record Kept : Type 0 where
  pub answer : ℕ
  pub command : ℕ
  pub count : ℕ
  pub state : List ℕ

abbrev pub kept_after : Stepped → List ℕ → Kept
kept_after s state =
    record {
      answer = number_in s.heard;
      command = command_in s.heard;
      count = count_in s.heard;
      state = over (bytes_of s.reader) state;
    }

unfoldable pub kept_step : List ℕ → ℕ → Kept
kept_step state byte =
    cond (ltb (length state) reader_bytes) (record { answer = refusal_number no_room; command = 0; count = 0; state = state })
    (kept_after (step_of (reader_in state) byte) state)
