-- A record: words of four bytes each, low byte first, one behind the other at the front of a buffer.
use Rattle.std.specs.Prelude.{ℕ, ◌/◌, ◌%◌, Bool, cond, List, [], ◌∷◌, ◌++◌, ltb, length}
use Rattle.octets.specs.Octets.{spelled, over, same_bytes, part_of}

-- The words, spelled one behind the other.
unfoldable pub spelled_all : List ℕ → List ℕ
spelled_all [] = []
spelled_all (w ∷ ws) = spelled 4 w ++ spelled_all ws

-- The buffer with the words at its front, or as it was where they have no room.
unfoldable pub recorded : List ℕ → List ℕ → List ℕ
recorded ws state = cond (ltb (length state / 4) (length ws)) state (over (spelled_all ws) state)

-- The front of a buffer is the record of these words.
unfoldable pub stands_for : List ℕ → List ℕ → Bool
stands_for ws state = same_bytes (spelled_all ws) (part_of state 0 (length (spelled_all ws)))

-- A number of eight bytes is two words, the low half first.
abbrev pub low_half : ℕ → ℕ
low_half x = x % 4294967296

abbrev pub high_half : ℕ → ℕ
high_half x = x / 4294967296 % 4294967296
