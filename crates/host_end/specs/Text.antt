-- How much of a text has been heard.
use Rattle.std.specs.Prelude.{ℕ, ◌+◌, Bool, cond, ◌&&◌, List, eqb, ltb, length, get_or}

-- A byte is at a place of a text.
unfoldable pub stands : List ℕ → ℕ → ℕ → Bool
stands text at byte = ltb at (length text) && eqb (get_or text at 0) byte

-- One more byte: the next of the text, or else the first of a new one, or else the text is not under way. All of it has been heard
-- where the count is its length.
unfoldable pub followed : List ℕ → ℕ → ℕ → ℕ
followed text seen byte = cond (stands text seen byte) (seen + 1) (cond (stands text 0 byte) 1 0)
