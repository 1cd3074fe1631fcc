-- The table of words as bytes: a row is its number, its words and a zero; behind the rows stand the words of any other number.
use Rattle.std.specs.Prelude.{ℕ, zero, suc, ◌+◌, Bool, true, cond, not, ◌&&◌, List, [], ◌∷◌, ◌++◌, eqb, get_or, take, drop}
use Rattle.octets.specs.Octets.{text_length}
use Rattle.refusals.specs.Refusals.{Row, unknown_words}

abbrev pub table_bytes : List Row → List ℕ
table_bytes [] = unknown_words
table_bytes (r ∷ rs) = r.number ∷ (r.words ++ (0 ∷ table_bytes rs))

-- The words of a number in a table of so many rows.
unfoldable pub row_of : ℕ → ℕ → List ℕ → List ℕ
row_of zero n t = t
row_of (suc m) n t =
    cond (eqb (get_or t 0 0) n) (take (text_length (drop 1 t)) (drop 1 t)) (row_of m n (drop (text_length (drop 1 t) + 2) t))

-- No words of a table have a zero in them.
abbrev pub plain : List ℕ → Bool
plain [] = true
plain (b ∷ bs) = not (eqb b 0) && plain bs

abbrev pub all_plain : List Row → Bool
all_plain [] = true
all_plain (r ∷ rs) = plain r.words && all_plain rs
