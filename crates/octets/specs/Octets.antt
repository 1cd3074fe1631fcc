-- Lists of bytes: numbers spelled in them, their xor, zero runs, equal runs, one run laid into another.
use Rattle.std.specs.Prelude.{ℕ, zero, suc, ◌+◌, ◌*◌, ◌-◌, ◌/◌, ◌%◌, ◌≤◌, ◌<◌, Bool, true, false, cond, ◌&&◌, List, [], ◌∷◌, ◌++◌, ◌≡◌, eqb, length, take, drop}
use Rattle.std.specs.Int.Bits.{bit_xor}

-- Each number of the list is a byte.
abbrev pub Bytes : List ℕ → Type 0
Bytes [] = Unit
Bytes (b ∷ bs) = (b < 256) × Bytes bs

-- The number that bytes spell, low byte first.
unfoldable pub little : List ℕ → ℕ
little [] = 0
little (b ∷ bs) = b + 256 * little bs

-- A number spelled in so many bytes, low byte first; what does not fit is left out.
unfoldable pub spelled : ℕ → ℕ → List ℕ
spelled zero x = []
spelled (suc n) x = x % 256 ∷ spelled n (x / 256)

-- The number in the n bytes from a place on; a byte past the end counts as zero.
unfoldable pub number_at : ℕ → List ℕ → ℕ → ℕ
number_at n s at = little (take n (drop at s))

-- The xor of bytes, begun with a.
unfoldable pub xor_from : ℕ → List ℕ → ℕ
xor_from a [] = a
xor_from a (b ∷ bs) = xor_from (bit_xor a b) bs

-- The xor of bytes.
abbrev pub xor_of : List ℕ → ℕ
xor_of bs = xor_from 0 bs

-- Every byte is zero.
unfoldable pub all_zero : List ℕ → Bool
all_zero [] = true
all_zero (b ∷ bs) = eqb b 0 && all_zero bs

-- Two runs are the same, byte for byte and in length.
unfoldable pub same_bytes : List ℕ → List ℕ → Bool
same_bytes [] [] = true
same_bytes [] (y ∷ ys) = false
same_bytes (x ∷ xs) [] = false
same_bytes (x ∷ xs) (y ∷ ys) = eqb x y && same_bytes xs ys

-- The n bytes from a place on, or as many of them as there are.
unfoldable pub part_of : List ℕ → ℕ → ℕ → List ℕ
part_of s at n = take n (drop at s)

-- How many bytes stand before the first zero.
unfoldable pub text_length : List ℕ → ℕ
text_length [] = 0
text_length (b ∷ bs) = cond (eqb b 0) 0 (suc (text_length bs))

-- Nothing but zero follows a zero.
unfoldable pub zero_filled : List ℕ → Bool
zero_filled s = all_zero (drop (text_length s) s)

-- The xor of words of four bytes, begun with a; a rest that is no word is left out.
unfoldable pub xor_words_from : ℕ → List ℕ → ℕ
xor_words_from a [] = a
xor_words_from a (b ∷ []) = a
xor_words_from a (b ∷ c ∷ []) = a
xor_words_from a (b ∷ c ∷ d ∷ []) = a
xor_words_from a (b ∷ c ∷ d ∷ e ∷ bs) = xor_words_from (bit_xor a (little (b ∷ c ∷ d ∷ e ∷ []))) bs

-- The xor of the words of a run.
abbrev pub xor_words : List ℕ → ℕ
xor_words s = xor_words_from 0 s

-- The buffer d with s laid into it from a place on: as much of s as fits, every other byte as it was.
unfoldable pub laid : List ℕ → ℕ → List ℕ → List ℕ
laid d at s = take at d ++ (take (length d - at) s ++ drop (at + length s) d)

-- So many bytes stand at the front of a buffer. The second part follows from the first; with both a caller's `&out[..n]` is
-- proved by itself.
abbrev pub Front : ℕ → List ℕ → Type 0
Front n out = (n ≤ length out) × (n ≡ length (take n out))

-- The buffer with its first bytes written over and the rest as lent.
unfoldable pub over : List ℕ → List ℕ → List ℕ
over front out = front ++ drop (length front) out

-- Pieces, each with its size.
abbrev pub Pieces : Type 0
Pieces = List (ℕ × List ℕ)

-- The pieces end to end.
abbrev pub end_to_end : Pieces → List ℕ
end_to_end [] = []
end_to_end (p ∷ ps) = p.1 ++ end_to_end ps

-- A buffer with the pieces laid into it from a place on, each where the one before it ends.
abbrev pub lay_all : List ℕ → ℕ → Pieces → List ℕ
lay_all out at [] = out
lay_all out at (p ∷ ps) = lay_all (laid out at p.1) (at + p.0) ps
