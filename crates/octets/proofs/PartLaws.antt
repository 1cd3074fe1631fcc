-- The laws of parts: pieces laid end to end and found again, the number that a part spells, runs of zeros, the xor of words.
use Rattle.std.specs.Prelude.{ℕ, zero, suc, ◌+◌, ◌-◌, ◌^◌, ◌≤◌, ◌<◌, Bool, true, ◌&&◌, List, [], ◌∷◌, ◌++◌, ◌≡◌, refl, eqb, length, take, drop, replicate}
use Rattle.std.proofs.Common.{append_assoc, append-nil, sym, ap, ap₂, ◌∙◌, pow-suc, arith, eqb-true, length-append, length-take, length-drop, take_at, take_all, drop_at, drop-drop, take-add, length-take-le}
use Rattle.std.proofs.Math.Nat.{min-le_left}
use Rattle.std.specs.Int.Bits.{bit_xor}
use Rattle.std.proofs.lemmas.Nat.{xor_lt}
use Rattle.octets.proofs.Choice.{both, by_test}
use Rattle.octets.proofs.Lists.{bytes_take, bytes_drop}
use Rattle.octets.specs.Octets.{Pieces, end_to_end, lay_all, laid, over}
use Rattle.octets.specs.Octets.{Bytes, little, spelled, number_at, part_of, all_zero, text_length, zero_filled, xor_words_from}
use Rattle.octets.proofs.OctetsLaws.{little_spelled, spelled_little, over_laid, laid_next, laid_length}

-- ---- a part

-- A part that lies within the bytes is as long as it says.
pub length_part : (s : List ℕ) (at n : ℕ) → at + n ≤ length s → length (part_of s at n) ≡ n
unfolding part_of
length_part s at n h = length-take-le n (drop at s) (rw length-drop (omega arith))

-- A part is never longer than asked for.
pub part_most : (s : List ℕ) (at n : ℕ) → length (part_of s at n) ≤ n
unfolding part_of
part_most s at n = rw length-take (min-le_left n (length (drop at s)))

-- A part of bytes is bytes.
pub bytes_part : (s : List ℕ) (at n : ℕ) → Bytes s → Bytes (part_of s at n)
unfolding part_of
bytes_part s at n h = bytes_take n (drop at s) (bytes_drop at s h)

-- Two parts, the second where the first ends, are one.
pub part_add : (s : List ℕ) (at n m : ℕ) → part_of s at n ++ part_of s (at + n) m ≡ part_of s at (n + m)
unfolding part_of
part_add s at n m = rw (← drop-drop n at s) (sym (take-add n m (drop at s)))

-- A run that fits, laid anywhere, is the part there.
pub part_laid : (d : List ℕ) (at : ℕ) (s : List ℕ) → at + length s ≤ length d → part_of (laid d at s) at (length s) ≡ s
unfolding part_of laid
part_laid d at s h =
    rw (drop_at (take at d) _ at (length-take-le at d (omega arith)), take_all (length d - at) s (omega arith))
    (take_at s (drop (at + length s) d) (length s) refl)

-- Of two runs laid as one, the second is the part behind the first.
pub part_behind : (d : List ℕ) (at : ℕ) (s t : List ℕ) → at + length s + length t ≤ length d
    → part_of (laid d at (s ++ t)) (at + length s) (length t) ≡ t
part_behind d at s t h =
    rw (← laid_next d at s t h) (part_laid (laid d at s) (at + length s) t (rw (laid_length d at s (omega arith)) h))

-- ---- pieces laid end to end

-- Their sizes together.
abbrev pub size_of_all : Pieces → ℕ
size_of_all [] = 0
size_of_all (p ∷ ps) = p.0 + size_of_all ps

-- Each piece is as long as its size says.
abbrev pub Sized : Pieces → Type 0
Sized [] = Unit
Sized (p ∷ ps) = (length p.1 ≡ p.0) × Sized ps

-- From a place on, each piece stands where the one before it ends.
abbrev pub StandAt : List ℕ → ℕ → Pieces → Type 0
StandAt s at [] = Unit
StandAt s at (p ∷ ps) = (part_of s at p.0 ≡ p.1) × StandAt s (at + p.0) ps

-- A fact and those of the pieces behind.
infixr 20 ◌also◌
abbrev pub ◌also◌ : {A B : Type 0} → A → B → A × B
a also b = (a, b)

-- Pieces laid end to end from a place on stand there, whatever follows.
pub stand_of_laid : (ps : Pieces) (s rest : List ℕ) (at : ℕ) → Sized ps → drop at s ≡ end_to_end ps ++ rest → StandAt s at ps
unfolding part_of
stand_of_laid [] s rest at sizes e = tt
stand_of_laid (p ∷ ps) s rest at sizes e =
    let behind : List ℕ = end_to_end ps ++ rest in
    let here : drop at s ≡ p.1 ++ behind = e ∙ append_assoc p.1 (end_to_end ps) rest in
    let next : drop (at + p.0) s ≡ behind = rw (← drop-drop p.0 at s, here) (drop_at p.1 behind p.0 sizes.0) in
    (ap (take p.0) here ∙ take_at p.1 behind p.0 sizes.0, stand_of_laid ps s rest (at + p.0) sizes.1 next)

-- Pieces that stand from a place on are, end to end, the part there.
pub laid_of_stand : (ps : Pieces) (s : List ℕ) (at : ℕ) → StandAt s at ps → end_to_end ps ≡ part_of s at (size_of_all ps)
unfolding part_of
laid_of_stand [] s at h = refl
laid_of_stand (p ∷ ps) s at h =
    ap₂ ◌++◌ (sym h.0) (laid_of_stand ps s (at + p.0) h.1) ∙ part_add s at p.0 (size_of_all ps)

-- Pieces end to end are as long as their sizes together.
pub length_laid : (ps : Pieces) → Sized ps → length (end_to_end ps) ≡ size_of_all ps
length_laid [] h = refl
length_laid (p ∷ ps) h = rw (length-append, length_laid ps h.1, h.0)

-- Pieces laid one by one behind a front are the front and the pieces, written over the buffer.
pub lay_all_law : (ps : Pieces) (front out : List ℕ) (at : ℕ) → length front ≡ at → Sized ps → at + size_of_all ps ≤ length out
    → lay_all (over front out) at ps ≡ over (front ++ end_to_end ps) out
lay_all_law [] front out at e sizes h = ap (λ (l : List ℕ). over l out) (sym (append-nil front))
lay_all_law (p ∷ ps) front out at e sizes h =
    let size : length (front ++ p.1) ≡ at + p.0 = length-append front p.1 ∙ rw (e, sizes.0) in
    rw (over_laid front out p.1 at e (omega (arith, sizes.0)))
    (lay_all_law ps (front ++ p.1) out (at + p.0) size sizes.1 (omega arith))
    ∙ ap (λ (l : List ℕ). over l out) (append_assoc front p.1 (end_to_end ps))

-- ---- the number that a part spells

-- A part that spells a number in so many bytes is read as that number.
pub number_of_part : (s : List ℕ) (at n x : ℕ) → x < 256 ^ n → part_of s at n ≡ spelled n x → number_at n s at ≡ x
unfolding part_of number_at
number_of_part s at n x fits e = ap little e ∙ little_spelled n x fits

-- The number read at a part of bytes is spelled as that part.
pub part_of_number : (s : List ℕ) (at n : ℕ) → Bytes s → at + n ≤ length s → part_of s at n ≡ spelled n (number_at n s at)
unfolding part_of number_at
part_of_number s at n b h = sym (rw (length_part s at n h) at (spelled_little (part_of s at n) (bytes_part s at n b)))

-- So many bytes spell a number that they have room for.
pub little_short : (n : ℕ) (bs : List ℕ) → Bytes bs → little (take n bs) < 256 ^ n
unfolding little
little_short zero bs h = omega arith
little_short (suc n) [] h = rw pow-suc (omega (arith, little_short n [] tt))
little_short (suc n) (b ∷ bs) h = rw pow-suc (omega (arith, h.0, little_short n bs h.1))

pub number_short : (n : ℕ) (s : List ℕ) (at : ℕ) → Bytes s → number_at n s at < 256 ^ n
unfolding number_at
number_short n s at h = little_short n (drop at s) (bytes_drop at s h)

-- ---- zeros

-- Zeros behind a run change nothing about whether it is all zero.
pub zeros_behind : (s : List ℕ) (k : ℕ) → all_zero (s ++ replicate k 0) ≡ all_zero s
unfolding all_zero
zeros_behind [] zero = refl
zeros_behind [] (suc k) = zeros_behind [] k
zeros_behind (b ∷ s) k = ap (λ (t : Bool). eqb b 0 && t) (zeros_behind s k)

-- A run of zeros is all zero.
pub zeros_zero : (k : ℕ) → all_zero (replicate k 0) ≡ true
unfolding all_zero
zeros_zero k = zeros_behind [] k

-- A run that is all zero is that many zeros.
pub zeros_of_zero : (s : List ℕ) → all_zero s ≡ true → s ≡ replicate (length s) 0
unfolding all_zero
zeros_of_zero [] h = refl
zeros_of_zero (b ∷ s) h =
    let each = both (eqb b 0) (all_zero s) h in
    ap₂ ◌∷◌ (eqb-true b 0 each.0) (zeros_of_zero s each.1)

-- Zeros behind a text change nothing about whether it is filled with zeros.
pub filled_behind : (s : List ℕ) (k : ℕ) → zero_filled (s ++ replicate k 0) ≡ zero_filled s
unfolding zero_filled text_length all_zero
filled_behind [] zero = refl
filled_behind [] (suc k) = zeros_zero k
filled_behind (b ∷ s) k =
    by_test (λ (m n : ℕ). all_zero (drop m (b ∷ s ++ replicate k 0)) ≡ all_zero (drop n (b ∷ s))) (eqb b 0)
    (λ e. zeros_behind (b ∷ s) k)
    (λ e. filled_behind s k)

-- ---- the xor of words

-- The xor of words of bytes fits 32 bits.
pub xor_words_lt : (a : ℕ) (s : List ℕ) → a < 2 ^ 32 → Bytes s → xor_words_from a s < 2 ^ 32
unfolding xor_words_from little
xor_words_lt a [] h bs = h
xor_words_lt a (b ∷ []) h bs = h
xor_words_lt a (b ∷ c ∷ []) h bs = h
xor_words_lt a (b ∷ c ∷ d ∷ []) h bs = h
xor_words_lt a (b ∷ c ∷ d ∷ e ∷ s) h bs =
    let word : little (b ∷ c ∷ d ∷ e ∷ []) < 2 ^ 32 = omega arith in
    xor_words_lt (bit_xor a (little (b ∷ c ∷ d ∷ e ∷ []))) s (xor_lt 32 a (little (b ∷ c ∷ d ∷ e ∷ [])) h word) bs.1.1.1.1
