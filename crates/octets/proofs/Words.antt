-- The words of Octets in those of the library: what its methods answer is what the contracts say.
use borrow.Rule.Slice.PartMut.{put_mid}
use Rattle.std.specs.Prelude.{ℕ, zero, suc, min, ◌-◌, ◌+◌, ◌*◌, ◌/◌, ◌≤◌, ◌<◌, cond, ◌&&◌, List, [], ◌∷◌, ◌++◌, ◌≡◌, refl, eqb, ltb, length, take, drop, replicate, Option, Some, None}
use Rattle.std.specs.List.{fold, list_all, position_or_len}
use Rattle.std.specs.Option.{unwrap_or}
use Rattle.std.specs.Int.{w16, w32, w64, to_le_bytes, from_le_bytes}
use Rattle.std.specs.Cmp.Lexicographic.{pointwise}
use Rattle.std.specs.Int.Bits.{bit_xor}
use Rattle.std.proofs.Common.{ap, ◌∙◌, arith, rules, length-append, length-take, drop_of_length-le, append-nil, take_all, drop-drop}
use Rattle.std.proofs.lemmas.List.{drop-replicate, length-replicate}
use Rattle.std.proofs.lemmas.List.Recursion.{is_position_or_len}
use Rattle.std.proofs.Math.Decide.{dec_le}
use Rattle.std.proofs.Math.Seq.{take-length}
use Rattle.octets.specs.Octets.{little, spelled, number_at, part_of, xor_from, xor_words_from, all_zero, same_bytes, text_length, laid}
use Rattle.octets.proofs.OctetsLaws.{text_within}
use Rattle.octets.proofs.Choice.{either_way}

pub xor_folds : (a : ℕ) (bs : List ℕ) → fold bit_xor a bs ≡ xor_from a bs
unfolding xor_from
xor_folds a [] = refl
xor_folds a (b ∷ bs) = xor_folds (bit_xor a b) bs

pub zero_all : (bs : List ℕ) → list_all (λ b. eqb b 0) bs ≡ all_zero bs
unfolding all_zero
zero_all [] = refl
zero_all (b ∷ bs) = ap (λ r. eqb b 0 && r) (zero_all bs)

pub same_pointwise : (s t : List ℕ) → pointwise eqb s t ≡ same_bytes s t
unfolding same_bytes
same_pointwise [] [] = refl
same_pointwise [] (y ∷ t) = refl
same_pointwise (x ∷ s) [] = refl
same_pointwise (x ∷ s) (y ∷ t) = ap (λ r. eqb x y && r) (same_pointwise s t)

-- ---- texts

text_position : (s : List ℕ) → text_length s ≡ position_or_len (λ b. eqb b 0) s
unfolding text_length
text_position s = is_position_or_len text_length (λ b. eqb b 0) refl (λ x xs. search rules) s

-- The place of the first zero, or the length where there is none.
pub text_found : (s : List ℕ)
    → unwrap_or (cond (ltb (position_or_len (λ b. eqb b 0) s) (length s)) (Some (position_or_len (λ b. eqb b 0) s)) None) (length s) ≡ text_length s
text_found s =
    let most = text_within s in
    rw (← text_position s) (either_way (λ (r : Option ℕ). unwrap_or r (length s) ≡ text_length s) (ltb (text_length s) (length s)) (λ e. refl) (λ e. grind (arith, e, most)))

-- ---- numbers

pub spelled_two : (x : ℕ) → to_le_bytes w16 x ≡ spelled 2 x
unfolding spelled
spelled_two x = refl

pub spelled_four : (x : ℕ) → to_le_bytes w32 x ≡ spelled 4 x
unfolding spelled
spelled_four x =
    let third : x / 65536 ≡ x / 256 / 256 = omega arith in
    let fourth : x / 16777216 ≡ x / 256 / 256 / 256 = omega arith in
    cc

-- The number that so many bytes spell, as the library reads it.
little_two : (bs : List ℕ) → length bs ≡ 2 → from_le_bytes w16 bs ≡ little bs
unfolding little
little_two (a ∷ b ∷ []) h = omega arith
little_two [] h = absurd (omega arith)
little_two (a ∷ []) h = absurd (omega arith)
little_two (a ∷ b ∷ c ∷ bs) h = absurd (omega arith)

little_four : (bs : List ℕ) → length bs ≡ 4 → from_le_bytes w32 bs ≡ little bs
unfolding little
little_four (a ∷ b ∷ c ∷ d ∷ []) h = omega arith
little_four [] h = absurd (omega arith)
little_four (a ∷ []) h = absurd (omega arith)
little_four (a ∷ b ∷ []) h = absurd (omega arith)
little_four (a ∷ b ∷ c ∷ []) h = absurd (omega arith)
little_four (a ∷ b ∷ c ∷ d ∷ e ∷ bs) h = absurd (omega arith)

little_eight : (bs : List ℕ) → length bs ≡ 8 → from_le_bytes w64 bs ≡ little bs
unfolding little
little_eight (a ∷ b ∷ c ∷ d ∷ e ∷ f ∷ g ∷ x ∷ []) h = omega arith
little_eight [] h = absurd (omega arith)
little_eight (a ∷ []) h = absurd (omega arith)
little_eight (a ∷ b ∷ []) h = absurd (omega arith)
little_eight (a ∷ b ∷ c ∷ []) h = absurd (omega arith)
little_eight (a ∷ b ∷ c ∷ d ∷ []) h = absurd (omega arith)
little_eight (a ∷ b ∷ c ∷ d ∷ e ∷ []) h = absurd (omega arith)
little_eight (a ∷ b ∷ c ∷ d ∷ e ∷ f ∷ []) h = absurd (omega arith)
little_eight (a ∷ b ∷ c ∷ d ∷ e ∷ f ∷ g ∷ []) h = absurd (omega arith)
little_eight (a ∷ b ∷ c ∷ d ∷ e ∷ f ∷ g ∷ x ∷ y ∷ bs) h = absurd (omega arith)

-- Zeros behind bytes add nothing to their number.
little_zeros : (bs : List ℕ) (n : ℕ) → little (bs ++ replicate n 0) ≡ little bs
unfolding little
little_zeros [] zero = refl
little_zeros [] (suc n) = omega (arith, little_zeros [] n)
little_zeros (b ∷ bs) n = ap (λ k. b + 256 * k) (little_zeros bs n)

-- Bytes read from a place on, with zeros for those past the end.
filled : ℕ → List ℕ → ℕ → List ℕ
filled n s at = laid (replicate {A = ℕ} n 0) 0 (part_of s at n)

number_filled : (n : ℕ) (s : List ℕ) (at : ℕ) → (length (filled n s at) ≡ n) × (little (filled n s at) ≡ number_at n s at)
unfolding filled laid part_of number_at
number_filled n s at =
    let bs : List ℕ = take n (drop at s) in
    let few : length bs ≤ n = simp length-take (omega arith) in
    let size : length (replicate {A = ℕ} n 0) ≡ n = length-replicate n 0 in
    let whole : take (length (replicate {A = ℕ} n 0) - 0) bs ≡ bs = take_all (length (replicate {A = ℕ} n 0) - 0) bs (omega arith) in
    let none : 0 + length bs ≡ length bs = omega arith in
    let behind : drop (length bs) (replicate {A = ℕ} n 0) ≡ replicate (n - length bs) 0 = drop-replicate {X = ℕ} (length bs) n 0 in
    rw (whole, none, behind) (simp (length-append, length-replicate) (omega arith), little_zeros bs (n - length bs))

pub two_read : (s : List ℕ) (at : ℕ) (bs : List ℕ) → bs ≡ laid (replicate 2 0) 0 (part_of s at 2) → from_le_bytes w16 bs ≡ number_at 2 s at
unfolding filled
two_read s at bs e = rw e (little_two (filled 2 s at) (number_filled 2 s at).0 ∙ (number_filled 2 s at).1)

pub four_read : (s : List ℕ) (at : ℕ) (bs : List ℕ) → bs ≡ laid (replicate 4 0) 0 (part_of s at 4) → from_le_bytes w32 bs ≡ number_at 4 s at
unfolding filled
four_read s at bs e = rw e (little_four (filled 4 s at) (number_filled 4 s at).0 ∙ (number_filled 4 s at).1)

pub eight_read : (s : List ℕ) (at : ℕ) (bs : List ℕ) → bs ≡ laid (replicate 8 0) 0 (part_of s at 8) → from_le_bytes w64 bs ≡ number_at 8 s at
unfolding filled
eight_read s at bs e = rw e (little_eight (filled 8 s at) (number_filled 8 s at).0 ∙ (number_filled 8 s at).1)

-- Where all bytes are there, they are what is read.
pub whole_read : (n : ℕ) (bs : List ℕ) → length bs ≡ n → laid (replicate n 0) 0 bs ≡ bs
unfolding laid
whole_read n bs e =
    let size : length (replicate {A = ℕ} n 0) ≡ n = length-replicate n 0 in
    let whole : take (length (replicate {A = ℕ} n 0) - 0) bs ≡ bs = take_all (length (replicate {A = ℕ} n 0) - 0) bs (omega arith) in
    let none : drop (0 + length bs) (replicate {A = ℕ} n 0) ≡ [] = drop_of_length-le (replicate {A = ℕ} n 0) (omega arith) in
    rw (whole, none) (append-nil bs)

-- ---- words of four bytes

-- The whole words of a run.
pub fours : List ℕ → List (List ℕ)
fours [] = []
fours (a ∷ []) = []
fours (a ∷ b ∷ []) = []
fours (a ∷ b ∷ c ∷ []) = []
fours (a ∷ b ∷ c ∷ d ∷ s) = (a ∷ b ∷ c ∷ d ∷ []) ∷ fours s

pub fours_end : (s : List ℕ) → length s < 4 → length (fours s) ≡ 0
unfolding fours
fours_end [] h = refl
fours_end (a ∷ []) h = refl
fours_end (a ∷ b ∷ []) h = refl
fours_end (a ∷ b ∷ c ∷ []) h = refl
fours_end (a ∷ b ∷ c ∷ d ∷ s) h = absurd (omega arith)

pub fours_more : (w s : List ℕ) → length w ≡ 4 → fours (w ++ s) ≡ w ∷ fours s
unfolding fours
fours_more (a ∷ b ∷ c ∷ d ∷ []) s h = refl
fours_more [] s h = absurd (omega arith)
fours_more (a ∷ []) s h = absurd (omega arith)
fours_more (a ∷ b ∷ []) s h = absurd (omega arith)
fours_more (a ∷ b ∷ c ∷ []) s h = absurd (omega arith)
fours_more (a ∷ b ∷ c ∷ d ∷ e ∷ bs) s h = absurd (omega arith)

pub words_fold : (a : ℕ) (s : List ℕ) → fold (λ x w. bit_xor x (number_at 4 w 0)) a (fours s) ≡ xor_words_from a s
unfolding fours xor_words_from number_at
words_fold a [] = refl
words_fold a (b ∷ []) = refl
words_fold a (b ∷ c ∷ []) = refl
words_fold a (b ∷ c ∷ d ∷ []) = refl
words_fold a (b ∷ c ∷ d ∷ e ∷ s) = words_fold (bit_xor a (little (b ∷ c ∷ d ∷ e ∷ []))) s

-- ---- laying bytes into a buffer

-- What a write of as many bytes as fit leaves.
pub laid_mid : (d : List ℕ) (at : ℕ) (s : List ℕ) (n k : ℕ) (ys : List ℕ) → at ≤ length d → n ≡ min (length s) (length d - at) → k ≡ n → ys ≡ take n s
    → put_mid at k d ys ≡ laid d at s
unfolding laid
laid_mid d at s n k ys h e f g = go (dec_le (length s) (length d - at))
  where
    go : Dec (length s ≤ length d - at) → put_mid at k d ys ≡ laid d at s
    go (yes short) =
        let all : n ≡ length s = omega arith in
        let next : at + k ≡ at + length s = omega arith in
        rw (drop-drop k at d, next, g, all, take-length, take_all (length d - at) s short)
    go (no long) =
        let room : n ≡ length d - at = omega arith in
        let end : length d ≤ at + k = omega arith in
        let far : length d ≤ at + length s = omega arith in
        rw (drop-drop k at d, drop_of_length-le d end, drop_of_length-le d far, g, room)
