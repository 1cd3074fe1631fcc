-- The laws of Octets.
use Rattle.std.specs.Prelude.{ℕ, zero, suc, ◌+◌, ◌*◌, ◌-◌, ◌/◌, ◌%◌, ◌^◌, ◌≤◌, ◌<◌, min, Bool, true, false, ◌&&◌, List, [], ◌∷◌, ◌++◌, ◌≡◌, refl, eqb, length, get_or, take, drop, set}
use Rattle.std.proofs.Math.Bool.{and-false}
use Rattle.std.proofs.lemmas.Bool.{false≢true}
use Rattle.std.proofs.Common.{append_assoc, append-nil, sym, ap, ap₂, ◌∙◌, le_trans, le-add_right, div-lt_iff_lt-mul, pow-suc, mul_right_comm, mod-lt, mod-eq_of_lt, add-one, arith, eq-eqb, eqb-true, ne_eqb, lit<, length-append, length-drop, drop_of_length-le, take-append-drop, take-suc, drop-cons, take_all, take_at, drop-drop, length-take-le, get_or-append-add, get_or-take, get_or-drop}
use Rattle.std.proofs.Math.Decide.{dec_le}
use Rattle.std.proofs.Math.Nat.{min-eq_left, min-eq_right, div-add-mod, mul-add-mod_self_left}
use Rattle.std.proofs.Math.Numerals.{add-two}
use Rattle.std.specs.Int.Bits.{bit_xor}
use Rattle.std.proofs.Math.ListN.{get_or-append}
use Rattle.std.proofs.Math.Seq.{drop-length, take-length, take-nil, drop-nil, set-append_seam, append_snoc, paste, drop-append-add}
use Rattle.std.proofs.lemmas.List.Edits.{sets}
use Rattle.octets.proofs.Choice.{both, either_way}
use Rattle.octets.specs.Octets.{text_length, xor_words_from, Bytes, little, spelled, number_at, xor_from, xor_of, all_zero, same_bytes, laid, over}

-- ---- xor

pub xor_from_snoc : (a : ℕ) (bs : List ℕ) (b : ℕ) → xor_from a (bs ++ (b ∷ [])) ≡ bit_xor (xor_from a bs) b
unfolding xor_from
xor_from_snoc a [] b = refl
xor_from_snoc a (x ∷ bs) b = xor_from_snoc (bit_xor a x) bs b

-- One byte more, as a loop takes it.
pub xor_more : (s : List ℕ) (i : ℕ) → i < length s → xor_of (take (i + 1) s) ≡ bit_xor (xor_of (take i s)) (get_or s i 0)
xor_more s i h = rw (add-one, take-suc s i 0) (xor_from_snoc 0 (take i s) (get_or s i 0))

pub xor_all : (s : List ℕ) (i : ℕ) → length s ≤ i → xor_of (take i s) ≡ xor_of s
xor_all s i h = ap xor_of (take_all i s h)

-- ---- runs that a loop walks from the front

-- The test of the first byte decides, and the rest is the same test.
pub zero_more : (s : List ℕ) (i : ℕ) → i < length s → all_zero (drop i s) ≡ (eqb (get_or s i 0) 0 && all_zero (drop (i + 1) s))
unfolding all_zero
zero_more s i h = rw (add-one, drop-cons s i 0 h)

pub zero_end : (s : List ℕ) (i : ℕ) → length s ≤ i → all_zero (drop i s) ≡ true
unfolding all_zero
zero_end s i h = rw (drop_of_length-le s h)

pub same_more : (s t : List ℕ) (i : ℕ) → i < length s → i < length t
    → same_bytes (drop i s) (drop i t) ≡ (eqb (get_or s i 0) (get_or t i 0) && same_bytes (drop (i + 1) s) (drop (i + 1) t))
unfolding same_bytes
same_more s t i hs ht = rw (add-one, drop-cons s i 0 hs, drop-cons t i 0 ht)

pub same_end : (s t : List ℕ) (i : ℕ) → length s ≤ i → length t ≤ i → same_bytes (drop i s) (drop i t) ≡ true
unfolding same_bytes
same_end s t i hs ht = rw (drop_of_length-le s hs, drop_of_length-le t ht)

-- Runs of different length are not the same.
pub same_longer : (s t : List ℕ) → (length s ≡ length t → ⊥) → same_bytes s t ≡ false
unfolding same_bytes
same_longer [] [] h = absurd (h refl)
same_longer [] (y ∷ t) h = refl
same_longer (x ∷ s) [] h = refl
same_longer (x ∷ s) (y ∷ t) h = ap (λ (r : Bool). eqb x y && r) (same_longer s t (λ e. h (ap suc e))) ∙ and-false (eqb x y)

-- The test is right: it holds exactly of equal runs.
pub same_refl : (s : List ℕ) → same_bytes s s ≡ true
unfolding same_bytes
same_refl [] = refl
same_refl (x ∷ s) = rw (eq-eqb x x refl) (same_refl s)

pub same_true : (s t : List ℕ) → same_bytes s t ≡ true → s ≡ t
unfolding same_bytes
same_true [] [] h = refl
same_true [] (y ∷ t) h = absurd (false≢true h)
same_true (x ∷ s) [] h = absurd (false≢true h)
same_true (x ∷ s) (y ∷ t) h =
    let each = both (eqb x y) (same_bytes s t) h in
    ap₂ ◌∷◌ (eqb-true x y each.0) (same_true s t each.1)

-- ---- numbers

pub number_past : (n : ℕ) (s : List ℕ) (at : ℕ) → length s ≤ at → number_at n s at ≡ 0
unfolding number_at little
number_past n s at h = rw (drop_of_length-le s h, take-nil n)

-- A number is its first byte and the rest, 256 times as much.
pub number_step : (n : ℕ) (s : List ℕ) (at : ℕ) → number_at (suc n) s at ≡ get_or s at 0 + 256 * number_at n s (suc at)
unfolding number_at little
number_step n [] at = rw (drop-nil at, take-nil n)
number_step n (x ∷ s) zero = refl
number_step n (x ∷ s) (suc at) = number_step n s at

pub number_two : (s : List ℕ) (at : ℕ) → number_at 2 s at ≡ get_or s at 0 + 256 * get_or s (at + 1) 0
unfolding number_at little
number_two s at = number_step 1 s at ∙ rw (number_step 0 s (suc at), add-one) (omega arith)

pub number_four : (s : List ℕ) (at : ℕ) → number_at 4 s at ≡ number_at 2 s at + 65536 * number_at 2 s (at + 2)
number_four s at =
    let first : number_at 2 s at ≡ get_or s at 0 + 256 * get_or s (suc at) 0 = number_two s at ∙ rw add-one in
    rw (number_step 3 s at, number_step 2 s (suc at), first, add-two) (omega arith)

-- ---- laying bytes into a buffer

pub laid_past : (d : List ℕ) (at : ℕ) (s : List ℕ) → length d ≤ at → laid d at s ≡ d
unfolding laid
laid_past d at s h =
    let none : length d - at ≡ 0 = omega arith in
    rw (take_all at d h, none, drop_of_length-le d (le_trans h (le-add_right at (length s))), append-nil)

-- No byte laid changes nothing.
pub laid_nothing : (d : List ℕ) (at : ℕ) → laid d at [] ≡ d
unfolding laid
laid_nothing d at = let none : at + 0 ≡ at = omega arith in rw (take-nil (length d - at), none) (take-append-drop at d)

-- What a copy of as many bytes as fit leaves.
pub laid_paste : (d : List ℕ) (at : ℕ) (s : List ℕ) → at ≤ length d → laid d at s ≡ paste d at s (min (length s) (length d - at))
unfolding laid
laid_paste d at s h = go (dec_le (length s) (length d - at))
  where
    go : Dec (length s ≤ length d - at) → laid d at s ≡ paste d at s (min (length s) (length d - at))
    go (yes k) = rw (min-eq_left k, take_all (length d - at) s k, take-length, append_assoc)
    go (no k) =
        let room : at + (length d - at) ≡ length d = omega arith in
        let far : length d ≤ at + length s = omega arith in
        let short : length d - at ≤ length s = omega arith in
        rw (min-eq_right short, room, drop-length, drop_of_length-le d far, append-nil (take (length d - at) s), append-nil (take at d ++ take (length d - at) s))

-- ---- a number and its spelling

pub length_spelled : (n x : ℕ) → length (spelled n x) ≡ n
unfolding spelled
length_spelled zero x = refl
length_spelled (suc n) x = ap suc (length_spelled n (x / 256))

-- Spelled and read again, a number that fits is the same.
pub little_spelled : (n x : ℕ) → x < 256 ^ n → little (spelled n x) ≡ x
unfolding little spelled
little_spelled zero x h = omega arith
little_spelled (suc n) x h =
    let fits : x / 256 < 256 ^ n = (div-lt_iff_lt-mul (lit< tt)).1 (rw pow-suc at h) in
    rw (little_spelled n (x / 256) fits) (omega arith)

-- Read and spelled again, bytes are the same.
pub spelled_little : (bs : List ℕ) → Bytes bs → spelled (length bs) (little bs) ≡ bs
unfolding little spelled
spelled_little [] h = refl
spelled_little (b ∷ bs) h =
    let low : (b + 256 * little bs) % 256 ≡ b = omega (arith, h.0) in
    let high : (b + 256 * little bs) / 256 ≡ little bs = omega (arith, h.0) in
    rw (low, high, spelled_little bs h.1)

-- So many bytes spell no more of a number than its rest by 256 to their count.
pub spelled_rest : (n x : ℕ) → spelled n (x % 256 ^ n) ≡ spelled n x
unfolding spelled
spelled_rest zero x = refl
spelled_rest (suc n) x =
    let rest = rest_split (256 ^ n) x (pow_some n) in
    let low : x % 256 ^ suc n % 256 ≡ x % 256 = rw (pow-suc, rest) (omega arith) in
    let high : x % 256 ^ suc n / 256 ≡ x / 256 % 256 ^ n = rw (pow-suc, rest) (omega arith) in
    rw (low, high, spelled_rest n (x / 256))
  where
    pow_some : (n : ℕ) → 0 < 256 ^ n
    pow_some zero = omega arith
    pow_some (suc n) = rw pow-suc (omega (arith, pow_some n))

    rest_split : (p x : ℕ) → 0 < p → x % (p * 256) ≡ 256 * (x / 256 % p) + x % 256
    rest_split p x h =
        let high : ℕ = x / 256 in
        let times : p * 256 * (high / p) ≡ p * (high / p) * 256 = mul_right_comm p 256 (high / p) in
        let split : x ≡ p * 256 * (high / p) + (256 * (high % p) + x % 256) = omega (arith, times, div-add-mod high p) in
        let less : 256 * (high % p) + x % 256 < p * 256 = omega (arith, mod-lt high h) in
        ap (λ (y : ℕ). y % (p * 256)) split
        ∙ mul-add-mod_self_left (p * 256) (high / p) (256 * (high % p) + x % 256)
        ∙ mod-eq_of_lt less

-- ---- a buffer written from the front

pub over_nil : (out : List ℕ) → over [] out ≡ out
unfolding over
over_nil out = refl

pub length_over : (front out : List ℕ) → length front ≤ length out → length (over front out) ≡ length out
unfolding over
length_over front out h = simp (length-append, length-drop) (omega arith)

pub take_over : (front out : List ℕ) (n : ℕ) → length front ≡ n → take n (over front out) ≡ front
unfolding over
take_over front out n e = take_at front (drop (length front) out) n e

-- A front as long as the buffer is all of it.
pub over_all : (front out : List ℕ) → length out ≤ length front → over front out ≡ front
unfolding over
over_all front out h = rw (drop_of_length-le out h) (append-nil front)

-- A run laid at the next place is written behind the front.
pub over_laid : (front out s : List ℕ) (n : ℕ) → length front ≡ n → n + length s ≤ length out → laid (over front out) n s ≡ over (front ++ s) out
unfolding over laid
over_laid front out s n e h =
    let rest : List ℕ = drop (length front) out in
    let room : length s ≤ length (front ++ rest) - length front = simp (length-append, length-drop) (omega arith) in
    rw (
      ← e,
      take_at front rest (length front) refl,
      take_all (length (front ++ rest) - length front) s room,
      drop-append-add front rest (length s),
      drop-drop (length s) (length front) out,
      length-append front s,
      append_assoc front s (drop (length front + length s) out),
    )

-- A byte stored at the next place is written behind the front.
pub over_put : (front out : List ℕ) (n b : ℕ) → length front ≡ n → n < length out → set (over front out) n b ≡ over (front ++ (b ∷ [])) out
unfolding over
over_put front out n b e h =
    let in_out : length front < length out = omega arith in
    let seam : drop (length front) out ≡ get_or out (length front) 0 ∷ drop (suc (length front)) out = drop-cons out (length front) 0 in_out in
    let size : length (front ++ (b ∷ [])) ≡ suc (length front) = length-append front (b ∷ []) ∙ add-one (length front) in
    rw (← e, seam, size, set-append_seam, append_snoc)

-- A run stored byte by byte from the next place on is written behind the front.
pub over_sets : (front out s : List ℕ) (n : ℕ) → length front ≡ n → n + length s ≤ length out → sets (over front out) n s ≡ over (front ++ s) out
over_sets front out [] n e h = ap (λ (l : List ℕ). over l out) (sym (append-nil front))
over_sets front out (b ∷ s) n e h =
    let size : length (front ++ (b ∷ [])) ≡ suc n = length-append front (b ∷ []) ∙ omega arith in
    rw (over_put front out n b e (omega arith)) (over_sets (front ++ (b ∷ [])) out s (suc n) size (omega arith))
    ∙ ap (λ (l : List ℕ). over l out) (append_assoc front (b ∷ []) s)

-- What is written over a shorter front covers it.
pub over_over : (short front out : List ℕ) → length short ≤ length front → over front (over short out) ≡ over front out
unfolding over
over_over short front out h =
    let more : length short + (length front - length short) ≡ length front = omega arith in
    ap (λ (l : List ℕ). front ++ l)
    (rw (← more) (drop-append-add short (drop (length short) out) (length front - length short) ∙ drop-drop (length front - length short) (length short) out))

-- ---- texts

-- A byte that is not zero is one more of the text.
pub text_more : (s : List ℕ) (i : ℕ) → i < length s → (get_or s i 0 ≡ 0 → ⊥) → text_length (drop i s) ≡ suc (text_length (drop (i + 1) s))
unfolding text_length
text_more s i h n = rw (add-one, drop-cons s i 0 h, ne_eqb (get_or s i 0) 0 n)

-- The text ends at a zero, and at the end.
pub text_zero : (s : List ℕ) (i : ℕ) → i < length s → get_or s i 0 ≡ 0 → text_length (drop i s) ≡ 0
unfolding text_length
text_zero s i h z = rw (drop-cons s i 0 h, z)

pub text_end : (s : List ℕ) (i : ℕ) → length s ≤ i → text_length (drop i s) ≡ 0
unfolding text_length
text_end s i h = rw (drop_of_length-le s h)

-- A text is not longer than its bytes.
pub text_within : (s : List ℕ) → text_length s ≤ length s
unfolding text_length
text_within [] = omega arith
text_within (b ∷ s) = either_way (λ (n : ℕ). n ≤ suc (length s)) (eqb b 0) (λ e. omega arith) (λ e. omega (arith, text_within s))

-- ---- words

-- The first word of a run, and the rest of it.
words_front : (a : ℕ) (s : List ℕ) → 4 ≤ length s → xor_words_from a s ≡ xor_words_from (bit_xor a (little (take 4 s))) (drop 4 s)
unfolding xor_words_from
words_front a [] h = absurd (omega arith)
words_front a (b ∷ []) h = absurd (omega arith)
words_front a (b ∷ c ∷ []) h = absurd (omega arith)
words_front a (b ∷ c ∷ d ∷ []) h = absurd (omega arith)
words_front a (b ∷ c ∷ d ∷ e ∷ s) h = refl

-- One word more, as a loop takes it.
pub words_more : (a : ℕ) (s : List ℕ) (i : ℕ) → i < length s / 4
    → xor_words_from a (drop (i * 4) s) ≡ xor_words_from (bit_xor a (number_at 4 s (i * 4))) (drop ((i + 1) * 4) s)
unfolding number_at
words_more a s i h =
    let next : i * 4 + 4 ≡ (i + 1) * 4 = omega arith in
    words_front a (drop (i * 4) s) (rw length-drop (omega arith))
    ∙ ap (xor_words_from (bit_xor a (little (take 4 (drop (i * 4) s))))) (drop-drop 4 (i * 4) s ∙ ap (λ (n : ℕ). drop n s) next)

-- Where no word is left, the xor is what it was.
pub words_end : (a : ℕ) (s : List ℕ) (i : ℕ) → length s / 4 ≤ i → xor_words_from a (drop (i * 4) s) ≡ a
unfolding xor_words_from
words_end a s i h = few (drop (i * 4) s) (rw length-drop (omega arith))
  where
    few : (l : List ℕ) → length l < 4 → xor_words_from a l ≡ a
    few [] h = refl
    few (b ∷ []) h = refl
    few (b ∷ c ∷ []) h = refl
    few (b ∷ c ∷ d ∷ []) h = refl
    few (b ∷ c ∷ d ∷ e ∷ l) h = absurd (omega arith)

-- ---- runs laid one behind the other

-- A buffer's own front, written over it, changes nothing.
over_take : (n : ℕ) (out : List ℕ) → n ≤ length out → over (take n out) out ≡ out
unfolding over
over_take n out h = rw (length-take-le n out h) (take-append-drop n out)

-- A run that fits, laid anywhere, is a front written over the buffer.
laid_over : (d : List ℕ) (at : ℕ) (s : List ℕ) → at + length s ≤ length d → laid d at s ≡ over (take at d ++ s) d
laid_over d at s h =
    ap (λ (l : List ℕ). laid l at s) (sym (over_take at d (omega arith)))
    ∙ over_laid (take at d) d s at (length-take-le at d (omega arith)) h

-- A front and a run behind it are as long as both together.
front_size : (d : List ℕ) (at : ℕ) (s : List ℕ) → at ≤ length d → length (take at d ++ s) ≡ at + length s
front_size d at s h = length-append (take at d) s ∙ rw (length-take-le at d h)

-- A run laid behind another is both laid as one.
pub laid_next : (d : List ℕ) (at : ℕ) (s t : List ℕ) → at + length s + length t ≤ length d
    → laid (laid d at s) (at + length s) t ≡ laid d at (s ++ t)
laid_next d at s t h =
    rw (laid_over d at s (omega arith), over_laid (take at d ++ s) d t (at + length s) (front_size d at s (omega arith)) h, append_assoc)
    (sym (laid_over d at (s ++ t) (rw length-append (omega arith))))

-- ---- what a run that fits leaves of the buffer

-- Its length.
pub laid_length : (d : List ℕ) (at : ℕ) (s : List ℕ) → at + length s ≤ length d → length (laid d at s) ≡ length d
laid_length d at s h =
    ap length (laid_over d at s h)
    ∙ length_over (take at d ++ s) d (rw (front_size d at s (omega arith)) h)

-- Each byte before the run, and each byte behind it.
pub laid_before : (d : List ℕ) (at : ℕ) (s : List ℕ) (i : ℕ) → at ≤ length d → i < at → get_or (laid d at s) i 0 ≡ get_or d i 0
unfolding laid
laid_before d at s i h less =
    get_or-append (take at d) _ 0 i (rw (length-take-le at d h) less) ∙ get_or-take at d i 0 less

pub laid_behind : (d : List ℕ) (at : ℕ) (s : List ℕ) (i : ℕ) → at + length s ≤ length d → at + length s ≤ i
    → get_or (laid d at s) i 0 ≡ get_or d i 0
unfolding over
laid_behind d at s i h far =
    let front : List ℕ = take at d ++ s in
    let n = length front in
    let size : n ≡ at + length s = front_size d at s (omega arith) in
    let there : n + (i - n) ≡ i = omega (arith, size) in
    ap (λ (l : List ℕ). get_or l i 0) (laid_over d at s h)
    ∙ ap (λ (j : ℕ). get_or (front ++ drop n d) j 0) (sym there)
    ∙ get_or-append-add front (drop n d) (i - n) 0
    ∙ get_or-drop n d (i - n) 0
    ∙ ap (λ (j : ℕ). get_or d j 0) there
