-- The laws of Pieces.
use Rattle.std.specs.Prelude.{ℕ, zero, suc, ◌+◌, ◌*◌, ◌-◌, ◌/◌, ◌≤◌, ◌<◌, List, [], ◌++◌, ◌≡◌, refl, length, take, drop}
use Rattle.std.proofs.Common.{sym, ap, mod-eq_of_lt, ◌∙◌, div-mul-le_self, div-le_self, mul-le-mul_right, suc-mul, div-lt_iff_lt-mul, le-div_iff_mul-le, add-one, arith, eq-eqb, ne_eqb, length-drop, drop_of_length-le, take_all, take-add}
use Rattle.std.proofs.Math.Nat.{add-div_right, div-eq_of_lt, div-eq_of_lt-le, lt-div-mul-add}
use Rattle.std.proofs.Math.Decide.{dec_lt, ℕ_discrete}
use Rattle.std.proofs.Math.Seq.{take-length, take-nil}
use Rattle.std.specs.Int.{div_ceil}
use Rattle.std.proofs.lemmas.Grind.{div_ceil_times}
use Rattle.octets.specs.Octets.{part_of}
use Rattle.octets.proofs.PartLaws.{length_part}
use Rattle.pieces.specs.Pieces.{count_of, offset_of, size_at, piece_of}

-- ---- how many pieces there are

-- No piece has the size 0, and an image of no bytes has no piece.
pub count_size_0 : (n : ℕ) → count_of n 0 ≡ 0
unfolding count_of
count_size_0 n = refl

pub count_none : (size : ℕ) → count_of 0 size ≡ 0
unfolding count_of
count_none zero = refl
count_none (suc s) = rw (ne_eqb (suc s) 0 (λ e. omega (arith, e))) (div-eq_of_lt {n = 0 + (suc s - 1)} {m = suc s} (omega arith))

-- The pieces of an image are one more than the whole ones before its last byte.
pub count_step : (n size : ℕ) → 1 ≤ n → 1 ≤ size → count_of n size ≡ (n - 1) / size + 1
unfolding count_of
count_step n size h k =
    let same : n + (size - 1) ≡ n - 1 + size = omega arith in
    rw (ne_eqb size 0 (λ e. omega (arith, e)), same) (add-div_right (n - 1) k)

-- One piece more holds the size more, one less the size less.
pub product_more : (k size : ℕ) → (k + 1) * size ≡ k * size + size
product_more k size = rw (add-one k) (suc-mul k size)

pub product_step : (k size : ℕ) → 1 ≤ k → k * size ≡ (k - 1) * size + size
product_step k size h = let same : k - 1 + 1 ≡ k = omega arith in rw same at (product_more (k - 1) size)

-- The pieces before the last do not hold the image, all of them do.
pub record Counted (n size total : ℕ) : Type 0 where
  pub under : (total - 1) * size < n
  pub over : n ≤ total * size

pub counted : (n size : ℕ) → 1 ≤ n → 1 ≤ size → Counted n size (count_of n size)
counted n size h k =
    let q = (n - 1) / size in
    let whole : q + 1 - 1 ≡ q = omega arith in
    rw (count_step n size h k)
    (record {
      under = rw whole (omega (arith, div-mul-le_self (n - 1) size));
      over = rw (product_more q size) (omega (arith, lt-div-mul-add {a = n - 1} {b = size} k));
    })

-- No other number of pieces does.
pub count_only : (n size total : ℕ) → 1 ≤ n → 1 ≤ size → Counted n size total → count_of n size ≡ total
count_only n size zero h k c = absurd (omega (arith, c.over))
count_only n size (suc t) h k c =
    let one_less : suc t - 1 ≡ t = omega arith in
    let under : t * size < n = rw one_less at c.under in
    let over : n ≤ (t + 1) * size = rw (add-one t) c.over in
    let whole : (n - 1) / size ≡ t = div-eq_of_lt-le {k = t} size {m = n - 1} (omega (arith, under)) (omega (arith, over)) in
    rw (count_step n size h k, whole) (add-one t)

-- They are the length divided by the size and rounded up.
pub count_ceil : (n size : ℕ) → 1 ≤ size → div_ceil n size ≡ count_of n size
count_ceil zero size k = rw (count_none size, div-eq_of_lt {n = 0} {m = size} k, mod-eq_of_lt {n = 0} {m = size} k)
count_ceil (suc m) size k =
    let total : ℕ = div_ceil (suc m) size in
    let bounds = div_ceil_times (suc m) size k in
    sym
    (count_only (suc m) size total (omega arith) k
    (record { under = omega (arith, product_step total size (some total bounds.0), bounds.1); over = bounds.0 }))
  where
    some : (total : ℕ) → suc m ≤ total * size → 1 ≤ total
    some zero h = absurd (omega (arith, h))
    some (suc t) h = omega arith

-- An image has a piece, and one of its own length has one.
pub count_some : (n size : ℕ) → 1 ≤ n → 1 ≤ size → 1 ≤ count_of n size
count_some n size h k = rw (count_step n size h k) (omega arith)

pub count_whole : (n : ℕ) → 1 ≤ n → count_of n n ≡ 1
count_whole n h = count_only n n 1 h h (record { under = omega arith; over = omega arith })

-- Where one piece is counted, it holds the image.
pub count_one : (n size : ℕ) → 1 ≤ n → 1 ≤ size → count_of n size ≡ 1 → n ≤ size
count_one n size h k e = let c = rw e at (counted n size h k) in omega (arith, c.over)

-- Where more than one piece is counted, the size is less than the length.
pub count_many : (n size : ℕ) → 1 ≤ size → 2 ≤ count_of n size → size < n
count_many zero size k h = absurd (let none = rw (count_none size) at h in omega (arith, none))
count_many (suc m) size k h =
    let least : 1 * size ≤ (count_of (suc m) size - 1) * size = mul-le-mul_right size (omega arith) in
    omega (arith, least, (counted (suc m) size (omega arith) k).under)

-- There are no more pieces than bytes.
pub count_most : (n size : ℕ) → count_of n size ≤ n
count_most zero size = rw (count_none size) (omega arith)
count_most (suc m) zero = rw (count_size_0 (suc m)) (omega arith)
count_most (suc m) (suc s) =
    rw (count_step (suc m) (suc s) (omega arith) (omega arith)) (omega (arith, div-le_self (suc m - 1) (suc s)))

-- The last piece begins within the image, or at its end where there is none.
pub last_offset : (n size : ℕ) → offset_of size (count_of n size) ≤ n
last_offset zero size = rw (count_none size) (omega arith)
last_offset (suc m) zero = rw (count_size_0 (suc m)) (omega arith)
last_offset (suc m) (suc s) = omega (arith, (counted (suc m) (suc s) (omega arith) (omega arith)).under)

-- ---- how long each piece is

-- The last piece has the rest, each before it the size.
pub size_last : (n size : ℕ) → size_at n size (count_of n size) ≡ n - offset_of size (count_of n size)
unfolding size_at
size_last n size = rw (eq-eqb (count_of n size) (count_of n size) refl)

pub size_before : (n size number : ℕ) → number < count_of n size → size_at n size number ≡ size
unfolding size_at
size_before n size number h = rw (ne_eqb number (count_of n size) (λ e. omega (arith, e)))

-- The first piece has the size, where the size is not over the length.
pub size_first : (n size : ℕ) → 1 ≤ size → size ≤ n → size_at n size 1 ≡ size
size_first n size some most = go (ℕ_discrete 1 (count_of n size))
  where
    go : Dec (1 ≡ count_of n size) → size_at n size 1 ≡ size
    go (yes one) =
        let last : size_at n size 1 ≡ n - offset_of size 1 = rw (← one) at (size_last n size) in
        omega (arith, count_one n size (omega arith) some (sym one), last)
    go (no more) = size_before n size 1 (omega (arith, count_some n size (omega arith) some, more))

-- A piece is not empty and not longer than the size; it ends within the image, and the last one with it.
pub record Within (n size number : ℕ) : Type 0 where
  pub some : 1 ≤ size_at n size number
  pub most : size_at n size number ≤ size
  pub inside : offset_of size number + size_at n size number ≤ n

pub within : (n size number : ℕ) → 1 ≤ n → 1 ≤ size → 1 ≤ number → number ≤ count_of n size → Within n size number
within n size number h k one most = go (dec_lt number (count_of n size))
  where
    all : Counted n size (count_of n size)
    all = counted n size h k

    last : Within n size (count_of n size)
    last =
        let step = product_step (count_of n size) size (count_some n size h k) in
        record {
          some = rw (size_last n size) (omega (arith, all.under));
          most = rw (size_last n size) (omega (arith, all.over, step));
          inside = rw (size_last n size) (omega (arith, all.under));
        }

    go : Dec (number < count_of n size) → Within n size number
    go (yes less) =
        let held : number * size ≤ (count_of n size - 1) * size = mul-le-mul_right size (omega arith) in
        record {
          some = rw (size_before n size number less) k;
          most = rw (size_before n size number less) (omega arith);
          inside = rw (size_before n size number less) (omega (arith, all.under, held, product_step number size one));
        }
    go (no not_less) = let here : number ≡ count_of n size = omega arith in rw here last

pub ends_with : (n size : ℕ) → 1 ≤ n → 1 ≤ size → offset_of size (count_of n size) + size_at n size (count_of n size) ≡ n
ends_with n size h k = rw (size_last n size) (omega (arith, (counted n size h k).under))

-- Behind a piece that is not the last the next one begins.
pub next_offset : (n size number : ℕ) → 1 ≤ number → number < count_of n size
    → offset_of size number + size_at n size number ≡ offset_of size (number + 1)
next_offset n size number one h =
    let same : number + 1 - 1 ≡ number = omega arith in
    rw (size_before n size number h, same) (sym (product_step number size one))

-- ---- the pieces of an image

-- A piece is the part of its length.
pub piece_part : (image : List ℕ) (size number : ℕ) → 1 ≤ length image → 1 ≤ size → 1 ≤ number → number ≤ count_of (length image) size
    → part_of image (offset_of size number) (size_at (length image) size number) ≡ piece_of image size number
unfolding part_of
piece_part image size number h k one most = go (dec_lt number (count_of (length image) size))
  where
    rest : List ℕ
    rest = drop (offset_of size (count_of (length image) size)) image

    last : take (size_at (length image) size (count_of (length image) size)) rest ≡ take size rest
    last =
        let n = length image in
        let total = count_of n size in
        let long : size_at n size total ≡ length rest = size_last n size ∙ sym (length-drop (offset_of size total) image) in
        let short : length rest ≤ size = rw (sym long) (within n size total h k (count_some n size h k) (omega arith)).most in
        rw long (take-length rest ∙ sym (take_all size rest short))

    go : Dec (number < count_of (length image) size)
        → part_of image (offset_of size number) (size_at (length image) size number) ≡ piece_of image size number
    go (yes less) = rw (size_before (length image) size number less)
    go (no not_less) = let here : number ≡ count_of (length image) size = omega arith in rw here last

-- A piece of an image is as long as its number says.
pub length_piece : (image : List ℕ) (size number : ℕ) → 1 ≤ length image → 1 ≤ size → 1 ≤ number → number ≤ count_of (length image) size
    → length (piece_of image size number) ≡ size_at (length image) size number
length_piece image size number h k one most =
    let n = length image in
    ap length (sym (piece_part image size number h k one most))
    ∙ length_part image (offset_of size number) (size_at n size number) (within n size number h k one most).inside

-- The pieces before one, and it behind them.
pub take_more : (image : List ℕ) (size number : ℕ) → 1 ≤ number
    → take (offset_of size number) image ++ piece_of image size number ≡ take (number * size) image
unfolding part_of
take_more image size number one = rw (product_step number size one) (sym (take-add (offset_of size number) size image))

-- All pieces are the image.
pub take_whole : (image : List ℕ) (size : ℕ) → 1 ≤ length image → 1 ≤ size → take (count_of (length image) size * size) image ≡ image
take_whole image size h k = take_all (count_of (length image) size * size) image (counted (length image) size h k).over

-- Behind the last piece nothing is left; up to it a piece begins within the image.
pub piece_behind : (image : List ℕ) (size number : ℕ) → 1 ≤ size → length image / size < number - 1 → piece_of image size number ≡ []
unfolding part_of
piece_behind image size number some h =
    let far : length image < (number - 1) * size = (div-lt_iff_lt-mul some).0 h in
    let end : length image ≤ (number - 1) * size = omega (arith, far) in
    rw (drop_of_length-le image end) (take-nil size)

pub piece_begins : (n size before : ℕ) → 1 ≤ size → before ≤ n / size → before * size ≤ n
piece_begins n size before some h = (le-div_iff_mul-le some).0 h
