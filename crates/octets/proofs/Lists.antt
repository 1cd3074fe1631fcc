-- Facts about lists and bytes that several crates use.
use Rattle.std.specs.Prelude.{ℕ, zero, suc, ◌+◌, ◌-◌, ◌/◌, ◌≤◌, ◌<◌, min, ◌≡◌, length, get_or, take, drop, replicate}
use mathlib.Core.List.Memᴰ
use mathlib.Core.List.{List, [], ◌∷◌, ◌++◌, map, Memᴰ}
use Rattle.std.proofs.Common.{⊎_elim, sym, arith, length-drop, take_all, take-take, length-take-le}
use Rattle.std.proofs.Math.Decide.{dec_le}
use Rattle.std.proofs.Math.Nat.{min-eq_left, min-eq_right}
use Rattle.std.proofs.Math.Seq.{take-nil, take-length}
use Rattle.octets.specs.Octets.{Bytes, spelled, Front}

-- A part that lies in the first k elements is a part of those.
pub part_take : {A : Type 0} (m n k : ℕ) (l : List A) → n + m ≤ k → take m (drop n (take k l)) ≡ take m (drop n l)
part_take m zero k l h = take-take m k l (omega arith)
part_take m (suc n) k [] h = rw (take-nil k)
part_take m (suc n) zero (x ∷ l) h = absurd (omega arith)
part_take m (suc n) (suc k) (x ∷ l) h = part_take m n k l (omega arith)

-- Two functions that are the same over a list are the same at each of its elements.
pub same_each : {A B : Type 0} (f g : A → B) (l : List A) → map f l ≡ map g l → (a : A) → Memᴰ a l → f a ≡ g a
same_each f g [] e a m = absurd (Memᴰ.not-nil m)
same_each f g (x ∷ l) e a (Memᴰ.head p) = cc
same_each f g (x ∷ l) e a (Memᴰ.tail m) = same_each f g l (cc) a m

-- What holds of each element of a list and of one more holds of each of the list with that one behind it.
pub each_more : {A : Type 0} (P : A → Type 0) (l : List A) (a : A) → ((x : A) → Memᴰ x l → P x) → P a
    → (x : A) → Memᴰ x (l ++ (a ∷ [])) → P x
each_more P l a h p x m =
    ⊎_elim (h x) (λ (n : Memᴰ x (a ∷ [])). rw (Memᴰ.eq_of_singleton n) p) (Memᴰ.append_cases l m)

-- The front of a list of bytes, what is left of one, one with a byte or bytes behind it, one byte many times and a number's
-- spelling are bytes; each place holds a byte.
pub bytes_take : (n : ℕ) (bs : List ℕ) → Bytes bs → Bytes (take n bs)
bytes_take zero bs h = tt
bytes_take (suc n) [] h = tt
bytes_take (suc n) (b ∷ bs) h = (h.0, bytes_take n bs h.1)

pub bytes_drop : (n : ℕ) (bs : List ℕ) → Bytes bs → Bytes (drop n bs)
bytes_drop zero bs h = h
bytes_drop (suc n) [] h = tt
bytes_drop (suc n) (b ∷ bs) h = bytes_drop n bs h.1

pub bytes_snoc : (bs : List ℕ) (b : ℕ) → Bytes bs → b < 256 → Bytes (bs ++ (b ∷ []))
bytes_snoc [] b h l = (l, tt)
bytes_snoc (x ∷ bs) b h l = (h.0, bytes_snoc bs b h.1 l)

pub bytes_append : (bs cs : List ℕ) → Bytes bs → Bytes cs → Bytes (bs ++ cs)
bytes_append [] cs h k = k
bytes_append (b ∷ bs) cs h k = (h.0, bytes_append bs cs h.1 k)

pub bytes_replicate : (n b : ℕ) → b < 256 → Bytes (replicate n b)
bytes_replicate zero b l = tt
bytes_replicate (suc n) b l = (l, bytes_replicate n b l)

pub bytes_spelled : (n x : ℕ) → Bytes (spelled n x)
unfolding spelled
bytes_spelled zero x = tt
bytes_spelled (suc n) x = (omega arith, bytes_spelled n (x / 256))

pub byte_at : (bs : List ℕ) (i : ℕ) → Bytes bs → get_or bs i 0 < 256
byte_at [] i h = omega arith
byte_at (b ∷ bs) zero h = h.0
byte_at (b ∷ bs) (suc i) h = byte_at bs i h.1

-- All of a list from a place on, as a part of it is said.
pub rest_part : {A : Type 0} (l : List A) (n : ℕ) → take (length l - n) (drop n l) ≡ drop n l
rest_part l n = take_all (length l - n) (drop n l) (rw length-drop (omega arith))

-- Bytes at the front of a buffer.
pub front_of : (n : ℕ) (out : List ℕ) → n ≤ length out → Front n out
front_of n out h = (h, sym (length-take-le n out h))

-- The first k elements, or all where there are fewer.
pub take_least : {A : Type 0} (k : ℕ) (l : List A) → take (min (length l) k) l ≡ take k l
take_least k l = go (dec_le (length l) k)
  where
    go : Dec (length l ≤ k) → take (min (length l) k) l ≡ take k l
    go (yes h) = rw (min-eq_left h, take-length, take_all k l h)
    go (no h) = let less : k ≤ length l = omega arith in rw (min-eq_right less)
