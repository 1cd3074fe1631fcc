-- The laws of Hex.
use Rattle.std.specs.Prelude.{ℕ, ◌+◌, ◌*◌, ◌/◌, ◌%◌, ◌<◌, List, [], ◌∷◌, ◌++◌, ◌≡◌, refl, length, get_or, take, set}
use Rattle.std.proofs.Common.{ap, ◌∙◌, add-one, arith, take-suc, length-take-le}
use Rattle.octets.specs.Octets.{over}
use Rattle.octets.proofs.OctetsLaws.{over_sets}
use Rattle.hex_digits.specs.Hex.{digit_of, hex_of}

pub length_hex : (bs : List ℕ) → length (hex_of bs) ≡ length bs * 2
unfolding hex_of
length_hex [] = refl
length_hex (b ∷ bs) = omega (arith, length_hex bs)

pub hex_snoc : (bs : List ℕ) (b : ℕ) → hex_of (bs ++ (b ∷ [])) ≡ hex_of bs ++ (digit_of (b / 16) ∷ digit_of (b % 16) ∷ [])
unfolding hex_of
hex_snoc [] b = refl
hex_snoc (x ∷ bs) b = ap (λ (l : List ℕ). digit_of (x / 16) ∷ digit_of (x % 16) ∷ l) (hex_snoc bs b)

-- The two stores of one byte more.
pub hex_more : (bytes out : List ℕ) (i : ℕ) → i < length bytes → i * 2 + 1 < length out
    → set (set (over (hex_of (take i bytes)) out) (i * 2) (digit_of (get_or bytes i 0 / 16))) (i * 2 + 1) (digit_of (get_or bytes i 0 % 16))
    ≡ over (hex_of (take (i + 1) bytes)) out
hex_more bytes out i h room =
    let b : ℕ = get_or bytes i 0 in
    let front : List ℕ = hex_of (take i bytes) in
    let size : length front ≡ i * 2 = length_hex (take i bytes) ∙ ap (λ (n : ℕ). n * 2) (length-take-le i bytes (omega arith)) in
    let more : hex_of (take (i + 1) bytes) ≡ front ++ (digit_of (b / 16) ∷ digit_of (b % 16) ∷ []) =
    ap hex_of (rw add-one (take-suc bytes i 0 h)) ∙ hex_snoc (take i bytes) b in
    rw (more, add-one) (over_sets front out (digit_of (b / 16) ∷ digit_of (b % 16) ∷ []) (i * 2) size (omega arith))
