-- The laws of Kinds.
use Rattle.std.specs.Prelude.{ℕ, ◌+◌, ◌^◌, ◌≤◌, ◌<◌, true, ◌≡◌, refl, eqb, leb, None, Option, Some}
use Rattle.std.proofs.Common.{ap, ◌∙◌, arith, leb-true, le-leb, eqb-true}
use Rattle.octets.proofs.Choice.{both, either_way}
use Rattle.kinds.specs.Kinds.{kind_of, number_of, base_of, fits_file, fits_flash, longest_image}
use Rattle.kinds.specs.declared.Kind.{Kind}
use Rattle.kinds.specs.declared.Kind.TheVariants.{Navigation, Upgrade, Parameters}

-- The number of a known kind; no kind has 0.
abbrev known_number : Option Kind → ℕ
known_number (Some k) = number_of k
known_number None = 0

unknown : (k : Kind) → 0 ≡ number_of k → ⊥
unknown Navigation e = omega (arith, e)
unknown Upgrade e = omega (arith, e)
unknown Parameters e = omega (arith, e)

-- The number of a kind is read as the kind.
pub kind_of_number : (k : Kind) → kind_of (number_of k) ≡ Some k
unfolding kind_of
kind_of_number Navigation = refl
kind_of_number Upgrade = refl
kind_of_number Parameters = refl

-- A number that is read as a kind is the number of that kind.
pub number_of_kind : (n : ℕ) (k : Kind) → kind_of n ≡ Some k → n ≡ number_of k
unfolding kind_of
number_of_kind n k =
    either_way Numbers (eqb n 1) (λ e h. eqb-true n 1 e ∙ ap known_number h)
    (λ _. either_way Numbers (eqb n 2) (λ e h. eqb-true n 2 e ∙ ap known_number h)
    (λ _. either_way Numbers (eqb n 3) (λ e h. eqb-true n 3 e ∙ ap known_number h) (λ _ h. absurd (unknown k (ap known_number h)))))
  where
    Numbers : Option Kind → Type 0
    Numbers known = known ≡ Some k → n ≡ number_of k

-- The number of a kind fits two bytes, its address four.
pub kind_spelled : (k : Kind) → (number_of k < 256 ^ 2) × (base_of k < 256 ^ 4)
kind_spelled Navigation = omega arith
kind_spelled Upgrade = omega arith
kind_spelled Parameters = omega arith

-- An image that fits a file has no more than the longest image's bytes.
pub image_short : (k : Kind) (n : ℕ) → fits_file k n ≡ true → n ≤ longest_image
unfolding fits_file
image_short k n h = leb-true n longest_image (both (leb n longest_image) _ (both (leb 1 n) _ h).1).0

-- It has a byte.
pub file_some : (k : Kind) (n : ℕ) → fits_file k n ≡ true → 1 ≤ n
unfolding fits_file
file_some k n h = leb-true 1 n (both (leb 1 n) _ h).0

-- No kind's address lies behind 0x3E000.
pub base_short : (k : Kind) → base_of k ≤ 0x3E000
base_short Navigation = omega arith
base_short Upgrade = omega arith
base_short Parameters = omega arith

-- An image fits a flash: it is not empty, not too long, and ends within the flash.
pub record FitsFlash (k : Kind) (n flash : ℕ) : Type 0 where
  pub some : 1 ≤ n
  pub short : n ≤ longest_image
  pub inside : base_of k + n ≤ flash

-- The test says just these three facts.
pub fits_flash_law : (k : Kind) (n flash : ℕ) → fits_flash k n flash ≡ true → FitsFlash k n flash
unfolding fits_flash
fits_flash_law k n flash h =
    let first = both (leb 1 n) _ h in
    let rest = both (leb n longest_image) _ first.1 in
    record { some = leb-true 1 n first.0; short = leb-true n longest_image rest.0; inside = leb-true (base_of k + n) flash rest.1 }

pub flash_fits : (k : Kind) (n flash : ℕ) → FitsFlash k n flash → fits_flash k n flash ≡ true
unfolding fits_flash
flash_fits k n flash f = rw (le-leb 1 n f.some, le-leb n longest_image f.short, le-leb (base_of k + n) flash f.inside)
