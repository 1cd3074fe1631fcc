-- The three types of image as document 01 has them. Their names are those of document 001's table of types.
use Rattle.std.specs.Prelude.{ℕ, ◌+◌, ◌%◌, Bool, cond, ◌&&◌, ◌≡◌, eqb, leb, None, Option, Some, Result, MatchResult}
use Rattle.kinds.specs.declared.Kind.{Kind}
use Rattle.kinds.specs.declared.UnknownType.{UnknownType}
use Rattle.kinds.specs.declared.Kind.TheVariants.{Navigation, Upgrade, Parameters}

-- Type 1 is navigation code, type 2 the upgrade code itself, type 3 the working parameters.
abbrev pub number_of : Kind → ℕ
number_of Navigation = 1
number_of Upgrade = 2
number_of Parameters = 3

unfoldable pub kind_of : ℕ → Option Kind
kind_of n = cond (eqb n 1) (Some Navigation) (cond (eqb n 2) (Some Upgrade) (cond (eqb n 3) (Some Parameters) None))

-- The kind of a type number, or the number, if no kind has it.
abbrev pub Typed : ℕ → Result Kind UnknownType → Type 0
Typed n r = MatchResult r (λ kind. kind_of n ≡ Some kind) (λ e. (e.0 ≡ n) × (kind_of n ≡ None))

-- Type and address pair as 1: 0x8000, 2: 0x0000, 3: 0x3E000.
abbrev pub base_of : Kind → ℕ
base_of Navigation = 0x8000
base_of Upgrade = 0x0000
base_of Parameters = 0x3E000

-- In the parameter command the address is 0x3E000 for type 3 and 0 for the others.
abbrev pub token_of : Kind → ℕ
token_of Navigation = 0
token_of Upgrade = 0
token_of Parameters = 0x3E000

-- The longest image.
abbrev pub longest_image : ℕ
longest_image = 262143

-- A file carries images of 1 to 262,143 bytes, a multiple of 4.
unfoldable pub fits_file : Kind → ℕ → Bool
fits_file k n = leb 1 n && (leb n longest_image && eqb (n % 4) 0)

-- A flash takes images of 1 to 262,143 bytes that end within it.
unfoldable pub fits_flash : Kind → ℕ → ℕ → Bool
fits_flash k n flash = leb 1 n && (leb n longest_image && leb (base_of k + n) flash)
