-- The smallest block, of an image of four bytes: what wrong writers, readers and walks are tried on.
use Rattle.std.specs.Prelude.{ℕ, Bool, true, ◌&&◌, List, [], ◌∷◌, ◌≡◌, refl, ltb, replicate}
use Rattle.std.proofs.Common.{arith, ltb-true}
use Rattle.octets.proofs.Choice.{both}
use Rattle.octets.specs.Octets.{Bytes, text_length, zero_filled, all_zero}
use Rattle.kinds.specs.Kinds.{fits_file}
use Rattle.kinds.specs.declared.Kind.TheVariants.{Upgrade}
use Rattle.ubf_model.specs.Answers.{Told}
use Rattle.ubf_model.specs.Block.{header_size, text_fits, texts_fit}
use Rattle.ubf_model.specs.Pack.{Fields}
use Rattle.ubf_promises.specs.Promises.{Packable}

-- Upgrade code, no text but the model's.
abbrev pub block_with : ℕ → List ℕ → Fields
block_with start model = record {
  number = 2;
  address = 0;
  start = start;
  model = model;
  version = [];
  name = [];
  date = [];
  image = 1 ∷ 2 ∷ 3 ∷ 4 ∷ [];
}

-- The image right behind the header: 216 bytes.
abbrev pub tiny : Fields
tiny = block_with header_size []

abbrev pub tiny_size : ℕ
tiny_size = 216

-- The image four bytes behind the header.
abbrev pub apart : Fields
apart = block_with 212 []

-- A text with a byte behind a zero.
abbrev pub broken : Fields
broken = block_with header_size (0 ∷ 1 ∷ [])

pub tiny_packable : Packable Upgrade tiny
unfolding fits_file texts_fit text_fits zero_filled text_length all_zero
tiny_packable = record {
  numbered = refl;
  based = refl;
  sized = refl;
  behind_header = omega arith;
  spelled_start = omega arith;
  texts = refl;
  image_bytes = (omega arith, (omega arith, (omega arith, (omega arith, tt))));
}

-- The number of what is told.
abbrev pub told_number : Told → ℕ
told_number t = t.number

-- Numbers that are tested one by one are bytes.
abbrev pub all_bytes : List ℕ → Bool
all_bytes [] = true
all_bytes (b ∷ bs) = ltb b 256 && all_bytes bs

pub bytes_of_law : (s : List ℕ) → all_bytes s ≡ true → Bytes s
bytes_of_law [] h = tt
bytes_of_law (b ∷ s) h = let each = both (ltb b 256) (all_bytes s) h in (ltb-true b 256 each.0, bytes_of_law s each.1)

-- An output with room for it, of sevens.
abbrev pub lent : List ℕ
lent = replicate 220 7
