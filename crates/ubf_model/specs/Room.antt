-- What laying a header asks.
use Rattle.std.specs.Prelude.{ℕ, ◌≤◌, true, List, ◌≡◌, length}
use Rattle.kinds.specs.Kinds.{longest_image}
use Rattle.ubf_model.specs.Block.{header_size}
use Rattle.ubf_model.specs.Pack.{Fields, texts_in}

-- What laying a header asks: texts that fit, a length that four bytes spell, and room.
pub record HeaderRoom (f : Fields) (output : List ℕ) : Type 0 where
  pub texts : texts_in f ≡ true
  pub spelled_length : length f.image ≤ longest_image
  pub room : header_size ≤ length output
