-- Writing one block.
use Rattle.refusals.specs.declared.Refusal.{Refusal}
use Rattle.kinds.specs.declared.Kind.{Kind}
use Rattle.std.specs.Prelude.{ℕ, ◌+◌, ◌-◌, Bool, false, cond, List, [], ◌∷◌, ◌++◌, eqb, leb, length, replicate, None, Option, Some}
use Rattle.octets.specs.Octets.{spelled, xor_words, Pieces, end_to_end}
use Rattle.kinds.specs.Kinds.{kind_of, base_of, fits_file}
use Rattle.refusals.specs.Refusals.{no_room, wrong_type, wrong_start, wrong_image_length, not_zero_filled}
use Rattle.refusals.specs.Written.{Out, refused, written}
use Rattle.ubf_model.specs.Block.{header_size, mark, texts_fit}
use Rattle.ubf_model.specs.Block.{model_size, version_size, name_size, date_size}
use Rattle.ubf_model.specs.declared.pack.Numbers.{Numbers}

-- What a block is made of: type, address and start of the image, the texts, the image.
pub record Fields : Type 0 where
  pub number : ℕ
  pub address : ℕ
  pub start : ℕ
  pub model : List ℕ
  pub version : List ℕ
  pub name : List ℕ
  pub date : List ℕ
  pub image : List ℕ

-- The fields that a call is given.
abbrev pub gathered : Numbers → List ℕ → List ℕ → List ℕ → List ℕ → List ℕ → Fields
gathered numbers model version name date image = record {
  number = numbers.number;
  address = numbers.address;
  start = numbers.start;
  model = model;
  version = version;
  name = name;
  date = date;
  image = image;
}

-- A text in its field, the rest of it zeros.
unfoldable pub filled : ℕ → List ℕ → List ℕ
filled n text = text ++ replicate (n - length text) 0

-- The header: its fields with their sizes, from the block's front on; so each stands at its offset.
abbrev pub header_pieces : Fields → Pieces
header_pieces f =
    (2, mark)
    ∷ (4, spelled 4 (length f.image))
    ∷ (4, spelled 4 f.address)
    ∷ (4, spelled 4 f.start)
    ∷ (2, spelled 2 f.number)
    ∷ (model_size, filled model_size f.model)
    ∷ (version_size, filled version_size f.version)
    ∷ (name_size, filled name_size f.name)
    ∷ (date_size, filled date_size f.date)
    ∷ []

-- Behind it zeros up to the start, the image, its check.
abbrev pub body_pieces : Fields → Pieces
body_pieces f =
    (f.start - header_size, replicate (f.start - header_size) 0)
    ∷ (length f.image, f.image)
    ∷ (4, spelled 4 (xor_words f.image))
    ∷ []

-- The block: all these end to end.
abbrev pub pieces_of : Fields → Pieces
pieces_of f = header_pieces f ++ body_pieces f

unfoldable pub block_bytes : Fields → List ℕ
block_bytes f = end_to_end (pieces_of f)

-- How many bytes the block takes.
abbrev pub bytes_of : Fields → ℕ
bytes_of f = f.start + length f.image + 4

-- The texts of some fields.
abbrev pub texts_in : Fields → Bool
texts_in f = texts_fit f.model f.version f.name f.date

-- A known type has its own address, and may have an image that fits.
abbrev pub pairs : Option Kind → ℕ → Bool
pairs (Some k) address = eqb address (base_of k)
pairs None address = false

abbrev pub fits : Option Kind → ℕ → Bool
fits (Some k) n = fits_file k n
fits None n = false

abbrev pub unless_out : Bool → Refusal → List ℕ → Out → Out
unless_out t refusal output rest = cond t rest (refused refusal output)

-- The reader's tests in its order, 6, 8, 7, 9, then the room, 2. Every refusal leaves the output as lent.
unfoldable pub pack_of : Fields → List ℕ → Out
pack_of f output =
    unless_out (pairs (kind_of f.number) f.address) wrong_type output
    (unless_out (fits (kind_of f.number) (length f.image)) wrong_image_length output
    (unless_out (leb header_size f.start) wrong_start output
    (unless_out (texts_in f) not_zero_filled output
    (unless_out (leb (bytes_of f) (length output)) no_room output
    (written (block_bytes f) output)))))
