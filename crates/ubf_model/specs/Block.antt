-- One block of a UBF file, at the front of some bytes: its fields, or one refusal number.
use Rattle.refusals.specs.declared.Refusal.{Refusal}
use Rattle.std.specs.Prelude.{ℕ, ◌+◌, ◌-◌, Bool, cond, ◌&&◌, List, [], ◌∷◌, eqb, leb, length, Err, None, Ok, Option, Result, Some}
use Rattle.octets.specs.Octets.{part_of, number_at, same_bytes, all_zero, zero_filled, xor_words}
use Rattle.kinds.specs.Kinds.{kind_of, base_of, fits_file}
use Rattle.kinds.specs.declared.Kind.{Kind}
use Rattle.refusals.specs.Refusals.{file_ends, wrong_mark, wrong_type, wrong_start, wrong_image_length, not_zero_filled, wrong_image_check}
use Rattle.ubf_model.specs.declared.block.Block.{Block}

-- The header, up to the first place where the image may start.
abbrev pub header_size : ℕ
header_size = 0xD0

-- Where the fields stand in it.
abbrev pub mark_place : ℕ
mark_place = 0x00

abbrev pub length_place : ℕ
length_place = 0x02

abbrev pub address_place : ℕ
address_place = 0x06

abbrev pub start_place : ℕ
start_place = 0x0A

abbrev pub type_place : ℕ
type_place = 0x0E

abbrev pub model_place : ℕ
model_place = 0x10

abbrev pub version_place : ℕ
version_place = 0x20

abbrev pub name_place : ℕ
name_place = 0x30

abbrev pub date_place : ℕ
date_place = 0xB0

-- How many bytes each text has.
abbrev pub model_size : ℕ
model_size = 16

abbrev pub version_size : ℕ
version_size = 16

abbrev pub name_size : ℕ
name_size = 128

abbrev pub date_size : ℕ
date_size = 32

-- The fields, at their places.
abbrev pub mark_in : List ℕ → List ℕ
mark_in s = part_of s mark_place 2

abbrev pub length_in : List ℕ → ℕ
length_in s = number_at 4 s length_place

abbrev pub address_in : List ℕ → ℕ
address_in s = number_at 4 s address_place

-- CS, the start of the image, counted from the block's own start.
abbrev pub start_in : List ℕ → ℕ
start_in s = number_at 4 s start_place

abbrev pub type_in : List ℕ → ℕ
type_in s = number_at 2 s type_place

abbrev pub model_in : List ℕ → List ℕ
model_in s = part_of s model_place model_size

abbrev pub version_in : List ℕ → List ℕ
version_in s = part_of s version_place version_size

abbrev pub name_in : List ℕ → List ℕ
name_in s = part_of s name_place name_size

abbrev pub date_in : List ℕ → List ℕ
date_in s = part_of s date_place date_size

abbrev pub gap_in : List ℕ → List ℕ
gap_in s = part_of s header_size (start_in s - header_size)

abbrev pub image_in : List ℕ → List ℕ
image_in s = part_of s (start_in s) (length_in s)

abbrev pub check_in : List ℕ → ℕ
check_in s = number_at 4 s (start_in s + length_in s)

-- The mark is "AT".
abbrev pub mark : List ℕ
mark = 0x41 ∷ 0x54 ∷ []

-- A text that its field can hold: not longer, and nothing but zero behind a zero.
unfoldable pub text_fits : ℕ → List ℕ → Bool
text_fits n text = leb (length text) n && zero_filled text

unfoldable pub texts_fit : List ℕ → List ℕ → List ℕ → List ℕ → Bool
texts_fit model version name date =
    text_fits model_size model && (text_fits version_size version && (text_fits name_size name && text_fits date_size date))

-- Texts and gap are filled with zeros.
unfoldable pub filled_in : List ℕ → Bool
filled_in s = texts_fit (model_in s) (version_in s) (name_in s) (date_in s) && all_zero (gap_in s)

-- How many bytes the block takes: up to its image, the image, the check.
abbrev pub size_of : Block → ℕ
size_of b = b.start + b.extent + 4

-- The image of a block that was read, in the bytes that it was read from.
abbrev pub image_of : Block → List ℕ → List ℕ
image_of b s = part_of s b.start b.extent

abbrev pub fields_of : Kind → List ℕ → Block
fields_of k s = record { kind = k; extent = length_in s; start = start_in s; check = check_in s }

abbrev pub unless : Bool → Refusal → Result Block Refusal → Result Block Refusal
unless t refusal rest = cond t rest (Err refusal)

-- The tests behind the kind: its address (6), the image's length (8), its start (7), image and check there (4), zeros (9), check (10).
unfoldable pub kind_block : Kind → List ℕ → Result Block Refusal
kind_block k s =
    unless (eqb (address_in s) (base_of k)) wrong_type
    (unless (fits_file k (length_in s)) wrong_image_length
    (unless (leb header_size (start_in s)) wrong_start
    (unless (leb (start_in s + length_in s + 4) (length s)) file_ends
    (unless (filled_in s) not_zero_filled
    (unless (eqb (check_in s) (xor_words (image_in s))) wrong_image_check
    (Ok (fields_of k s)))))))

abbrev pub known_block : Option Kind → List ℕ → Result Block Refusal
known_block (Some k) s = kind_block k s
known_block None s = Err wrong_type

-- The block at the front: 208 header bytes there (4), the mark (5), the type (6), then the rest.
unfoldable pub block_of : List ℕ → Result Block Refusal
block_of s =
    unless (leb header_size (length s)) file_ends
    (unless (same_bytes (mark_in s) mark) wrong_mark
    (known_block (kind_of (type_in s)) s))
