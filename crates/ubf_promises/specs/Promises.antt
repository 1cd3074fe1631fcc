-- What UBF files promise, to be read without the proofs: of any writer, reader or walk, and of ours. Each statement is proved of ours in
-- the file named beside it, and refuted for wrong programs in the files Wrong*.antt.
use Rattle.refusals.specs.declared.Refusal.{Refusal}
use Rattle.std.specs.Prelude.{ℕ, ◌+◌, ◌-◌, ◌^◌, ◌≤◌, ◌<◌, Bool, true, cond, List, [], ◌∷◌, ◌++◌, ◌≡◌, eqb, leb, length, take, drop, Ok, Option, Result}
use Rattle.octets.specs.Octets.{Bytes, same_bytes, xor_words}
use Rattle.kinds.specs.Kinds.{kind_of, base_of, number_of, fits_file}
use Rattle.kinds.specs.declared.Kind.{Kind}
use Rattle.refusals.specs.Refusals.{no_room, file_ends, wrong_mark, wrong_type, wrong_start, wrong_image_length, not_zero_filled, wrong_image_check, refusal_number}
use Rattle.refusals.specs.Written.{Out, bytes_written, numbered, number_in, count_in, written}
use Rattle.ubf_model.specs.Answers.{block_found, block_told, none_told, found_told, nth_told}
use Rattle.ubf_model.specs.Block.{header_size, block_of, size_of, image_of, model_in, version_in, name_in, date_in}
use Rattle.ubf_model.specs.Block.{mark_in, mark, length_in, address_in, start_in, type_in, image_in, check_in, filled_in}
use Rattle.ubf_model.specs.Block.{model_size, version_size, name_size, date_size}
use Rattle.ubf_model.specs.Pack.{Fields, filled, block_bytes, bytes_of, texts_in, pairs, fits, pack_of}
use Rattle.ubf_model.specs.Walk.{Standing, Ending, whole, fault, Walked, ends, walk_of, block_at}
use Rattle.ubf_model.specs.declared.block.Block.{Block}
use Rattle.ubf_model.specs.declared.walk.Nth.{Nth}
use Rattle.ubf_model.specs.declared.walk.Nth.TheVariants as nth

-- ---- writers and readers

-- A writer is given fields and an output.
abbrev pub Writer : Type 0
Writer = Fields → List ℕ → Out

-- A reader is given bytes that a block begins: the block, its texts, and the image of the block that it found.
pub record Reader : Type 0 where
  pub block : List ℕ → Result Block Refusal
  pub model : List ℕ → List ℕ
  pub version : List ℕ → List ℕ
  pub name : List ℕ → List ℕ
  pub date : List ℕ → List ℕ
  pub image : Block → List ℕ → List ℕ

abbrev pub our_reader : Reader
our_reader = record { block = block_of; model = model_in; version = version_in; name = name_in; date = date_in; image = image_of }

-- Fields that pass the writer's tests for a kind: its number and address, an image that fits, a start behind the header that four
-- bytes can spell, texts that fit.
pub record Packable (k : Kind) (f : Fields) : Type 0 where
  pub numbered : f.number ≡ number_of k
  pub based : f.address ≡ base_of k
  pub sized : fits_file k (length f.image) ≡ true
  pub behind_header : header_size ≤ f.start
  pub spelled_start : f.start < 2 ^ 32
  pub texts : texts_in f ≡ true
  pub image_bytes : Bytes f.image

-- ---- U1

-- What is written (ReadWritten.antt). Such fields are written as their block, wherever the output has room.
abbrev pub PackWritesOf : Writer → Type 0
PackWritesOf write =
    (k : Kind) (f : Fields) (output : List ℕ) → Packable k f → bytes_of f ≤ length output
    → write f output ≡ written (block_bytes f) output

abbrev pub PackWrites : Type 0
PackWrites = PackWritesOf pack_of

-- The block that fields of a kind are.
abbrev pub block_for : Kind → Fields → Block
block_for k f = record { kind = k; extent = length f.image; start = f.start; check = xor_words f.image }

-- What reading a block gives back of its fields: a block of the kind with length, start and check of the image; the texts with their
-- zeros; the image.
pub record ReadAs (read : Reader) (k : Kind) (f : Fields) (s : List ℕ) : Type 0 where
  pub fields : found_told (read.block s) ≡ block_told (block_for k f) 0
  pub model : read.model s ≡ filled model_size f.model
  pub version : read.version s ≡ filled version_size f.version
  pub name : read.name s ≡ filled name_size f.name
  pub date : read.date s ≡ filled date_size f.date
  pub image : (b : Block) → read.block s ≡ Ok b → read.image b s ≡ f.image

-- What is read (ReadWritten.antt). A block is read again, whatever follows it.
abbrev pub ReadWrittenOf : Reader → Type 0
ReadWrittenOf read = (k : Kind) (f : Fields) (rest : List ℕ) → Packable k f → ReadAs read k f (block_bytes f ++ rest)

abbrev pub ReadWritten : Type 0
ReadWritten = ReadWrittenOf our_reader

-- What a writer that answers so many bytes owes: they are the block's, which its reader reads back, whatever follows it; type and
-- address are those of a kind; and the output past them is as lent.
pub record PackedAs (read : Reader) (f : Fields) (output : List ℕ) (count : ℕ) (left : List ℕ) : Type 0 where
  pub kind : Kind
  pub numbered : f.number ≡ number_of kind
  pub based : f.address ≡ base_of kind
  pub counted : count ≡ bytes_of f
  pub reads : (rest : List ℕ) → ReadAs read kind f (take count left ++ rest)
  pub past : drop count left ≡ drop count output

-- What was accepted (PackedRead.antt). Whatever fields a writer accepts, of all that the types give, it has written as the block that
-- is read back.
abbrev pub PackedReadOf : Writer → Reader → Type 0
PackedReadOf write read =
    (f : Fields) (output : List ℕ) → f.start < 2 ^ 32 → Bytes f.image
    → let o = write f output in number_in (numbered o.answer) ≡ bytes_written → PackedAs read f output (count_in o.answer) o.output

abbrev pub PackedRead : Type 0
PackedRead = PackedReadOf pack_of our_reader

-- The fields of a block that was read.
abbrev pub fields_read : Reader → Block → List ℕ → Fields
fields_read read b s = record {
  number = number_of b.kind;
  address = base_of b.kind;
  start = b.start;
  model = read.model s;
  version = read.version s;
  name = read.name s;
  date = read.date s;
  image = read.image b s;
}

-- The way back (WrittenRead.antt). What was read is written again as the same bytes, wherever the output has room.
abbrev pub WrittenReadOf : Writer → Reader → Type 0
WrittenReadOf write read =
    (s : List ℕ) (b : Block) → Bytes s → read.block s ≡ Ok b
    → (output : List ℕ) → size_of b ≤ length output → write (fields_read read b s) output ≡ written (take (size_of b) s) output

abbrev pub WrittenRead : Type 0
WrittenRead = WrittenReadOf pack_of our_reader

-- ---- refusals

-- Tests with their refusals, in order: the number of the first that fails, or another where all hold.
abbrev pub first_failing : List (Refusal × Bool) → ℕ → ℕ
first_failing [] passing = passing
first_failing (t ∷ ts) passing = cond t.1 (first_failing ts passing) (refusal_number t.0)

-- The checks of a block behind its mark: type and address, image length, CS, image and check there, zeros, check.
abbrev pub type_checks : Option Kind → List ℕ → List (Refusal × Bool)
type_checks type s =
    (wrong_type, pairs type (address_in s))
    ∷ (wrong_image_length, fits type (length_in s))
    ∷ (wrong_start, leb header_size (start_in s))
    ∷ (file_ends, leb (start_in s + length_in s + 4) (length s))
    ∷ (not_zero_filled, filled_in s)
    ∷ (wrong_image_check, eqb (check_in s) (xor_words (image_in s)))
    ∷ []

-- All of them: header there, mark, and those.
abbrev pub block_checks : List ℕ → List (Refusal × Bool)
block_checks s = (file_ends, leb header_size (length s)) ∷ (wrong_mark, same_bytes (mark_in s) mark) ∷ type_checks (kind_of (type_in s)) s

-- Which bytes are refused, and with which number (Refused.antt).
abbrev pub ReadRefusedOf : Reader → Type 0
ReadRefusedOf read = (s : List ℕ) → (found_told (read.block s)).number ≡ first_failing (block_checks s) block_found

abbrev pub ReadRefused : Type 0
ReadRefused = ReadRefusedOf our_reader

-- The tests of the writer: the same but for mark, gap and what the file must hold; then the room.
abbrev pub field_tests : Fields → List ℕ → List (Refusal × Bool)
field_tests f output =
    (wrong_type, pairs (kind_of f.number) f.address)
    ∷ (wrong_image_length, fits (kind_of f.number) (length f.image))
    ∷ (wrong_start, leb header_size f.start)
    ∷ (not_zero_filled, texts_in f)
    ∷ (no_room, leb (bytes_of f) (length output))
    ∷ []

-- Which fields are refused, and with which number; a refusal leaves the output as lent (Refused.antt).
abbrev pub PackRefusedOf : Writer → Type 0
PackRefusedOf write =
    (f : Fields) (output : List ℕ)
    → let o = write f output in
    (number_in (numbered o.answer) ≡ first_failing (field_tests f output) bytes_written)
    × ((number_in (numbered o.answer) ≡ bytes_written → ⊥) → o.output ≡ output)

abbrev pub PackRefused : Type 0
PackRefused = PackRefusedOf pack_of

-- ---- U2

-- The blocks stand one behind the other from a place on, each read at its place, up to an end.
abbrev pub LaidOut : List ℕ → ℕ → List Standing → ℕ → Type 0
LaidOut file from [] end = from ≡ end
LaidOut file from (b ∷ bs) end =
    (b.place ≡ from) × (block_of (drop from file) ≡ Ok b.block) × LaidOut file (from + size_of b.block) bs end

-- A walk from a place on that ends with the file has laid out all of it, and the file is not empty. One that ends at a fault has
-- laid out all before it, the block there is refused with that number, and bytes of the file stand there unless it is empty.
abbrev pub EndsFrom : List ℕ → ℕ → List Standing → Ending → Type 0
EndsFrom file from bs whole = LaidOut file from bs (length file) × (0 < length file)
EndsFrom file from bs (fault refusal place) =
    LaidOut file from bs place × (found_told (block_of (drop place file)) ≡ none_told (refusal_number refusal) 0 0) × (place ≤ length file - 1)

-- U2 (Laid.antt). The walk's blocks, laid end to end, are the file; or the first faulty block's number and place are given, and the
-- blocks before it are right. No good file is called faulty at its end, and an empty one is not whole.
abbrev pub WalkLaidOf : (List ℕ → Walked) → Type 0
WalkLaidOf walk = (file : List ℕ) → EndsFrom file 0 (walk file).blocks (walk file).ending

abbrev pub WalkLaid : Type 0
WalkLaid = WalkLaidOf walk_of

-- So many blocks, laid end to end from the file's front, end at a place.
pub record Before (file : List ℕ) (count place : ℕ) : Type 0 where
  pub blocks : List Standing
  pub many : length blocks ≡ count
  pub laid_out : LaidOut file 0 blocks place

-- What an answer to the search for the n-th block owes. A block found is read at its place, behind n others; where the blocks are too
-- few, all are counted; at a fault the block is refused, and those before it are counted.
abbrev pub NthStands : List ℕ → ℕ → Nth → Type 0
NthStands file n (nth.Found b place) = Before file n place × (block_of (drop place file) ≡ Ok b)
NthStands file n (nth.Past count) = Before file count (length file) × (count ≤ n) × (0 < length file)
NthStands file n (nth.Refused refusal place count) =
    Before file count place × (count ≤ n) × (found_told (block_of (drop place file)) ≡ none_told (refusal_number refusal) 0 0)

-- U2, the n-th block (Nth.antt), counted from 0.
abbrev pub NthLaidOf : (ℕ → List ℕ → Nth) → Type 0
NthLaidOf search = (file : List ℕ) (n : ℕ) → NthStands file n (search n file)

abbrev pub NthLaid : Type 0
NthLaid = NthLaidOf block_at

-- An empty file is refused with 4 (Laid.antt): a walk over it finds no block and ends with 4 at place 0, and whichever block is asked
-- for, the answer is 4 at place 0, with no block before it.
abbrev pub EmptyFileOf : (List ℕ → Walked) → (ℕ → List ℕ → Nth) → Type 0
EmptyFileOf walk search = (walk [] ≡ ends (fault file_ends 0)) × ((n : ℕ) → nth_told (search n []) ≡ none_told (refusal_number file_ends) 0 0)

abbrev pub EmptyFile : Type 0
EmptyFile = EmptyFileOf walk_of block_at
