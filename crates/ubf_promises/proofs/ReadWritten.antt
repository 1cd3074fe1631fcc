-- What was written is read again.
use Rattle.std.specs.Prelude.{ℕ, ◌+◌, ◌-◌, ◌≤◌, List, ◌++◌, ◌≡◌, length, Ok}
use Rattle.std.proofs.Common.{sym, ap, ◌∙◌, arith, length-append}
use Rattle.octets.specs.Octets.{xor_words}
use Rattle.octets.proofs.PartLaws.{number_of_part, zeros_zero, xor_words_lt}
use Rattle.kinds.specs.Kinds.{number_of, base_of}
use Rattle.kinds.specs.KindsLaws.{kind_of_number, kind_spelled, image_short}
use Rattle.kinds.specs.declared.Kind.{Kind}
use Rattle.ubf_model.specs.Answers.{found_told}
use Rattle.ubf_model.specs.Block.{header_size, block_of, model_in, version_in, name_in, date_in, length_in, address_in, start_in, type_in, image_in, check_in}
use Rattle.ubf_model.specs.Block.{length_place, address_place, start_place, type_place, model_size, version_size, name_size, date_size}
use Rattle.ubf_model.proofs.BlockLaws.{Good, block_of_good}
use Rattle.ubf_model.specs.Pack.{Fields, block_bytes, bytes_of}
use Rattle.ubf_model.proofs.PackLaws.{texts_of_test, test_of_texts, filled_fits, test_of_filled, FieldsStand, length_block, fields_of_block, pack_passed}
use Rattle.ubf_promises.specs.Promises.{Packable, block_for, ReadWritten, PackWrites}

-- The fields of a block as the bytes have them.
abbrev pub fields_in : List ℕ → Fields
fields_in s = record {
  number = type_in s;
  address = address_in s;
  start = start_in s;
  model = model_in s;
  version = version_in s;
  name = name_in s;
  date = date_in s;
  image = image_in s;
}

-- The numbers of a block, where its fields stand in some bytes.
record NumbersIn (k : Kind) (f : Fields) (s : List ℕ) : Type 0 where
  long : length_in s ≡ length f.image
  base : address_in s ≡ base_of k
  begins : start_in s ≡ f.start
  type : type_in s ≡ number_of k
  image : image_in s ≡ f.image
  check : check_in s ≡ xor_words f.image

-- Each number that stands there is read.
numbers_in_law : (k : Kind) (f : Fields) (s : List ℕ) → Packable k f → FieldsStand f s → NumbersIn k f s
numbers_in_law k f s p t =
    let short = image_short k (length f.image) p.sized in
    let small = kind_spelled k in
    let long : length_in s ≡ length f.image = number_of_part s length_place 4 (length f.image) (omega arith) t.length_there in
    let begins : start_in s ≡ f.start = number_of_part s start_place 4 f.start p.spelled_start t.start_there in
    let word = xor_words_lt 0 f.image (omega arith) p.image_bytes in
    record {
      long = long;
      base = number_of_part s address_place 4 f.address (rw p.based small.1) t.address_there ∙ p.based;
      begins = begins;
      type = number_of_part s type_place 2 f.number (rw p.numbered small.0) t.type_there ∙ p.numbered;
      image = rw (long, begins) t.image_there;
      check = rw (long, begins) (number_of_part s (f.start + length f.image) 4 (xor_words f.image) word t.check_there);
    }

-- The facts that make it a block hold.
good_written : (k : Kind) (f : Fields) (s : List ℕ) → Packable k f → FieldsStand f s → NumbersIn k f s → bytes_of f ≤ length s
    → Good k s
good_written k f s p t n h =
    let fit = texts_of_test f p.texts in
    record {
      header = omega arith;
      marked = t.mark_there;
      known = rw n.type (kind_of_number k);
      based = n.base;
      sized = rw n.long p.sized;
      behind_header = rw n.begins p.behind_header;
      there = rw (n.begins, n.long) h;
      filled = test_of_filled s (test_of_texts (fields_in s) (record {
        model = rw t.model_there (filled_fits model_size f.model fit.model);
        version = rw t.version_there (filled_fits version_size f.version fit.version);
        name = rw t.name_there (filled_fits name_size f.name fit.name);
        date = rw t.date_there (filled_fits date_size f.date fit.date);
      })) (rw (n.begins, t.gap_there) (zeros_zero (f.start - header_size)));
      checked = rw n.image n.check;
    }

-- What was written is read again, whatever follows it.
pub read_written : ReadWritten
read_written k f rest p =
    let fit = texts_of_test f p.texts in
    let s : List ℕ = block_bytes f ++ rest in
    let t = fields_of_block f rest p.behind_header fit in
    let n = numbers_in_law k f s p t in
    let room : bytes_of f ≤ length s = rw (length-append, length_block f p.behind_header fit) (omega arith) in
    let found : block_of s ≡ Ok (block_for k f) = block_of_good k s (good_written k f s p t n room) ∙ rw (n.check, n.long, n.begins) in
    record {
      fields = ap found_told found;
      model = t.model_there;
      version = t.version_there;
      name = t.name_there;
      date = t.date_there;
      image = λ b e. let same : b ≡ block_for k f = cc (sym e ∙ found) in rw same t.image_there;
    }

-- Fields that pass the tests are written as that block, wherever the output has room.
pub pack_writes : PackWrites
pack_writes k f output p room =
    pack_passed k f output (rw p.numbered (kind_of_number k)) p.based p.sized p.behind_header p.texts room
