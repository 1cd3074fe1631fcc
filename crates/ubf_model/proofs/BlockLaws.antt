-- The laws of a block: the facts that its tests stand for.
use Rattle.refusals.specs.declared.Refusal.{Refusal}
use Rattle.std.specs.Prelude.{ℕ, ◌+◌, ◌≤◌, Bool, true, false, List, ◌≡◌, refl, eqb, leb, length, None, Ok, Option, Result, Some}
use Rattle.std.proofs.Common.{arith, eq-eqb, eqb-true, le-leb, leb-true}
use Rattle.octets.specs.Octets.{same_bytes, xor_words}
use Rattle.octets.proofs.OctetsLaws.{same_refl, same_true}
use Rattle.kinds.specs.Kinds.{kind_of, base_of, fits_file}
use Rattle.kinds.specs.declared.Kind.{Kind}
use Rattle.refusals.specs.Refusals.{file_ends, wrong_mark, wrong_type, wrong_start, wrong_image_length, not_zero_filled, wrong_image_check}
use Rattle.ubf_model.specs.Block.{header_size, mark_in, mark, length_in, address_in, start_in, type_in, filled_in, image_in, check_in}
use Rattle.ubf_model.specs.Block.{fields_of, size_of, unless, kind_block, known_block, block_of}
use Rattle.ubf_model.specs.declared.block.Block.{Block}

-- The facts that make the front of some bytes a block of a kind.
pub record Good (k : Kind) (s : List ℕ) : Type 0 where
  pub header : header_size ≤ length s
  pub marked : mark_in s ≡ mark
  pub known : kind_of (type_in s) ≡ Some k
  pub based : address_in s ≡ base_of k
  pub sized : fits_file k (length_in s) ≡ true
  pub behind_header : header_size ≤ start_in s
  pub there : start_in s + length_in s + 4 ≤ length s
  pub filled : filled_in s ≡ true
  pub checked : check_in s ≡ xor_words (image_in s)

-- Where the facts hold, the block is read with its fields.
pub block_of_good : (k : Kind) (s : List ℕ) → Good k s → block_of s ≡ Ok (fields_of k s)
unfolding block_of kind_block
block_of_good k s g =
    rw (
      le-leb header_size (length s) g.header,
      g.marked,
      same_refl mark,
      g.known,
      eq-eqb (address_in s) (base_of k) g.based,
      g.sized,
      le-leb header_size (start_in s) g.behind_header,
      le-leb (start_in s + length_in s + 4) (length s) g.there,
      g.filled,
      eq-eqb (check_in s) (xor_words (image_in s)) g.checked,
    )

-- A block that was read has a kind, the facts hold, and its fields are those of the bytes.
pub record ReadGood (s : List ℕ) (b : Block) : Type 0 where
  pub kind : Kind
  pub good : Good kind s
  pub fields : b ≡ fields_of kind s

-- Where a test stands before a block that was read, it was passed, and what stands behind it is the block.
went_on : (t : Bool) (refusal : Refusal) (rest : Result Block Refusal) (b : Block) → unless t refusal rest ≡ Ok b → (t ≡ true) × (rest ≡ Ok b)
went_on true refusal rest b h = (refl, h)
went_on false refusal rest b h = cc

-- A block that was read has passed every test.
pub good_of_block : (s : List ℕ) (b : Block) → block_of s ≡ Ok b → ReadGood s b
unfolding block_of kind_block
good_of_block s b h =
    let header_there = went_on (leb header_size (length s)) file_ends _ b h in
    let mark_there = went_on (same_bytes (mark_in s) mark) wrong_mark _ b header_there.1 in
    let long = leb-true header_size (length s) header_there.0 in
    let marks = same_true (mark_in s) mark mark_there.0 in
    go (kind_of (type_in s)) refl long marks mark_there.1
  where
    go : (known : Option Kind) → kind_of (type_in s) ≡ known → header_size ≤ length s → mark_in s ≡ mark → known_block known s ≡ Ok b
        → ReadGood s b
    go None e long marks r = cc
    go (Some k) e long marks r =
        let at_base = went_on (eqb (address_in s) (base_of k)) wrong_type _ b r in
        let fits_file_law = went_on (fits_file k (length_in s)) wrong_image_length _ b at_base.1 in
        let starts = went_on (leb header_size (start_in s)) wrong_start _ b fits_file_law.1 in
        let ends = went_on (leb (start_in s + length_in s + 4) (length s)) file_ends _ b starts.1 in
        let zeros = went_on (filled_in s) not_zero_filled _ b ends.1 in
        let right = went_on (eqb (check_in s) (xor_words (image_in s))) wrong_image_check _ b zeros.1 in
        record {
          kind = k;
          good = record {
            header = long;
            marked = marks;
            known = e;
            based = eqb-true (address_in s) (base_of k) at_base.0;
            sized = fits_file_law.0;
            behind_header = leb-true header_size (start_in s) starts.0;
            there = leb-true (start_in s + length_in s + 4) (length s) ends.0;
            filled = zeros.0;
            checked = eqb-true (check_in s) (xor_words (image_in s)) right.0;
          };
          fields = cc right.1;
        }

-- A block that was read lies within the bytes.
pub block_within : (s : List ℕ) (b : Block) → block_of s ≡ Ok b → size_of b ≤ length s
block_within s b h = let r = good_of_block s b h in rw r.fields r.good.there

-- A block that was read is at least as long as its header.
pub block_some : (s : List ℕ) (b : Block) → block_of s ≡ Ok b → header_size ≤ size_of b
block_some s b h = let r = good_of_block s b h in rw r.fields (omega arith)
