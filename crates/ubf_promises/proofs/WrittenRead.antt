-- What was read is written again as the same bytes.
use Rattle.std.specs.Prelude.{ℕ, ◌+◌, ◌-◌, ◌≤◌, true, List, ◌≡◌, length, take, replicate}
use Rattle.std.proofs.Common.{ap, ◌∙◌, arith}
use Rattle.octets.specs.Octets.{Bytes, part_of}
use Rattle.octets.proofs.PartLaws.{length_part, part_of_number, zeros_of_zero}
use Rattle.kinds.specs.KindsLaws.{number_of_kind}
use Rattle.kinds.specs.declared.Kind.{Kind}
use Rattle.refusals.specs.Written.{written}
use Rattle.ubf_model.specs.Block.{header_size, length_in, start_in, type_in, fields_of, model_in, version_in, name_in, date_in, gap_in, image_in}
use Rattle.ubf_model.specs.Block.{length_place, address_place, start_place, type_place, model_place, version_place, name_place, date_place, model_size, version_size, name_size, date_size}
use Rattle.ubf_model.proofs.BlockLaws.{Good, good_of_block}
use Rattle.ubf_model.specs.Pack.{texts_in, block_bytes, pack_of}
use Rattle.ubf_model.proofs.PackLaws.{filled_full, filled_of_test, FieldsStand, block_of_fields, pack_passed}
use Rattle.ubf_promises.specs.Promises.{our_reader, fields_read, WrittenRead}
use Rattle.ubf_promises.proofs.ReadWritten.{fields_in}

module _ (k : Kind) (s : List ℕ) (g : Good k s) where
  -- The image is as long as the header says.
  image_long : length (image_in s) ≡ length_in s
  image_long = length_part s (start_in s) (length_in s) (omega arith)

  -- A text within the header is as long as its field.
  text_long : (at n : ℕ) → at + n ≤ header_size → length (part_of s at n) ≡ n
  text_long at n h = length_part s at n (omega arith)

  -- The gap is zeros.
  gap_zeros : gap_in s ≡ replicate (start_in s - header_size) 0
  gap_zeros =
      let long = length_part s header_size (start_in s - header_size) (omega arith) in
      zeros_of_zero (gap_in s) (filled_of_test s g.filled).1 ∙ ap (λ (n : ℕ). replicate n 0) long

  -- The texts of a block that was read fit their fields.
  texts_fit_law : texts_in (fields_in s) ≡ true
  texts_fit_law = (filled_of_test s g.filled).0

  -- Each field that was read stands where it was read.
  fields_stand : Bytes s → FieldsStand (fields_in s) s
  fields_stand b = record {
    mark_there = g.marked;
    length_there = rw image_long (part_of_number s length_place 4 b (omega arith));
    address_there = part_of_number s address_place 4 b (omega arith);
    start_there = part_of_number s start_place 4 b (omega arith);
    type_there = part_of_number s type_place 2 b (omega arith);
    model_there = filled_full model_size (model_in s) (text_long model_place model_size (omega arith));
    version_there = filled_full version_size (version_in s) (text_long version_place version_size (omega arith));
    name_there = filled_full name_size (name_in s) (text_long name_place name_size (omega arith));
    date_there = filled_full date_size (date_in s) (text_long date_place date_size (omega arith));
    gap_there = gap_zeros;
    image_there = rw image_long;
    check_there = rw (image_long, ← g.checked) (part_of_number s (start_in s + length_in s) 4 b g.there);
  }

  -- Written again they are the bytes that they were read from.
  block_again : Bytes s → block_bytes (fields_in s) ≡ take (start_in s + length_in s + 4) s
  block_again b = rw image_long at (block_of_fields (fields_in s) s g.behind_header (fields_stand b))

  -- They are the fields of the block that was read.
  fields_same : fields_read our_reader (fields_of k s) s ≡ fields_in s
  fields_same = rw (number_of_kind (type_in s) k g.known, g.based)

  -- The writer passes the fields that were read, and writes those bytes.
  packs : Bytes s → (output : List ℕ) → start_in s + length_in s + 4 ≤ length output
      → pack_of (fields_in s) output ≡ written (take (start_in s + length_in s + 4) s) output
  packs b output room =
      pack_passed k (fields_in s) output g.known g.based (rw image_long g.sized) g.behind_header texts_fit_law (rw image_long room)
      ∙ rw (block_again b)

-- What was read is written again as the same bytes, wherever the output has room.
pub written_read : WrittenRead
written_read s b bytes h output room =
    let r = good_of_block s b h in
    let k = r.kind in
    let g = r.good in
    rw (r.fields, fields_same k s g) (packs k s g bytes output (rw r.fields at room))
