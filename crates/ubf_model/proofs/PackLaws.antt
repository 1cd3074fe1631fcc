-- The laws of writing: a block is its fields, each standing at its place.
use Rattle.refusals.specs.declared.Refusal.{Refusal}
use Rattle.std.specs.Prelude.{ℕ, ◌+◌, ◌-◌, ◌≤◌, ◌<◌, Bool, true, false, List, [], ◌++◌, ◌≡◌, refl, eqb, leb, length, take, replicate, None, Option, Some}
use Rattle.std.proofs.lemmas.Bool.{false≢true}
use Rattle.std.proofs.Common.{append-nil, sym, ap, ◌∙◌, arith, eq-eqb, eqb-true, le-leb, leb-true, length-append}
use Rattle.std.proofs.lemmas.List.{length-replicate}
use Rattle.octets.proofs.Choice.{both}
use Rattle.octets.specs.Octets.{spelled, part_of, all_zero, zero_filled, xor_words, laid, over, end_to_end, lay_all}
use Rattle.octets.proofs.OctetsLaws.{length_spelled, over_nil}
use Rattle.octets.proofs.PartLaws.{size_of_all, Sized, StandAt, ◌also◌}
use Rattle.octets.proofs.PartLaws.{lay_all_law, stand_of_laid, laid_of_stand, length_laid, filled_behind}
use Rattle.kinds.specs.Kinds.{longest_image, kind_of, base_of, fits_file}
use Rattle.kinds.specs.KindsLaws.{image_short}
use Rattle.kinds.specs.declared.Kind.{Kind}
use Rattle.refusals.specs.Refusals.{no_room, wrong_type, wrong_start, wrong_image_length, not_zero_filled, refusal_number}
use Rattle.refusals.specs.Written.{Out, bytes_written, numbered, number_in, written}
use Rattle.ubf_model.specs.Block.{header_size, mark_in, mark, model_in, version_in, name_in, date_in, gap_in, text_fits, texts_fit, filled_in}
use Rattle.ubf_model.specs.Block.{length_place, address_place, start_place, type_place, model_size, version_size, name_size, date_size}
use Rattle.ubf_model.specs.Pack.{header_pieces, body_pieces, pieces_of, Fields, filled, block_bytes, bytes_of, texts_in, pairs, fits, unless_out, pack_of}

-- ---- the texts

-- The test of the texts is the test of each.
pub record TextsFit (f : Fields) : Type 0 where
  pub model : text_fits model_size f.model ≡ true
  pub version : text_fits version_size f.version ≡ true
  pub name : text_fits name_size f.name ≡ true
  pub date : text_fits date_size f.date ≡ true

-- Where the test holds, each text fits.
pub texts_of_test : (f : Fields) → texts_in f ≡ true → TextsFit f
unfolding texts_fit
texts_of_test f h =
    let first = both (text_fits model_size f.model) _ h in
    let second = both (text_fits version_size f.version) _ first.1 in
    let third = both (text_fits name_size f.name) _ second.1 in
    record { model = first.0; version = second.0; name = third.0; date = third.1 }

-- Where each text fits, the test holds.
pub test_of_texts : (f : Fields) → TextsFit f → texts_in f ≡ true
unfolding texts_fit
test_of_texts f t = rw (t.model, t.version, t.name) t.date

-- A text that fits is no longer than its field, and filled with zeros.
pub fits_field : (n : ℕ) (text : List ℕ) → text_fits n text ≡ true → (length text ≤ n) × (zero_filled text ≡ true)
unfolding text_fits
fits_field n text h = let each = both (leb (length text) n) (zero_filled text) h in (leb-true (length text) n each.0, each.1)

-- A field is as long as it should be.
pub length_filled : (n : ℕ) (text : List ℕ) → text_fits n text ≡ true → length (filled n text) ≡ n
unfolding filled
length_filled n text h = let short = (fits_field n text h).0 in simp (length-append, length-replicate) (omega arith)

-- A field is filled with zeros.
zero_filled_law : (n : ℕ) (text : List ℕ) → text_fits n text ≡ true → zero_filled (filled n text) ≡ true
unfolding filled
zero_filled_law n text h = filled_behind text (n - length text) ∙ (fits_field n text h).1

-- A text as long as its field is the field.
pub filled_full : (n : ℕ) (text : List ℕ) → length text ≡ n → text ≡ filled n text
unfolding filled
filled_full n text h = let none : n - length text ≡ 0 = omega arith in rw (none, append-nil)

-- A field that is filled with zeros is a text that fits it.
field_fits : (n : ℕ) (text : List ℕ) → length text ≡ n → zero_filled text ≡ true → text_fits n text ≡ true
unfolding text_fits
field_fits n text h z = rw (le-leb (length text) n (omega arith)) z

-- A text filled up to its field fits it.
pub filled_fits : (n : ℕ) (text : List ℕ) → text_fits n text ≡ true → text_fits n (filled n text) ≡ true
filled_fits n text h = field_fits n (filled n text) (length_filled n text h) (zero_filled_law n text h)

-- The test of the zeros of a block is the test of its texts and of the gap.
pub filled_of_test : (s : List ℕ) → filled_in s ≡ true
    → (texts_fit (model_in s) (version_in s) (name_in s) (date_in s) ≡ true) × (all_zero (gap_in s) ≡ true)
unfolding filled_in
filled_of_test s h = both (texts_fit (model_in s) (version_in s) (name_in s) (date_in s)) (all_zero (gap_in s)) h

-- Where the texts fit and the gap is zeros, the test holds.
pub test_of_filled : (s : List ℕ) → texts_fit (model_in s) (version_in s) (name_in s) (date_in s) ≡ true → all_zero (gap_in s) ≡ true
    → filled_in s ≡ true
unfolding filled_in
test_of_filled s texts gap = rw texts gap

-- ---- the fields in their places

-- The fields of a block stand at their places in some bytes.
pub record FieldsStand (f : Fields) (s : List ℕ) : Type 0 where
  pub mark_there : mark_in s ≡ mark
  pub length_there : part_of s length_place 4 ≡ spelled 4 (length f.image)
  pub address_there : part_of s address_place 4 ≡ spelled 4 f.address
  pub start_there : part_of s start_place 4 ≡ spelled 4 f.start
  pub type_there : part_of s type_place 2 ≡ spelled 2 f.number
  pub model_there : model_in s ≡ filled model_size f.model
  pub version_there : version_in s ≡ filled version_size f.version
  pub name_there : name_in s ≡ filled name_size f.name
  pub date_there : date_in s ≡ filled date_size f.date
  pub gap_there : part_of s header_size (f.start - header_size) ≡ replicate (f.start - header_size) 0
  pub image_there : part_of s f.start (length f.image) ≡ f.image
  pub check_there : part_of s (f.start + length f.image) 4 ≡ spelled 4 (xor_words f.image)

-- A block is its pieces end to end.
block_laid : (f : Fields) → block_bytes f ≡ end_to_end (pieces_of f)
unfolding block_bytes
block_laid f = refl

-- Together they are as long as the block is said to be.
pieces_together : (f : Fields) → header_size ≤ f.start → size_of_all (pieces_of f) ≡ bytes_of f
pieces_together f h = omega arith

-- Each piece is as long as it should be.
pieces_sized : (f : Fields) → TextsFit f → Sized (pieces_of f)
pieces_sized f t =
    refl
    also length_spelled 4 (length f.image)
    also length_spelled 4 f.address
    also length_spelled 4 f.start
    also length_spelled 2 f.number
    also length_filled model_size f.model t.model
    also length_filled version_size f.version t.version
    also length_filled name_size f.name t.name
    also length_filled date_size f.date t.date
    also length-replicate (f.start - header_size) 0
    also refl
    also length_spelled 4 (xor_words f.image)
    also tt

-- A block is as long as it is said to be.
pub length_block : (f : Fields) → header_size ≤ f.start → TextsFit f → length (block_bytes f) ≡ bytes_of f
length_block f h t = ap length (block_laid f) ∙ length_laid (pieces_of f) (pieces_sized f t) ∙ pieces_together f h

-- Where the pieces stand end to end, the fields stand at their places.
fields_of_pieces : (f : Fields) (s : List ℕ) → header_size ≤ f.start → StandAt s 0 (pieces_of f) → FieldsStand f s
fields_of_pieces f s h p =
    let behind_gap : header_size + (f.start - header_size) ≡ f.start = omega arith in
    let (marks, (sizes, (bases, (begins, (types, (models, (versions, (names, (dates, (gaps, (images, (checks, end)))))))))))) = p in
    record {
      mark_there = marks;
      length_there = sizes;
      address_there = bases;
      start_there = begins;
      type_there = types;
      model_there = models;
      version_there = versions;
      name_there = names;
      date_there = dates;
      gap_there = gaps;
      image_there = rw behind_gap at images;
      check_there = rw behind_gap at checks;
    }

-- Where the fields stand at their places, the pieces stand end to end.
pieces_of_fields : (f : Fields) (s : List ℕ) → header_size ≤ f.start → FieldsStand f s → StandAt s 0 (pieces_of f)
pieces_of_fields f s h t =
    let behind_gap : header_size + (f.start - header_size) ≡ f.start = omega arith in
    t.mark_there
    also t.length_there
    also t.address_there
    also t.start_there
    also t.type_there
    also t.model_there
    also t.version_there
    also t.name_there
    also t.date_there
    also t.gap_there
    also rw behind_gap t.image_there
    also rw behind_gap t.check_there
    also tt

-- In bytes that begin with a block its fields stand at their places.
pub fields_of_block : (f : Fields) (rest : List ℕ) → header_size ≤ f.start → TextsFit f → FieldsStand f (block_bytes f ++ rest)
fields_of_block f rest h t =
    let s : List ℕ = block_bytes f ++ rest in
    let begins : s ≡ end_to_end (pieces_of f) ++ rest = ap (λ (l : List ℕ). l ++ rest) (block_laid f) in
    fields_of_pieces f s h (stand_of_laid (pieces_of f) s rest 0 (pieces_sized f t) begins)

-- Where the fields of a block stand at their places, the bytes begin with the block.
pub block_of_fields : (f : Fields) (s : List ℕ) → header_size ≤ f.start → FieldsStand f s → block_bytes f ≡ take (bytes_of f) s
unfolding part_of
block_of_fields f s h t =
    block_laid f
    ∙ laid_of_stand (pieces_of f) s 0 (pieces_of_fields f s h t)
    ∙ ap (λ (n : ℕ). take n s) (pieces_together f h)

-- ---- the tests of the writer

-- Fields that pass every test are written as their block.
pub pack_passed : (k : Kind) (f : Fields) (output : List ℕ) → kind_of f.number ≡ Some k → f.address ≡ base_of k
    → fits_file k (length f.image) ≡ true → header_size ≤ f.start → texts_in f ≡ true → bytes_of f ≤ length output
    → pack_of f output ≡ written (block_bytes f) output
unfolding pack_of
pack_passed k f output known based sized start texts room =
    rw (
      known,
      eq-eqb f.address (base_of k) based,
      sized,
      le-leb header_size f.start start,
      texts,
      le-leb (bytes_of f) (length output) room,
    )

-- The tests that fields have passed.
pub record Accepted (f : Fields) (output : List ℕ) : Type 0 where
  pub kind : Kind
  pub known : kind_of f.number ≡ Some kind
  pub based : f.address ≡ base_of kind
  pub sized : fits_file kind (length f.image) ≡ true
  pub behind_header : header_size ≤ f.start
  pub texts : texts_in f ≡ true
  pub room : bytes_of f ≤ length output

-- Where a test stands before an answer that bytes were written, it was passed, and what stands behind it is that answer.
went_on : (t : Bool) (refusal : Refusal) (output : List ℕ) (rest : Out) → refusal_number refusal < bytes_written
    → number_in (numbered (unless_out t refusal output rest).answer) ≡ bytes_written → (t ≡ true) × (number_in (numbered rest.answer) ≡ bytes_written)
went_on true refusal output rest less h = (refl, h)
went_on false refusal output rest less h = absurd (omega (arith, h))

-- Fields that were written have passed every test.
pub pack_accepted : (f : Fields) (output : List ℕ) → number_in (numbered (pack_of f output).answer) ≡ bytes_written → Accepted f output
unfolding pack_of
pack_accepted f output h = go (kind_of f.number) refl h
  where
    behind_kind : Option Kind → Out
    behind_kind known =
        unless_out (pairs known f.address) wrong_type output
        (unless_out (fits known (length f.image)) wrong_image_length output
        (unless_out (leb header_size f.start) wrong_start output
        (unless_out (texts_in f) not_zero_filled output
        (unless_out (leb (bytes_of f) (length output)) no_room output
        (written (block_bytes f) output)))))

    go : (known : Option Kind) → kind_of f.number ≡ known → number_in (numbered (behind_kind known).answer) ≡ bytes_written → Accepted f output
    go None e r = let z : refusal_number wrong_type ≡ bytes_written = r in absurd (omega (arith, z))
    go (Some k) e r =
        let at_base = went_on (eqb f.address (base_of k)) wrong_type output _ (omega arith) r in
        let fits_file_law = went_on (fits_file k (length f.image)) wrong_image_length output _ (omega arith) at_base.1 in
        let starts = went_on (leb header_size f.start) wrong_start output _ (omega arith) fits_file_law.1 in
        let zeros = went_on (texts_in f) not_zero_filled output _ (omega arith) starts.1 in
        let ends = went_on (leb (bytes_of f) (length output)) no_room output _ (omega arith) zeros.1 in
        record {
          kind = k;
          known = e;
          based = eqb-true f.address (base_of k) at_base.0;
          sized = fits_file_law.0;
          behind_header = leb-true header_size f.start starts.0;
          texts = zeros.0;
          room = leb-true (bytes_of f) (length output) ends.0;
        }

-- ---- what the writer lays adds up to the block

-- Every piece laid at its place is the block written over the front of the output.
pub block_built : (f : Fields) (out : List ℕ) → header_size ≤ f.start → texts_in f ≡ true → bytes_of f ≤ length out
    → lay_all (lay_all out 0 (header_pieces f)) header_size (body_pieces f) ≡ over (block_bytes f) out
block_built f out start texts room =
    let sizes = pieces_sized f (texts_of_test f texts) in
    let fits : 0 + size_of_all (pieces_of f) ≤ length out = omega (arith, pieces_together f start) in
    rw over_nil at (lay_all_law (pieces_of f) [] out 0 refl sizes fits) ∙ ap (λ (front : List ℕ). over front out) (sym (block_laid f))

-- The three runs behind the header, as they are laid.
pub body_built : (f : Fields) (out : List ℕ) → header_size ≤ f.start
    → laid
    (laid (laid out header_size (replicate (f.start - header_size) 0)) f.start f.image)
    (f.start + length f.image)
    (spelled 4 (xor_words f.image))
    ≡ lay_all out header_size (body_pieces f)
body_built f out h = let behind_gap : header_size + (f.start - header_size) ≡ f.start = omega arith in rw behind_gap

-- An image that a known type may have is no longer than the longest one.
pub fits_short : (k : Option Kind) (n : ℕ) → fits k n ≡ true → n ≤ longest_image
fits_short (Some k) n h = image_short k n h
fits_short None n h = absurd (false≢true h)
