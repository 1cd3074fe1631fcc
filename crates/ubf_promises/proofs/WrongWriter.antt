-- Writers that break U1.
use Rattle.refusals.specs.declared.Refusal.{Refusal}
use Rattle.std.specs.Prelude.{ℕ, ◌+◌, ◌-◌, List, [], ◌≡◌, refl, leb, length, replicate, get_or, Err, Ok, Result}
use Rattle.std.proofs.Common.{ap, arith}
use Rattle.octets.specs.Octets.{spelled, little, number_at, part_of, over, laid, same_bytes, all_zero, text_length, zero_filled, xor_from, xor_of, xor_words_from}
use Rattle.kinds.specs.Kinds.{kind_of, fits_file}
use Rattle.kinds.specs.declared.Kind.TheVariants.{Upgrade}
use Rattle.refusals.specs.Refusals.{no_room, wrong_type, wrong_start, wrong_image_length, not_zero_filled, wrong_image_check, refusal_number}
use Rattle.refusals.specs.Written.{Out, bytes_written, numbered, number_in, count_in, written}
use Rattle.ubf_model.specs.Answers.{block_found}
use Rattle.ubf_model.specs.Block.{header_size, mark, block_of, kind_block, filled_in, text_fits, texts_fit}
use Rattle.ubf_model.specs.Pack.{filled, block_bytes, bytes_of, pairs, fits, unless_out, pack_of}
use Rattle.ubf_promises.specs.Promises.{Writer, our_reader, block_for, PackWritesOf, PackedReadOf, WrittenReadOf, PackRefusedOf}
use Rattle.ubf_promises.proofs.Tiny.{apart, tiny, tiny_size, broken, tiny_packable, told_number, bytes_of_law, lent}

-- Our writer, but an output of just the size is refused.
abbrev pub spares_room : Writer
spares_room f output = unless_out (leb (bytes_of f + 1) (length output)) no_room output (pack_of f output)

pub spares_room_refuted : PackWritesOf spares_room → ⊥
spares_room_refuted promise =
    let e = promise Upgrade tiny (replicate tiny_size 7) tiny_packable (omega arith) in
    let wrong : refusal_number no_room ≡ bytes_written = ap (λ (o : Out). number_in (numbered o.answer)) e in
    omega (arith, wrong)

-- Our writer, but the texts are not tested.
abbrev pub skips_texts : Writer
skips_texts f output =
    unless_out (pairs (kind_of f.number) f.address) wrong_type output
    (unless_out (fits (kind_of f.number) (length f.image)) wrong_image_length output
    (unless_out (leb header_size f.start) wrong_start output
    (unless_out (leb (bytes_of f) (length output)) no_room output
    (written (block_bytes f) output))))

pub skips_texts_refuted : PackedReadOf skips_texts our_reader → ⊥
unfolding kind_of fits_file block_bytes filled spelled over part_of number_at little same_bytes xor_words_from block_of kind_block filled_in texts_fit
    text_fits zero_filled text_length all_zero
skips_texts_refuted promise =
    let p = promise broken lent (omega arith) tiny_packable.image_bytes refl in
    let wrong : refusal_number not_zero_filled ≡ block_found = ap told_number (p.reads []).fields in
    omega (arith, wrong)

-- Our writer, but the check is the xor of bytes and not of words.
abbrev pub checks_bytes : Writer
checks_bytes f output =
    let o = pack_of f output in
    record { answer = o.answer; output = laid o.output (f.start + length f.image) (spelled 4 (xor_of f.image)) }

pub checks_bytes_refuted : PackedReadOf checks_bytes our_reader → ⊥
unfolding pack_of kind_of fits_file block_bytes filled spelled over laid xor_from part_of number_at little same_bytes xor_words_from block_of
    kind_block filled_in texts_fit text_fits zero_filled text_length all_zero
checks_bytes_refuted promise =
    let p = promise tiny lent (omega arith) tiny_packable.image_bytes refl in
    let wrong : refusal_number wrong_image_check ≡ block_found = ap told_number (p.reads []).fields in
    omega (arith, wrong)

-- Our writer, but another count is reported.
abbrev pub recounted : (ℕ → ℕ) → Result ℕ Refusal → Result ℕ Refusal
recounted change (Ok n) = Ok (change n)
recounted change (Err number) = Err number

abbrev pub counts : (ℕ → ℕ) → Writer
counts change f output = let o = pack_of f output in record { answer = recounted change o.answer; output = o.output }

-- One byte more than was written.
pub counts_one_more_refuted : PackedReadOf (counts (λ n. n + 1)) our_reader → ⊥
unfolding pack_of kind_of fits_file block_bytes filled spelled texts_fit text_fits zero_filled text_length all_zero
counts_one_more_refuted promise =
    let p = promise tiny lent (omega arith) tiny_packable.image_bytes refl in
    let wrong : tiny_size + 1 ≡ tiny_size = p.counted in
    omega (arith, wrong)

-- One byte less.
pub counts_one_less_refuted : PackedReadOf (counts (λ n. n - 1)) our_reader → ⊥
unfolding pack_of kind_of fits_file block_bytes filled spelled texts_fit text_fits zero_filled text_length all_zero
counts_one_less_refuted promise =
    let p = promise tiny lent (omega arith) tiny_packable.image_bytes refl in
    let wrong : tiny_size - 1 ≡ tiny_size = p.counted in
    omega (arith, wrong)

-- Our writer, but the output past the block is cleared.
abbrev pub clears_rest : Writer
clears_rest f output =
    let o = pack_of f output in
    record { answer = o.answer; output = laid o.output (bytes_of f) (replicate (length output - bytes_of f) 0) }

pub clears_rest_refuted : PackedReadOf clears_rest our_reader → ⊥
unfolding pack_of kind_of fits_file block_bytes filled spelled over laid texts_fit text_fits zero_filled text_length all_zero
clears_rest_refuted promise =
    let p = promise tiny lent (omega arith) tiny_packable.image_bytes refl in
    let wrong : ◌≡◌ {A = ℕ} 0 7 = ap (λ (l : List ℕ). get_or l 0 0) p.past in
    omega (arith, wrong)

-- Our writer, but every image is laid right behind the header.
abbrev pub starts_behind_header : Writer
starts_behind_header f output = pack_of (record {
  number = f.number;
  address = f.address;
  start = header_size;
  model = f.model;
  version = f.version;
  name = f.name;
  date = f.date;
  image = f.image;
}) output

pub starts_behind_header_refuted : WrittenReadOf starts_behind_header our_reader → ⊥
unfolding pack_of kind_of fits_file block_bytes filled spelled over part_of number_at little same_bytes xor_words_from block_of kind_block filled_in
    texts_fit text_fits zero_filled text_length all_zero
starts_behind_header_refuted promise =
    let e = promise (block_bytes apart) (block_for Upgrade apart) (bytes_of_law (block_bytes apart) refl) refl lent (omega arith) in
    let wrong : ◌≡◌ {A = ℕ} 216 220 = ap (λ (o : Out). count_in o.answer) e in
    omega (arith, wrong)

-- Our writer, but the room is tested first.
abbrev pub tests_room_first : Writer
tests_room_first f output = unless_out (leb (bytes_of f) (length output)) no_room output (pack_of f output)

pub tests_room_first_refuted : PackRefusedOf tests_room_first → ⊥
unfolding kind_of fits_file texts_fit text_fits zero_filled text_length all_zero
tests_room_first_refuted promise =
    let p = promise broken [] in
    let wrong : refusal_number no_room ≡ refusal_number not_zero_filled = p.0 in
    omega (arith, wrong)

-- Our writer, but the mark is laid before the tests.
abbrev pub marks_first : Writer
marks_first f output = let o = pack_of f output in record { answer = o.answer; output = laid o.output 0 mark }

pub marks_first_refuted : PackRefusedOf marks_first → ⊥
unfolding pack_of kind_of fits_file laid texts_fit text_fits zero_filled text_length all_zero
marks_first_refuted promise =
    let p = promise broken lent in
    let same = p.1 (λ e. let z : refusal_number not_zero_filled ≡ bytes_written = e in omega (arith, z)) in
    let wrong : ◌≡◌ {A = ℕ} 0x41 7 = ap (λ (l : List ℕ). get_or l 0 0) same in
    omega (arith, wrong)
