-- Readers that break U1.
use Rattle.kinds.specs.declared.Kind.{Kind}
use Rattle.refusals.specs.declared.Refusal.{Refusal}
use Rattle.ubf_model.specs.declared.block.Block.{Block}
use Rattle.std.specs.Prelude.{ℕ, ◌+◌, Bool, true, cond, ◌&&◌, List, [], ◌∷◌, ◌++◌, ◌≡◌, refl, eqb, leb, ltb, length, take, drop, replicate, get_or, Err, None, Ok, Option, Result, Some}
use Rattle.std.proofs.Common.{ap, arith}
use Rattle.octets.specs.Octets.{spelled, little, number_at, part_of, over, laid, same_bytes, all_zero, text_length, zero_filled, xor_from, xor_of, xor_words, xor_words_from}
use Rattle.kinds.specs.Kinds.{kind_of, base_of, fits_file}
use Rattle.kinds.specs.declared.Kind.TheVariants.{Upgrade}
use Rattle.refusals.specs.Refusals.{file_ends, wrong_mark, wrong_type, wrong_start, wrong_image_length, not_zero_filled, wrong_image_check, refusal_number}
use Rattle.refusals.specs.Written.{Out, bytes_written, numbered, number_in}
use Rattle.ubf_model.specs.Answers.{block_found}
use Rattle.ubf_model.specs.Block.{header_size, mark_place, model_size, mark_in, mark, length_in, address_in, start_in, type_in, image_in, check_in, model_in, version_in, name_in, date_in, image_of}
use Rattle.ubf_model.specs.Block.{unless, fields_of, block_of, kind_block, known_block, filled_in, text_fits, texts_fit}
use Rattle.ubf_model.specs.Pack.{Fields, filled, block_bytes, pack_of}
use Rattle.ubf_promises.specs.Promises.{Reader, block_for, ReadWrittenOf, WrittenReadOf, ReadRefusedOf}
use Rattle.ubf_promises.proofs.Tiny.{tiny, broken, tiny_packable, told_number, bytes_of_law, lent}

-- Our reader, but the model is read at the block's front.
abbrev pub model_at_front : Reader
model_at_front = record {
  block = block_of;
  model = λ (s : List ℕ). part_of s mark_place model_size;
  version = version_in;
  name = name_in;
  date = date_in;
  image = image_of;
}

pub model_at_front_refuted : ReadWrittenOf model_at_front → ⊥
unfolding block_bytes filled spelled part_of
model_at_front_refuted promise =
    let r = promise Upgrade tiny [] tiny_packable in
    let wrong : ◌≡◌ {A = ℕ} 0x41 0 = ap (λ (l : List ℕ). get_or l 0 0) r.model in
    omega (arith, wrong)

-- ---- our reader with another test

-- The tests that are varied: how many header bytes are asked for, the mark, CS, the zeros, the check. Ours:
abbrev pub Test : Type 0
Test = List ℕ → Bool

abbrev pub marks_aT : Test
marks_aT s = same_bytes (mark_in s) mark

abbrev pub starts_from : ℕ → Test
starts_from least s = leb least (start_in s)

abbrev pub checks_words : Test
checks_words s = eqb (check_in s) (xor_words (image_in s))

abbrev pub type_by : Test → Test → Test → Option Kind → List ℕ → Result Block Refusal
type_by starts zeros checked None s = Err wrong_type
type_by starts zeros checked (Some k) s =
    unless (eqb (address_in s) (base_of k)) wrong_type
    (unless (fits_file k (length_in s)) wrong_image_length
    (unless (starts s) wrong_start
    (unless (leb (start_in s + length_in s + 4) (length s)) file_ends
    (unless (zeros s) not_zero_filled
    (unless (checked s) wrong_image_check
    (Ok (fields_of k s)))))))

-- Our reader, but blocks are found in another way.
abbrev pub finding : (List ℕ → Result Block Refusal) → Reader
finding block = record { block = block; model = model_in; version = version_in; name = name_in; date = date_in; image = image_of }

abbrev pub reader_by : ℕ → Test → Test → Test → Test → Reader
reader_by header marked starts zeros checked =
    finding (λ s. unless (leb header (length s)) file_ends (unless (marked s) wrong_mark (type_by starts zeros checked (kind_of (type_in s)) s)))

-- With our own tests it is our reader.
pub by_our_tests : (s : List ℕ) → (reader_by header_size marks_aT (starts_from header_size) filled_in checks_words).block s ≡ block_of s
unfolding block_of kind_block
by_our_tests s = go (kind_of (type_in s))
  where
    behind_mark : Result Block Refusal → Result Block Refusal
    behind_mark rest = unless (leb header_size (length s)) file_ends (unless (marks_aT s) wrong_mark rest)

    go : (type : Option Kind) → behind_mark (type_by (starts_from header_size) filled_in checks_words type s) ≡ behind_mark (known_block type s)
    go (Some k) = refl
    go None = refl

-- No test at all.
abbrev pub any : Test
any s = true

-- The check is taken for the xor of bytes and not of words: a good block is refused.
abbrev pub check_over_bytes : Reader
check_over_bytes = reader_by header_size marks_aT (starts_from header_size) filled_in (λ s. eqb (check_in s) (xor_of (image_in s)))

pub check_over_bytes_refuted : ReadWrittenOf check_over_bytes → ⊥
unfolding kind_of fits_file block_bytes filled spelled part_of number_at little same_bytes xor_from xor_words_from filled_in texts_fit text_fits
    zero_filled text_length all_zero
check_over_bytes_refuted promise =
    let r = promise Upgrade tiny [] tiny_packable in
    let wrong : refusal_number wrong_image_check ≡ block_found = ap told_number r.fields in
    omega (arith, wrong)

-- Any mark will do: what was read as "AU" is written as "AT".
abbrev pub any_mark : Reader
any_mark = reader_by header_size any (starts_from header_size) filled_in checks_words

abbrev other_mark : List ℕ
other_mark = laid (block_bytes tiny) 1 (0x55 ∷ [])

pub any_mark_refuted : WrittenReadOf pack_of any_mark → ⊥
unfolding pack_of kind_of fits_file block_bytes filled spelled over laid part_of number_at little same_bytes xor_words_from filled_in texts_fit
    text_fits zero_filled text_length all_zero
any_mark_refuted promise =
    let e = promise other_mark (block_for Upgrade tiny) (bytes_of_law other_mark refl) refl lent (omega arith) in
    let wrong : ◌≡◌ {A = ℕ} 0x54 0x55 = ap (λ (o : Out). get_or o.output 1 0) e in
    omega (arith, wrong)

-- A start of 0xCF will do: the image begins with the last byte of the header, and the writer refuses what was read.
abbrev pub starts_at207 : Reader
starts_at207 = reader_by header_size marks_aT (starts_from 0xCF) filled_in checks_words

abbrev early : Fields
early = record { number = 2; address = 0; start = 0xCF; model = []; version = []; name = []; date = []; image = 0 ∷ 2 ∷ 3 ∷ 4 ∷ [] }

abbrev early_block : List ℕ
early_block = take 207 (block_bytes early) ++ drop 208 (block_bytes early)

pub starts_at_207_refuted : WrittenReadOf pack_of starts_at207 → ⊥
unfolding pack_of kind_of fits_file block_bytes filled spelled over part_of number_at little same_bytes xor_words_from filled_in texts_fit text_fits
    zero_filled text_length all_zero
starts_at_207_refuted promise =
    let e = promise early_block (block_for Upgrade early) (bytes_of_law early_block refl) refl lent (omega arith) in
    let wrong : refusal_number wrong_start ≡ bytes_written = ap (λ (o : Out). number_in (numbered o.answer)) e in
    omega (arith, wrong)

-- Any text and gap will do: the writer refuses what was read.
abbrev pub any_text : Reader
any_text = reader_by header_size marks_aT (starts_from header_size) any checks_words

pub any_text_refuted : WrittenReadOf pack_of any_text → ⊥
unfolding pack_of kind_of fits_file block_bytes filled spelled over part_of number_at little same_bytes xor_words_from texts_fit text_fits zero_filled
    text_length all_zero
any_text_refuted promise =
    let e = promise (block_bytes broken) (block_for Upgrade broken) (bytes_of_law (block_bytes broken) refl) refl lent (omega arith) in
    let wrong : refusal_number not_zero_filled ≡ bytes_written = ap (λ (o : Out). number_in (numbered o.answer)) e in
    omega (arith, wrong)

-- 207 header bytes will do: where no more stand the mark is looked at.
abbrev pub asks_for207 : Reader
asks_for207 = reader_by 207 marks_aT (starts_from header_size) filled_in checks_words

pub asks_for_207_refuted : ReadRefusedOf asks_for207 → ⊥
unfolding part_of same_bytes
asks_for_207_refuted promise =
    let wrong : refusal_number wrong_mark ≡ refusal_number file_ends = promise (replicate 207 0) in
    omega (arith, wrong)

-- CS is tested before the image's length.
abbrev pub start_first : Result Block Refusal → List ℕ → Result Block Refusal
start_first (Ok b) s = Ok b
start_first (Err refusal) s =
    cond (eqb (refusal_number refusal) (refusal_number wrong_image_length) && ltb (start_in s) header_size) (Err wrong_start) (Err refusal)

-- No image, and it starts within the header: wrong twice.
abbrev twice : Fields
twice = record { number = 2; address = 0; start = 0xCF; model = []; version = []; name = []; date = []; image = [] }

pub start_first_refuted : ReadRefusedOf (finding (λ s. start_first (block_of s) s)) → ⊥
unfolding kind_of fits_file block_bytes filled spelled part_of number_at little same_bytes xor_words_from block_of kind_block
start_first_refuted promise =
    let wrong : refusal_number wrong_start ≡ refusal_number wrong_image_length = promise (block_bytes twice) in
    omega (arith, wrong)
