-- Walks that break U2, or take an empty file for a whole one.
use Rattle.refusals.specs.declared.Refusal.{Refusal}
use Rattle.ubf_model.specs.declared.block.Block.{Block}
use Rattle.std.specs.Prelude.{ℕ, zero, suc, ◌+◌, ◌-◌, List, [], ◌∷◌, ◌++◌, ◌≡◌, leb, length, Result}
use Rattle.std.proofs.Common.{ap, arith}
use Rattle.octets.specs.Octets.{spelled, little, number_at, part_of, same_bytes, all_zero, text_length, zero_filled, xor_words_from}
use Rattle.kinds.specs.Kinds.{kind_of, fits_file}
use Rattle.refusals.specs.Refusals.{file_ends, wrong_start, refusal_number}
use Rattle.ubf_model.specs.Answers.{Told, block_found, blocks_past}
use Rattle.ubf_model.specs.Block.{header_size, start_in, unless, block_of, kind_block, filled_in, text_fits, texts_fit}
use Rattle.ubf_model.specs.Pack.{filled, block_bytes}
use Rattle.ubf_model.specs.Walk.{Standing, Ending, whole, fault, Walked, ends, walk_on, walk_by, walk_from, walk_of, nth_from, block_at}
use Rattle.ubf_model.specs.declared.walk.Nth.{Nth}
use Rattle.ubf_model.specs.declared.walk.Nth.TheVariants.{Found as NthFound, Past, Refused as NthRefused}
use Rattle.ubf_promises.specs.Promises.{LaidOut, WalkLaidOf, Before, NthLaidOf, EmptyFileOf}
use Rattle.ubf_promises.proofs.Tiny.{tiny, tiny_size}

-- Our walk, but the last block is lost.
abbrev pub but_last : List Standing → List Standing
but_last [] = []
but_last (b ∷ []) = []
but_last (b ∷ c ∷ bs) = b ∷ but_last (c ∷ bs)

abbrev pub loses_last : List ℕ → Walked
loses_last file = record { blocks = but_last (walk_of file).blocks; ending = (walk_of file).ending }

pub loses_last_refuted : WalkLaidOf loses_last → ⊥
unfolding walk_from walk_by kind_of fits_file block_bytes filled spelled part_of number_at little same_bytes xor_words_from block_of kind_block
    filled_in texts_fit text_fits zero_filled text_length all_zero
loses_last_refuted promise =
    let all = promise (block_bytes tiny) in
    let wrong : 0 ≡ tiny_size = all.0 in
    omega (arith, wrong)

-- Our walk, but CS is counted from the file and not from the block.
abbrev pub from_file : ℕ → List ℕ → Result Block Refusal
from_file place s = unless (leb (place + header_size) (start_in s)) wrong_start (block_of s)

abbrev pub counts_from_file : ℕ → ℕ → List ℕ → Walked
counts_from_file zero place s = ends whole
counts_from_file (suc most) place s = walk_on (counts_from_file most) (from_file place s) place s

pub counts_from_file_refuted : WalkLaidOf (λ (file : List ℕ). counts_from_file (suc (length file)) 0 file) → ⊥
unfolding kind_of fits_file block_bytes filled spelled part_of number_at little same_bytes xor_words_from block_of kind_block filled_in texts_fit
    text_fits zero_filled text_length all_zero
counts_from_file_refuted promise =
    let all = promise (block_bytes tiny ++ block_bytes tiny) in
    let wrong : block_found ≡ refusal_number wrong_start = ap (λ (t : Told). t.number) all.1 in
    omega (arith, wrong)

-- Our walk, but a fault is put one byte further on.
abbrev pub one_on : Ending → Ending
one_on whole = whole
one_on (fault number place) = fault number (place + 1)

abbrev pub faults_one_on : List ℕ → Walked
faults_one_on file = record { blocks = (walk_of file).blocks; ending = one_on (walk_of file).ending }

pub faults_one_on_refuted : WalkLaidOf faults_one_on → ⊥
unfolding walk_from walk_by block_of
faults_one_on_refuted promise =
    let all = promise (0 ∷ []) in
    let wrong : ◌≡◌ {A = ℕ} 0 1 = all.0 in
    omega (arith, wrong)

-- Our walk, but an empty file is whole.
abbrev pub empty_is_whole : List ℕ → Walked
empty_is_whole [] = ends whole
empty_is_whole (b ∷ bs) = walk_of (b ∷ bs)

abbrev faults_in : Ending → ℕ
faults_in whole = 0
faults_in (fault refusal place) = refusal_number refusal

pub empty_is_whole_refuted : EmptyFileOf empty_is_whole block_at → ⊥
empty_is_whole_refuted promise =
    let wrong : 0 ≡ refusal_number file_ends = ap (λ (w : Walked). faults_in w.ending) promise.0 in
    omega (arith, wrong)

-- It is no whole file for U2 either.
pub empty_whole_refuted : WalkLaidOf empty_is_whole → ⊥
empty_whole_refuted promise = let all = promise [] in omega (arith, all.1)

-- ---- searches for the n-th block

-- Ours, but whichever block is asked for, the first is given.
abbrev pub always_first : ℕ → List ℕ → Nth
always_first n file = block_at 0 file

-- No block ends where it begins.
not_empty : (file : List ℕ) (bs : List Standing) → length bs ≡ 1 → LaidOut file 0 bs 0 → ⊥
not_empty file [] one h = omega (arith, one)
not_empty file (b ∷ []) one h = omega (arith, h.2)
not_empty file (b ∷ c ∷ bs) one h = omega (arith, one)

pub always_first_refuted : NthLaidOf always_first → ⊥
unfolding nth_from walk_from walk_by kind_of fits_file block_bytes filled spelled part_of number_at little same_bytes xor_words_from block_of kind_block
    filled_in texts_fit text_fits zero_filled text_length all_zero
always_first_refuted promise =
    let first : Before (block_bytes tiny) 1 0 = (promise (block_bytes tiny) 1).0 in
    not_empty (block_bytes tiny) first.blocks first.many first.laid_out

-- Ours, but the last block is not counted.
abbrev pub one_less : Nth → Nth
one_less (NthFound b place) = NthFound b place
one_less (Past count) = Past (count - 1)
one_less (NthRefused number place count) = NthRefused number place count

-- No block reaches no place but the front.
none_before : (file : List ℕ) (place : ℕ) (bs : List Standing) → length bs ≡ 0 → LaidOut file 0 bs place → 0 ≡ place
none_before file place [] none h = h
none_before file place (b ∷ bs) none h = absurd (omega (arith, none))

pub last_not_counted_refuted : NthLaidOf (λ n file. one_less (block_at n file)) → ⊥
unfolding nth_from walk_from walk_by kind_of fits_file block_bytes filled spelled part_of number_at little same_bytes xor_words_from block_of kind_block
    filled_in texts_fit text_fits zero_filled text_length all_zero
last_not_counted_refuted promise =
    let all : Before (block_bytes tiny) 0 tiny_size = (promise (block_bytes tiny) 1).0 in
    let wrong = none_before (block_bytes tiny) tiny_size all.blocks all.many all.laid_out in
    omega (arith, wrong)

-- Ours, but an empty file has no block and no fault.
abbrev pub empty_has_none : ℕ → List ℕ → Nth
empty_has_none n [] = Past 0
empty_has_none n (b ∷ bs) = block_at n (b ∷ bs)

pub empty_has_none_refuted : EmptyFileOf walk_of empty_has_none → ⊥
empty_has_none_refuted promise =
    let wrong : blocks_past ≡ refusal_number file_ends = ap (λ (t : Told). t.number) (promise.1 0) in
    omega (arith, wrong)
