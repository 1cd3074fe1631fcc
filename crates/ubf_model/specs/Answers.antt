-- What each case of an answer about blocks says, in numbers: the answer's own, and the values of the case, 0 where it has none. A refusal
-- has document 01's number; what is no refusal has none there, and is numbered from 100 on, as C is given it.
use Rattle.refusals.specs.Refusals.{refusal_number}
use Rattle.refusals.specs.declared.Refusal.{Refusal}
use Rattle.std.specs.Prelude.{ℕ, Err, Ok, Result}
use Rattle.kinds.specs.Kinds.{number_of}
use Rattle.ubf_model.specs.declared.block.Block.{Block}
use Rattle.ubf_model.specs.declared.walk.Nth.{Nth}
use Rattle.ubf_model.specs.declared.walk.Nth.TheVariants as nth

abbrev pub block_found : ℕ
block_found = 104

abbrev pub blocks_past : ℕ
blocks_past = 105

pub record Told : Type 0 where
  pub number : ℕ
  pub kind : ℕ
  pub extent : ℕ
  pub start : ℕ
  pub check : ℕ
  pub place : ℕ
  pub count : ℕ

-- A block at its place: its type's number and its fields.
abbrev pub block_told : Block → ℕ → Told
block_told b place = record {
  number = block_found;
  kind = number_of b.kind;
  extent = b.extent;
  start = b.start;
  check = b.check;
  place = place;
  count = 0;
}

-- No block: a number, a place, and how many blocks were passed.
abbrev pub none_told : ℕ → ℕ → ℕ → Told
none_told number place count = record { number = number; kind = 0; extent = 0; start = 0; check = 0; place = place; count = count }

-- The block at the front, or its refusal.
abbrev pub found_told : Result Block Refusal → Told
found_told (Ok b) = block_told b 0
found_told (Err refusal) = none_told (refusal_number refusal) 0 0

-- The n-th block and its place; how many blocks there are; or the first fault's number and place, and the blocks before it.
abbrev pub nth_told : Nth → Told
nth_told (nth.Found b place) = block_told b place
nth_told (nth.Past count) = none_told blocks_past 0 count
nth_told (nth.Refused refusal place count) = none_told (refusal_number refusal) place count
