-- Answers as C is given them: the number and the values of each case, as they stand with its enum, beside one another.
use Rattle.kinds.specs.declared.Kind.{Kind}
use Rattle.refusals.specs.declared.Refusal.{Refusal}
use Rattle.std.specs.Prelude.{ℕ, Bool, true, false, List, ◌≡◌, refl, length, Err, None, Ok, Option, Result, Some}
use Rattle.refusals.specs.Written.{Out, numbered, number_in, count_in}
use Rattle.kinds.specs.Kinds.{base_of}
use Rattle.ubf_model.specs.Answers.{Told, block_told, none_told, found_told, nth_told}
use Rattle.ubf_model.specs.declared.block.Block.{Block}
use Rattle.ubf_model.specs.declared.walk.Nth.{Nth}
use Rattle.exports.specs.declared.files.Answered.{Answered}

-- A call that writes.
pub record WrittenFlat : Type 0 where
  pub answer : ℕ
  pub count : ℕ
  pub output : List ℕ

abbrev pub written_flat : Out → WrittenFlat
written_flat o = record { answer = number_in (numbered o.answer); count = count_in o.answer; output = o.output }

-- A part of the caller's bytes: where it begins, and how many bytes it has.
pub record Stretch : Type 0 where
  pub count : ℕ
  pub place : ℕ

abbrev pub stretch_of : ℕ → List ℕ → Stretch
stretch_of place part = record { count = length part; place = place }

-- The flash address of a type's images, if there is such a type.
pub record AddressFlat : Type 0 where
  pub known : Bool
  pub address : ℕ

abbrev pub address_flat : Option Kind → AddressFlat
address_flat (Some kind) = record { known = true; address = base_of kind }
address_flat None = record { known = false; address = 0 }

-- What is told of blocks, as the struct that the calls fill.
abbrev pub flat_of : Told → Answered
flat_of t = record {
  answer = t.number;
  kind = t.kind;
  extent = t.extent;
  start = t.start;
  check = t.check;
  place = t.place;
  count = t.count;
}

abbrev pub with_block : Block → ℕ → Answered
with_block b place = flat_of (block_told b place)

abbrev pub without_block : ℕ → ℕ → ℕ → Answered
without_block number place count = flat_of (none_told number place count)

abbrev pub found_flat : Result Block Refusal → Answered
found_flat f = flat_of (found_told f)

abbrev pub nth_flat : Nth → Answered
nth_flat n = flat_of (nth_told n)

-- A block at the front has no other place and no count beside it.
pub found_nowhere : (f : Result Block Refusal) → record {
  answer = (found_flat f).answer;
  kind = (found_flat f).kind;
  extent = (found_flat f).extent;
  start = (found_flat f).start;
  check = (found_flat f).check;
  place = 0;
  count = 0;
} ≡ found_flat f
found_nowhere (Ok b) = refl
found_nowhere (Err number) = refl
