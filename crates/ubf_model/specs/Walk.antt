-- The walk over the blocks of a file: they follow one another until the file ends.
use Rattle.refusals.specs.declared.Refusal.{Refusal}
use Rattle.std.specs.Prelude.{ℕ, zero, suc, ◌+◌, List, [], ◌∷◌, length, drop, Err, Ok, Result}
use Rattle.ubf_model.specs.Block.{block_of, size_of}
use Rattle.ubf_model.specs.declared.block.Block.{Block}
use Rattle.ubf_model.specs.declared.walk.Nth.{Nth}
use Rattle.ubf_model.specs.declared.walk.Nth.TheVariants.{Found as NthFound, Past, Refused as NthRefused}

-- A block and its place in the file.
pub record Standing : Type 0 where
  pub block : Block
  pub place : ℕ

abbrev pub standing : Block → ℕ → Standing
standing b place = record { block = b; place = place }

-- A walk ends with the file, or at the first faulty block: its refusal and place.
pub data Ending : Type 0 where
  whole : Ending
  fault : Refusal → ℕ → Ending

-- What a walk finds: the good blocks in order, and how it ends.
pub record Walked : Type 0 where
  pub blocks : List Standing
  pub ending : Ending

abbrev pub ends : Ending → Walked
ends e = record { blocks = []; ending = e }

abbrev pub and_then : Standing → Walked → Walked
and_then b w = record { blocks = b ∷ w.blocks; ending = w.ending }

-- Where nothing is left, the file ends well; else the walk goes on from the next place.
abbrev pub go_on : (ℕ → List ℕ → Walked) → ℕ → List ℕ → Walked
go_on next place [] = ends whole
go_on next place (b ∷ bs) = next place (b ∷ bs)

-- A faulty block ends the walk. Behind a good one it goes on with what remains.
abbrev pub walk_on : (ℕ → List ℕ → Walked) → Result Block Refusal → ℕ → List ℕ → Walked
walk_on next (Err refusal) place s = ends (fault refusal place)
walk_on next (Ok b) place s = and_then (standing b place) (go_on next (place + size_of b) (drop (size_of b) s))

-- At most so many blocks; no file has more blocks than bytes.
unfoldable pub walk_by : ℕ → ℕ → List ℕ → Walked
walk_by zero place s = ends whole
walk_by (suc most) place s = walk_on (walk_by most) (block_of s) place s

-- The walk from a place on, where some bytes remain.
unfoldable pub walk_from : ℕ → List ℕ → Walked
walk_from place s = walk_by (suc (length s)) place s

-- The walk over a file. An empty file has no block, so its first one is faulty.
abbrev pub walk_of : List ℕ → Walked
walk_of file = walk_from 0 file

-- The n-th block of a walk, counted from 0, with so many blocks before it: the block and its place; or how many blocks there are,
-- where they are too few; or the first fault, and how many blocks stand before it.
abbrev pub nth_in : ℕ → ℕ → List Standing → Ending → Nth
nth_in n before [] whole = Past before
nth_in n before [] (fault refusal place) = NthRefused refusal place before
nth_in zero before (b ∷ bs) e = NthFound b.block b.place
nth_in (suc n) before (b ∷ bs) e = nth_in n (suc before) bs e

abbrev pub nth_of : ℕ → ℕ → Walked → Nth
nth_of n before w = nth_in n before w.blocks w.ending

-- The n-th block from a place on, and of a file.
unfoldable pub nth_from : ℕ → ℕ → ℕ → List ℕ → Nth
nth_from n before place s = nth_of n before (walk_from place s)

abbrev pub block_at : ℕ → List ℕ → Nth
block_at n file = nth_from n 0 0 file
