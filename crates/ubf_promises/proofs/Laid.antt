-- U2: the walk's blocks, laid end to end, are the file; or the first faulty block is given, and all before it is right. An empty file
-- is refused.
use Rattle.refusals.specs.declared.Refusal.{Refusal}
use Prim.Native.Nat.{ℕ, zero, suc, ◌+◌, ◌-◌, ◌≤◌, ◌<◌}
use Rattle.std.specs.Prelude.{List, [], ◌∷◌, ◌≡◌, length, drop, Err, Ok, Result}
use Rattle.std.proofs.Math.Path.{refl}
use Rattle.std.proofs.Common.{ap, arith, length-drop, drop-drop}
use Rattle.refusals.specs.Refusals.{file_ends}
use Rattle.ubf_model.specs.Answers.{found_told, nth_told}
use Rattle.ubf_model.specs.Block.{block_of, size_of}
use Rattle.ubf_model.proofs.BlockLaws.{block_within, block_some}
use Rattle.ubf_model.proofs.WalkLaws.{walk_refused, nth_refused}
use Rattle.ubf_promises.specs.Promises.{EndsFrom, WalkLaid, EmptyFile}
use Rattle.ubf_model.specs.Walk.{Standing, standing, Ending, whole, fault, Walked, go_on, walk_on, walk_by, walk_from}
use Rattle.ubf_model.specs.declared.block.Block.{Block}

-- A walk from a place on lays the file out.
abbrev Lays : List ℕ → ℕ → Walked → Type 0
Lays file from w = EndsFrom file from w.blocks w.ending

module _ (file : List ℕ) where
  -- A block that was read at a place stands before the blocks laid out behind it.
  block_lays : (from : ℕ) (b : Block) (bs : List Standing) (e : Ending) → block_of (drop from file) ≡ Ok b
      → EndsFrom file (from + size_of b) bs e → EndsFrom file from (standing b from ∷ bs) e
  block_lays from b bs whole here h = ((refl, here, h.0), h.1)
  block_lays from b bs (fault number place) here h = ((refl, here, h.0), h.1, h.2)

  -- Behind a block the file ends where nothing remains; else the walk from there lays out what remains.
  go_on_lays : (next : ℕ → List ℕ → Walked) (place : ℕ) (rest : List ℕ) → drop place file ≡ rest → 0 < place → place ≤ length file
      → (place ≤ length file - 1 → Lays file place (next place rest)) → Lays file place (go_on next place rest)
  go_on_lays next place [] e past within h = (omega (arith, length-drop place file, ap length e), omega arith)
  go_on_lays next place (x ∷ rest) e past within h = h (omega (arith, length-drop place file, ap length e))

  -- A walk lays the file out from a place on, if it does so from every later place.
  walk_on_lays : (next : ℕ → List ℕ → Walked) (place : ℕ) → place ≤ length file - 1
      → ((p : ℕ) → place < p → p ≤ length file - 1 → Lays file p (next p (drop p file)))
      → (x : Result Block Refusal) → block_of (drop place file) ≡ x → Lays file place (walk_on next x place (drop place file))
  walk_on_lays next place within later (Err number) e = (refl, ap found_told e, omega arith)
  walk_on_lays next place within later (Ok b) e =
      let s : List ℕ = drop place file in
      let on : ℕ = place + size_of b in
      let further : place < on = omega (arith, block_some s b e) in
      let inside : on ≤ length file = omega (arith, block_within s b e, length-drop place file) in
      let rest : Walked = go_on next on (drop on file) in
      rw (drop-drop (size_of b) place file)
      (block_lays place b rest.blocks rest.ending e
      (go_on_lays next on (drop on file) refl (omega (arith, further)) inside (later on further)))

  -- A walk of enough blocks lays the file out from a place on.
  walk_by_lays : (most place : ℕ) → place ≤ length file - 1 → length file < place + most
      → Lays file place (walk_by most place (drop place file))
  unfolding walk_by
  walk_by_lays zero place within enough = absurd (omega arith)
  walk_by_lays (suc most) place within enough =
      walk_on_lays (walk_by most) place within (λ p past inside. walk_by_lays most p inside (omega arith))
      (block_of (drop place file)) refl

-- The walk over a file lays it out, up to its end or to the first faulty block.
pub walk_laid : WalkLaid
unfolding walk_from
walk_laid file = walk_by_lays file (suc (length file)) 0 (omega arith) (omega arith)

-- No byte is there, and 208 are asked for.
no_header : block_of [] ≡ Err file_ends
unfolding block_of
no_header = refl

-- An empty file is refused with 4.
pub empty_file : EmptyFile
empty_file = (walk_refused 0 file_ends [] no_header, λ n. ap nth_told (nth_refused n 0 0 file_ends [] no_header))
