-- U2, the n-th block: the blocks before it are laid end to end from the file's front.
use Rattle.std.specs.Prelude.{ℕ, zero, suc, ◌+◌, List, [], ◌∷◌, ◌++◌, ◌≡◌, refl, length, drop, Ok}
use Rattle.std.proofs.Common.{sym, ◌∙◌, arith, length-append}
use Rattle.ubf_model.specs.Block.{block_of, size_of}
use Rattle.ubf_model.specs.Walk.{Standing, Ending, whole, fault, nth_in, nth_from, walk_of}
use Rattle.ubf_promises.proofs.Laid.{walk_laid}
use Rattle.ubf_promises.specs.Promises.{LaidOut, EndsFrom, NthStands, NthLaid}

module _ (file : List ℕ) where
  -- One block more behind those that are laid out.
  one_more : (front : List Standing) (from end : ℕ) (b : Standing) → LaidOut file from front end → b.place ≡ end
      → block_of (drop end file) ≡ Ok b.block → LaidOut file from (front ++ (b ∷ [])) (end + size_of b.block)
  one_more [] from end b h at read = rw h (at, read, refl)
  one_more (a ∷ front) from end b h at read = (h.0, h.1, one_more front (from + size_of a.block) end b h.2 at read)

  -- The first block of a walk, and the rest of it.
  first_block : (from : ℕ) (b : Standing) (bs : List Standing) (e : Ending) → EndsFrom file from (b ∷ bs) e
      → (b.place ≡ from) × (block_of (drop from file) ≡ Ok b.block) × EndsFrom file (from + size_of b.block) bs e
  first_block from b bs whole h = (h.0.0, h.0.1, (h.0.2, h.1))
  first_block from b bs (fault number place) h = (h.0.0, h.0.1, (h.0.2, h.1, h.2))

  -- The search, behind the blocks that it has passed.
  search_stands : (n asked : ℕ) (front : List Standing) (from : ℕ) (bs : List Standing) (e : Ending) → LaidOut file 0 front from
      → length front + n ≡ asked → EndsFrom file from bs e → NthStands file asked (nth_in n (length front) bs e)
  search_stands n asked front from [] whole laid sum h =
      (record { blocks = front; many = refl; laid_out = rw (sym h.0) laid }, omega (arith, sum), h.1)
  search_stands n asked front from [] (fault number place) laid sum h =
      (record { blocks = front; many = refl; laid_out = rw (sym h.0) laid }, omega (arith, sum), h.1)
  search_stands zero asked front from (b ∷ bs) e laid sum h =
      let first = first_block from b bs e h in
      (record { blocks = front; many = omega (arith, sum); laid_out = rw first.0 laid }, rw first.0 first.1)
  search_stands (suc n) asked front from (b ∷ bs) e laid sum h =
      let first = first_block from b bs e h in
      let more = one_more front 0 from b laid first.0 first.1 in
      let size : length (front ++ (b ∷ [])) ≡ suc (length front) = length-append front (b ∷ []) ∙ omega arith in
      rw size at
      (search_stands n asked (front ++ (b ∷ [])) (from + size_of b.block) bs e more (omega (arith, sum, size)) first.2)

-- Whichever block is asked for, the answer stands.
pub nth_laid : NthLaid
unfolding nth_from
nth_laid file n = search_stands file n n [] 0 (walk_of file).blocks (walk_of file).ending refl (omega arith) (walk_laid file)
