-- The laws of the walk: one block at a time, as the code takes them.
use Rattle.refusals.specs.declared.Refusal.{Refusal}
use Rattle.std.specs.Prelude.{ℕ, zero, suc, ◌+◌, ◌<◌, List, [], ◌∷◌, ◌≡◌, refl, length, drop, Err, Ok, Result}
use Rattle.std.proofs.Common.{ap, ◌∙◌, arith, length-drop}
use Rattle.ubf_model.specs.Block.{block_of, size_of}
use Rattle.ubf_model.proofs.BlockLaws.{block_within, block_some}
use Rattle.ubf_model.specs.Walk.{Walked, whole, fault, standing, ends, and_then, go_on, walk_on, walk_by, walk_from}
use Rattle.ubf_model.specs.Walk.{nth_of, nth_from}
use Rattle.ubf_model.specs.declared.block.Block.{Block}
use Rattle.ubf_model.specs.declared.walk.Nth.TheVariants.{Found as NthFound, Past, Refused as NthRefused}

-- ---- one step of the walk

-- Two ways to go on that agree on what remains go on alike.
go_on_same : (next other : ℕ → List ℕ → Walked) (place : ℕ) (rest : List ℕ) → next place rest ≡ other place rest
    → go_on next place rest ≡ go_on other place rest
go_on_same next other place [] e = refl
go_on_same next other place (x ∷ rest) e = e

-- Where nothing remains the walk ends with the file.
go_on_end : (next : ℕ → List ℕ → Walked) (place : ℕ) (rest : List ℕ) → length rest ≡ 0 → go_on next place rest ≡ ends whole
go_on_end next place [] h = refl
go_on_end next place (x ∷ rest) h = absurd (omega arith)

-- Where something remains the walk goes on with it.
go_on_more : (next : ℕ → List ℕ → Walked) (place : ℕ) (rest : List ℕ) → 0 < length rest
    → go_on next place rest ≡ next place rest
go_on_more next place [] h = absurd (omega arith)
go_on_more next place (x ∷ rest) h = refl

-- Two ways to go on that agree on every shorter run of bytes walk alike: a good block is not empty, so less remains behind it.
walk_on_same : (next other : ℕ → List ℕ → Walked) (place : ℕ) (s : List ℕ)
    → ((p : ℕ) (t : List ℕ) → length t < length s → next p t ≡ other p t)
    → walk_on next (block_of s) place s ≡ walk_on other (block_of s) place s
walk_on_same next other place s same = go (block_of s) refl
  where
    go : (x : Result Block Refusal) → block_of s ≡ x → walk_on next x place s ≡ walk_on other x place s
    go (Err number) e = refl
    go (Ok b) e =
        let rest : List ℕ = drop (size_of b) s in
        let less : length rest < length s = omega (arith, length-drop (size_of b) s, block_within s b e, block_some s b e) in
        ap (and_then (standing b place)) (go_on_same next other (place + size_of b) rest (same (place + size_of b) rest less))

-- How many blocks a walk may take does not matter, once they are more than the bytes.
pub walk_enough : (f g place : ℕ) (s : List ℕ) → length s < f → length s < g → walk_by f place s ≡ walk_by g place s
unfolding walk_by
walk_enough zero g place s hf hg = absurd (omega arith)
walk_enough (suc f) zero place s hf hg = absurd (omega arith)
walk_enough (suc f) (suc g) place s hf hg =
    walk_on_same (walk_by f) (walk_by g) place s (λ p t less. walk_enough f g p t (omega arith) (omega arith))

-- The walk looks at the block at the front, and goes on as the walk from the next place.
pub walk_step : (place : ℕ) (s : List ℕ) → walk_from place s ≡ walk_on walk_from (block_of s) place s
unfolding walk_from walk_by
walk_step place s =
    walk_on_same (walk_by (length s)) walk_from place s
    (λ p t less. walk_enough (length s) (suc (length t)) p t less (omega arith))

-- At a faulty block the walk ends.
pub walk_refused : (place : ℕ) (refusal : Refusal) (s : List ℕ) → block_of s ≡ Err refusal → walk_from place s ≡ ends (fault refusal place)
walk_refused place refusal s e = walk_step place s ∙ rw e

-- At a good block the walk is that block, and behind it whatever the walk over what remains is.
walk_good : (place : ℕ) (s : List ℕ) (b : Block) (w : Walked) → block_of s ≡ Ok b
    → go_on walk_from (place + size_of b) (drop (size_of b) s) ≡ w → walk_from place s ≡ and_then (standing b place) w
walk_good place s b w e rest = walk_step place s ∙ rw e (ap (and_then (standing b place)) rest)

-- At a good block that takes all bytes, nothing follows it.
walk_last : (place : ℕ) (s : List ℕ) (b : Block) → block_of s ≡ Ok b → size_of b ≡ length s
    → walk_from place s ≡ and_then (standing b place) (ends whole)
walk_last place s b e all =
    walk_good place s b (ends whole) e
    (go_on_end walk_from (place + size_of b) (drop (size_of b) s) (omega (arith, length-drop (size_of b) s)))

-- At a good block that leaves some bytes, the walk over these follows it.
walk_next : (place : ℕ) (s : List ℕ) (b : Block) → block_of s ≡ Ok b → size_of b < length s
    → walk_from place s ≡ and_then (standing b place) (walk_from (place + size_of b) (drop (size_of b) s))
walk_next place s b e more =
    walk_good place s b (walk_from (place + size_of b) (drop (size_of b) s)) e
    (go_on_more walk_from (place + size_of b) (drop (size_of b) s) (omega (arith, length-drop (size_of b) s)))

-- ---- the n-th block, with so many blocks before it

-- At a faulty block the search ends with its number and place, whichever block is looked for.
pub nth_refused : (n before place : ℕ) (refusal : Refusal) (s : List ℕ) → block_of s ≡ Err refusal
    → nth_from n before place s ≡ NthRefused refusal place before
unfolding nth_from
nth_refused n before place refusal s e = ap (nth_of n before) (walk_refused place refusal s e)

-- A good block is the one looked for, where none is left to pass.
pub nth_here : (before place : ℕ) (s : List ℕ) (b : Block) → block_of s ≡ Ok b → nth_from 0 before place s ≡ NthFound b place
unfolding nth_from
nth_here before place s b e = ap (nth_of 0 before) (walk_good place s b _ e refl)

-- Behind a good block that takes all bytes there is none, and the blocks are counted.
pub nth_last : (n before place : ℕ) (s : List ℕ) (b : Block) → block_of s ≡ Ok b → size_of b ≡ length s
    → nth_from (suc n) before place s ≡ Past (suc before)
unfolding nth_from
nth_last n before place s b e all = ap (nth_of (suc n) before) (walk_last place s b e all)

-- Behind a good block that leaves some bytes the search goes on with these, one block fewer to pass and one more counted.
pub nth_next : (n before place : ℕ) (s : List ℕ) (b : Block) → block_of s ≡ Ok b → size_of b < length s
    → nth_from (suc n) before place s ≡ nth_from n (suc before) (place + size_of b) (drop (size_of b) s)
unfolding nth_from
nth_next n before place s b e more = ap (nth_of (suc n) before) (walk_next place s b e more)
