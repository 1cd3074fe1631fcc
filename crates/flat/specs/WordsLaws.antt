-- The laws of records: how long they are, how they grow, what is found in them again.
use Rattle.std.specs.Prelude.{ℕ, suc, ◌+◌, ◌*◌, ◌/◌, ◌≤◌, ◌<◌, List, [], ◌∷◌, ◌++◌, ◌≡◌, refl, length, take, get_or}
use Rattle.std.proofs.Common.{append_assoc, append-nil, sym, ap, ◌∙◌, arith, add-one, length-append, take-suc, length-take-le}
use Rattle.octets.specs.Octets.{spelled, little, number_at, laid, over}
use Rattle.octets.proofs.OctetsLaws.{length_spelled, number_step, over_laid, length_over}
use Rattle.flat.specs.Words.{spelled_all}

pub length_spelled_all : (ws : List ℕ) → length (spelled_all ws) ≡ 4 * length ws
unfolding spelled_all
length_spelled_all [] = refl
length_spelled_all (w ∷ ws) = length-append (spelled 4 w) (spelled_all ws) ∙ rw (length_spelled, length_spelled_all ws) (omega arith)

-- One word more at the end.
spelled_snoc : (ws : List ℕ) (w : ℕ) → spelled_all (ws ++ (w ∷ [])) ≡ spelled_all ws ++ spelled 4 w
unfolding spelled_all
spelled_snoc [] w = append-nil (spelled 4 w)
spelled_snoc (v ∷ ws) w = ap (λ (l : List ℕ). spelled 4 v ++ l) (spelled_snoc ws w) ∙ sym (append_assoc (spelled 4 v) (spelled_all ws) (spelled 4 w))

-- One word more, as a loop takes it.
pub spelled_more : (ws : List ℕ) (i : ℕ) → i < length ws → spelled_all (take (i + 1) ws) ≡ spelled_all (take i ws) ++ spelled 4 (get_or ws i 0)
spelled_more ws i h = rw (add-one, take-suc ws i 0) (spelled_snoc (take i ws) (get_or ws i 0))

number_none : (s : List ℕ) (at : ℕ) → number_at 0 s at ≡ 0
unfolding number_at little
number_none s at = refl

-- A number of eight bytes is its low half and its high half.
pub number_eight : (s : List ℕ) (at : ℕ) → number_at 8 s at ≡ number_at 4 s at + 4294967296 * number_at 4 s (at + 4)
number_eight s at =
    let next : suc (suc (suc (suc at))) ≡ at + 4 = omega arith in
    let front : number_at 4 s at
    ≡ get_or s at 0 + 256 * (get_or s (suc at) 0 + 256 * (get_or s (suc (suc at)) 0 + 256 * (get_or s (suc (suc (suc at))) 0 + 256 * 0))) =
    rw (number_step 3 s at, number_step 2 s (suc at), number_step 1 s (suc (suc at)), number_step 0 s (suc (suc (suc at))), number_none) in
    rw (number_step 7 s at, number_step 6 s (suc at), number_step 5 s (suc (suc at)), number_step 4 s (suc (suc (suc at))), front, next)
    (omega arith)

-- Words laid behind those before them.
pub words_laid : (ws state : List ℕ) (i : ℕ) → i < length ws → length ws ≤ length state / 4
    → laid (over (spelled_all (take i ws)) state) (i * 4) (spelled 4 (get_or ws i 0)) ≡ over (spelled_all (take (i + 1) ws)) state
words_laid ws state i h room =
    let size : length (spelled_all (take i ws)) ≡ i * 4 = length_spelled_all (take i ws) ∙ rw (length-take-le i ws (omega arith)) (omega arith) in
    over_laid (spelled_all (take i ws)) state (spelled 4 (get_or ws i 0)) (i * 4) size (rw length_spelled (omega arith))
    ∙ ap (λ (l : List ℕ). over l state) (sym (spelled_more ws i h))

-- So far the buffer has kept its length.
pub length_words : (ws state : List ℕ) (i : ℕ) → i ≤ length ws → length ws ≤ length state / 4
    → length (over (spelled_all (take i ws)) state) ≡ length state
length_words ws state i h room =
    length_over (spelled_all (take i ws)) state
    (rw (length_spelled_all (take i ws), length-take-le i ws h) (omega arith))
