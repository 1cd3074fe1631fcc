-- The laws of Lanes.
use Rattle.std.specs.Prelude.{◌≡◌, ℕ, ◌+◌, ◌<◌, ◌≤◌, List, length, drop, slice_index, refl}
use Rattle.std.proofs.Common.{sym, ap, ◌∙◌, add-one, drop_of_length-le, drop-cons}
use Rattle.lanes.specs.Lanes.{Way, passed, passes}

-- Bytes pass one by one, and no bytes change nothing.
pub passes_more : (w : Way) (s : List ℕ) (i : ℕ) → i < length s → passes w (drop i s) ≡ passes (passed w (slice_index s i)) (drop (i + 1) s)
unfolding passes
passes_more w s i h =
    ap (passes w) (drop-cons s i 0 h) ∙ ap (λ (k : ℕ). passes (passed w (slice_index s i)) (drop k s)) (sym (add-one i))

pub passes_end : (w : Way) (s : List ℕ) (i : ℕ) → length s ≤ i → passes w (drop i s) ≡ w
unfolding passes
passes_end w s i h = rw (drop_of_length-le s h) refl
