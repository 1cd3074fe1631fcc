-- The laws of a text on a line.
use Rattle.std.specs.Prelude.{ℕ, ◌≤◌, ◌<◌, List, length}
use Rattle.std.proofs.Common.{arith, ltb-true}
use Rattle.octets.proofs.Choice.{either_way, both}
use Rattle.host_end.specs.Text.{stands, followed}

-- No more of a text has been heard than it has.
pub followed_most : (text : List ℕ) (seen byte : ℕ) → 1 ≤ length text → followed text seen byte ≤ length text
unfolding followed stands
followed_most text seen byte some =
    either_way (λ (n : ℕ). n ≤ length text) (stands text seen byte)
    (λ e. let h : seen < length text = ltb-true _ _ (both _ _ e).0 in omega (arith, h))
    (λ e. either_way (λ (n : ℕ). n ≤ length text) (stands text 0 byte) (λ _. some) (λ _. omega arith))
