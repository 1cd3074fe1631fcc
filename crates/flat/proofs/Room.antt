-- The test that a call over bytes begins with: bytes without room take its first case, bytes with room its second.
use Rattle.std.specs.Prelude.{ℕ, ◌<◌, ◌≤◌, cond, ltb, ◌≡◌}
use Rattle.std.proofs.Common.{sym, lt-ltb, le-ltb}
use Rattle.octets.proofs.Choice.{cond_yes, cond_no}

pub without_room : {A : Type 0} {n m : ℕ} {x : A} (y : A) → n < m → x ≡ cond (ltb n m) x y
without_room y h = sym (cond_yes _ _ y (lt-ltb _ _ h))

pub with_room : {A : Type 0} {n m : ℕ} {y : A} (x : A) → m ≤ n → y ≡ cond (ltb n m) x y
with_room x h = sym (cond_no _ x _ (le-ltb _ _ h))
