-- The laws of posts and callers: what they count stays a number of eight bytes.
use Rattle.std.specs.Prelude.{ℕ, ◌^◌, ◌<◌, Bool}
use Rattle.std.proofs.Common.{arith}
use Rattle.octets.proofs.Choice.{either_way}
use Rattle.posts.specs.Post.{more_of}

pub more_small : (n : ℕ) (happened : Bool) → n < 2 ^ 64 → more_of n happened < 2 ^ 64
unfolding more_of
more_small n happened h = either_way (λ (m : ℕ). m < 2 ^ 64) happened (λ _. omega arith) (λ _. h)
