-- `ubf_block::lay_text`: the text, and behind it the zeros.
use Prim.Native.Nat.{ℕ, ◌+◌, ◌-◌}
use mathlib.Core.Path.{ap, ◌∙◌}
use native.Mathlib.Omega.{arith}
use lib.ListN.{length, replicate, length-replicate}
use Rattle.octets.specs.Octets.{laid}
use Rattle.octets.proofs.OctetsLaws.{laid_next}
use Rattle.ubf_model.specs.Pack.{filled}
use Rattle.ubf_block.proofs.pack.lay_text.Goals as goal

pub returns : goal.returns
unfolding filled
returns c =
    let a = c.args in
    let few = length-replicate {A = ℕ} (a.n - length a.text.now) 0 in
    let room = c.requires in
    c.fill.ensures
    ∙ ap (λ l. laid l (a.at + length a.text.now) (replicate (a.n - length a.text.now) 0)) c.copy.ensures
    ∙ laid_next a.out.now a.at a.text.now (replicate (a.n - length a.text.now) 0) (omega (arith, few, room.0, room.1))
