-- `ubf::nth_from`: each call looks at one block and goes on with what remains, which is shorter.
use Rattle.std.proofs.Common.{◌≡◌, suc, ◌-◌, sym, ap, ◌∙◌, add-one, arith, drop}
use Rattle.ubf_model.specs.Block.{size_of}
use Rattle.ubf_model.proofs.BlockLaws.{block_within}
use Rattle.ubf_model.proofs.WalkLaws.{nth_last, nth_next}
use Rattle.ubf.proofs.walk.+nth_from.Goals as goal

pub returns-then-rest-taken : goal.returns-then-rest-taken
returns-then-rest-taken t c =
    let a = c.args in
    let whole = sym c.read.ensures ∙ c.in-Ok.is in
    let within = block_within a.rest.now _ whole in
    let more : a.n ≡ suc (a.n - 1) = omega (arith, c.if-n-eq0.false) in
    rw (more, add-one) (sym (nth_last (a.n - 1) a.counted a.place a.rest.now _ whole (omega (arith, within, c.size-taken.ensures))))

pub returns-else-rest-taken : goal.returns-else-rest-taken
returns-else-rest-taken t c =
    let a = c.args in
    let whole = sym c.read.ensures ∙ c.in-Ok.is in
    let found = c.in-Ok.block in
    let taken = c.size-taken.ensures in
    let more : a.n ≡ suc (a.n - 1) = omega (arith, c.if-n-eq0.false) in
    let rest : c.behind.result.now ≡ drop (size_of found) a.rest.now = c.behind.ensures ∙ ap (λ k. drop k a.rest.now) taken in
    c.nth_from.ensures
    ∙ rw (add-one, taken, rest) (rw (← more) at (sym (nth_next (a.n - 1) a.counted a.place a.rest.now _ whole (omega (arith, c.if-rest-taken.false)))))
