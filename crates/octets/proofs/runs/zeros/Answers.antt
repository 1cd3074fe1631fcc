-- `octets::zeros`: while the bytes passed are zeros, the answer for the rest is the answer for all.
use Rattle.std.proofs.Common.{◌+◌, ◌&&◌, ◌∙◌, sym, ap, arith, drop, eq-eqb, ne_eqb}
use Rattle.octets.specs.Octets.{all_zero}
use Rattle.octets.proofs.OctetsLaws.{zero_more, zero_end}
use Rattle.octets.proofs.runs.zeros.Goals as goal

pub returns-then-byte-ne0 : goal.returns-then-byte-ne0
returns-then-byte-ne0 c =
    let l = c.loop-byte in
    let s = c.args.s.now in
    sym (l.invariant ∙ zero_more s l.byte-index (omega arith) ∙ ap (λ b. b && all_zero (drop (l.byte-index + 1) s)) (ne_eqb _ _ c.if-byte-ne0.true))

pub loop-byte-preserved : goal.loop-byte-preserved
loop-byte-preserved c =
    let l = c.loop-byte in
    let s = c.args.s.now in
    l.invariant ∙ zero_more s l.byte-index (omega arith) ∙ ap (λ b. b && all_zero (drop (l.byte-index + 1) s)) (eq-eqb _ _ c.if-byte-ne0.false)

pub returns : goal.returns
returns c = sym (c.loop-byte.invariant ∙ zero_end _ c.loop-byte.byte-index (omega arith))
