-- `octets::copy`: after i turns the first i bytes are copied; at the end as many as fit.
use Rattle.std.proofs.Common.{◌≡◌, ◌∙◌, ◌-◌, ◌<◌, sym, add-one, arith, length, take, length-take, get_or-take}
use Rattle.std.specs.Prelude.{min}
use Rattle.std.proofs.Math.Seq.{paste-suc}
use Rattle.octets.proofs.OctetsLaws.{laid_past, laid_paste}
use Rattle.octets.proofs.runs.copy.Goals as goal

pub loop-i-preserved : goal.loop-i-preserved
loop-i-preserved c =
    let a = c.args in
    let l = c.loop-i in
    let size : length (take c.min-n.result a.s.now) ≡ min c.min-n.result (length a.s.now) = length-take _ _ in
    let more : l.i < c.min-n.result = omega (arith, size) in
    record {
      many = l.invariant.many;
      there = l.invariant.there;
      copied = rw (l.invariant.copied, get_or-take c.min-n.result a.s.now l.i 0 more, add-one) (paste-suc a.d.now a.at a.s.now l.i 0 (omega (arith, more)) (omega (arith, more)));
    }

pub returns-after-loop-i : goal.returns-after-loop-i
returns-after-loop-i c =
    let a = c.args in
    let l = c.loop-i in
    let size : length (take c.min-n.result a.s.now) ≡ min c.min-n.result (length a.s.now) = length-take _ _ in
    let all : l.i ≡ min (length a.s.now) (length a.d.now - a.at) = omega (arith, size) in
    l.invariant.copied ∙ rw all (sym (laid_paste a.d.now a.at a.s.now (omega arith)))

pub returns-else-at-d : goal.returns-else-at-d
returns-else-at-d c = sym (laid_past _ _ _ c.if-at-d.false)
