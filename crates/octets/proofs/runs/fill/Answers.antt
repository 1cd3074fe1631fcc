-- `octets::fill`: as many bytes as fit are the byte.
use Rattle.std.proofs.Common.{◌∙◌, ap, sym, arith, replicate, length-take, length-drop}
use Rattle.std.proofs.lemmas.List.{take-replicate, length-replicate}
use Rattle.octets.proofs.OctetsLaws.{laid_past}
use Rattle.octets.proofs.Words.{laid_mid}
use Rattle.octets.proofs.runs.fill.Goals as goal

pub returns-then-at-d : goal.returns-then-at-d
returns-then-at-d c =
    let a = c.args in
    let many = length-replicate a.n a.byte in
    laid_mid a.d.now a.at (replicate a.n a.byte) c.min-n.result _ _ (omega arith) (omega arith) (omega arith)
    (c.fill.ensures.after (λ y e. e) ∙ ap (λ k. replicate k a.byte) (simp (length-take, length-drop) (omega arith)) ∙ sym (take-replicate c.min-n.result a.n a.byte (omega arith)))

pub returns-else-at-d : goal.returns-else-at-d
returns-else-at-d c = sym (laid_past _ _ _ c.if-at-d.false)
