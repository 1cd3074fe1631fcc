-- `lay`: what is left of the bytes passes the lane so far as all of them pass the first.
use Rattle.std.proofs.Common.{◌+◌, drop, sym, ap, ◌∙◌, arith}
use Rattle.lanes.specs.Lanes.{way, passes}
use Rattle.lanes.specs.LanesLaws.{passes_more, passes_end}
use Rattle.lanes.proofs.Line.lay.Goals as goal

pub loop-byte-preserved : goal.loop-byte-preserved
loop-byte-preserved c =
    let l = c.loop-byte in
    let s = c.args.bytes.now in
    record {
      same_rate = c.lay_byte.ensures.same_rate ∙ l.invariant.same_rate;
      passes_all = λ e.
          ap (λ w. passes w (drop (l.byte-index + 1) s)) (c.lay_byte.ensures.clean (sym c.lay_byte.ensures.same_rate ∙ e))
          ∙ sym (passes_more _ s l.byte-index (omega arith)) ∙ l.invariant.passes_all (sym c.lay_byte.ensures.same_rate ∙ e);
    }

pub returns-clause-clean : goal.returns-clause-clean
returns-clause-clean c e =
    let l = c.loop-byte in
    let a = c.args in
    sym (passes_end _ _ l.byte-index (omega arith)) ∙ l.invariant.passes_all (l.invariant.same_rate ∙ e)
    ∙ ap (λ x. passes (way x a.self.now.bytes.now) a.bytes.now) c.clear.ensures
