-- `wire::writer::lay_byte`: a mark is stored as the escape and its second byte, any other byte as itself.
use Prim.Native.Nat.{◌+◌}
use native.Mathlib.Omega.{arith}
use mathlib.Core.Path.{sym, ap, ◌∙◌}
use lib.ListN.{set, length-set}
use Rattle.wire.specs.WriteLaws.{width_mark, width_plain, stores_mark, stores_plain}
use Rattle.wire.proofs.writer.lay_byte.Goals as goal

pub bounds-out-at : goal.bounds-out-at
bounds-out-at c = omega (arith, width_mark _ (sym c.is_mark.ensures ∙ c.if-is_mark.true))

pub bounds-out-at-then-is_mark : goal.bounds-out-at-then-is_mark
bounds-out-at-then-is_mark c =
    simp length-set (omega (arith, width_mark _ (sym c.is_mark.ensures ∙ c.if-is_mark.true)))

pub returns-then-is_mark : goal.returns-then-is_mark
returns-then-is_mark c =
    let a = c.args in
    let mark = sym c.is_mark.ensures ∙ c.if-is_mark.true in (
      omega (arith, width_mark a.byte mark),
      ap (λ x. set (set a.out.now a.at 0xDC) (a.at + 1) x) c.second.ensures ∙ stores_mark a.out.now a.at a.byte mark,
    )

pub bounds-out-at-2 : goal.bounds-out-at-2
bounds-out-at-2 c = omega (arith, width_plain _ (sym c.is_mark.ensures ∙ c.if-is_mark.false))

pub returns : goal.returns
returns c =
    let a = c.args in
    let plain = sym c.is_mark.ensures ∙ c.if-is_mark.false in
    (omega (arith, width_plain a.byte plain), stores_plain a.out.now a.at a.byte plain)
