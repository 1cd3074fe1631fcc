-- `wire::writer::lay`: the head and the content bytes so far stand at the front.
use Rattle.std.proofs.Common.{ℕ, ◌+◌, ◌<◌, List, [], ◌∙◌, refl, sym, arith, length, length-set}
use Rattle.std.specs.Prelude.{set}
use Rattle.wire.specs.Escape.{head_mark, escaped}
use Rattle.wire.specs.Frame.{wire_form}
use Rattle.wire.specs.WriteLaws.{begun_size, room_tail, head_first, head_kept, lay_more, lay_tail, wire_size}
use Rattle.wire.proofs.writer.lay.Goals as goal

pub bounds-out-0 : goal.bounds-out-0
bounds-out-0 c = omega (arith, wire_size c.args.content.now)

pub loop-byte-init : goal.loop-byte-init
unfolding escaped
loop-byte-init c =
    let a = c.args in
    let some : 0 < length a.out.now = omega (arith, wire_size a.content.now, c.requires) in
    record {
      room = simp length-set c.requires;
      place = refl;
      laid = head_first a.out.now some ∙ sym (head_kept [] a.out.now some);
    }

pub lay_byte-at-requires : goal.lay_byte-at-requires
lay_byte-at-requires c =
    let l = c.loop-byte in
    let a = c.args in
    omega (arith, room_tail a.content.now (l.byte-index + 1), begun_size a.content.now l.byte-index (omega arith))

pub loop-byte-preserved : goal.loop-byte-preserved
loop-byte-preserved c =
    let l = c.loop-byte in
    let s = c.args.content.now in
    let put = c.lay_byte-at.ensures in
    record {
      room = l.invariant.room;
      place = put.0 ∙ omega (arith, begun_size s l.byte-index (omega arith));
      laid = put.1 ∙ rw (l.invariant.place, l.invariant.laid) (lay_more s (set c.args.out.now 0 head_mark) l.invariant.room l.byte-index (omega arith));
    }

pub bounds-out-at : goal.bounds-out-at
bounds-out-at c = omega (arith, room_tail c.args.content.now c.loop-byte.byte-index)

pub returns : goal.returns
unfolding wire_form
returns c =
    let l = c.loop-byte in
    let a = c.args in
    let o : List ℕ = set a.out.now 0 head_mark in
    let some : 0 < length a.out.now = omega (arith, wire_size a.content.now, c.requires) in
    rw (l.invariant.place, l.invariant.laid) (lay_tail a.content.now o l.invariant.room l.byte-index (omega arith)) ∙ head_kept _ a.out.now some
