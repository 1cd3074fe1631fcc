-- `wire::writer::lay`: the head and the content bytes so far stand at the front.
use Rattle.std.proofs.Common.{◌≡◌, ◌≤◌, length}
use Rattle.octets.specs.Octets.{over}
use Rattle.wire.specs.Frame.{wire_form}
use Rattle.wire.specs.WriteLaws.{begun}
use Rattle.wire.proofs.writer.lay.Given as goal

abbrev pub invariant-loop-byte : goal.invariant-loop-byte
invariant-loop-byte l = record {
  room : length (wire_form l.content) ≤ length l.initial.out;
  place : l.at ≡ length (begun l.content l.byte-index);
  laid : l.out ≡ over (begun l.content l.byte-index) l.initial.out;
}
