-- `octets::copy`: after i turns the first i bytes are copied.
use Rattle.std.proofs.Common.{◌≡◌, ◌≤◌, ◌-◌, length}
use Rattle.std.specs.Prelude.{min}
use Rattle.std.proofs.Math.Seq.{paste}
use Rattle.octets.proofs.runs.copy.Given as goal

abbrev pub invariant-loop-i : goal.invariant-loop-i
invariant-loop-i l = record {
  many : l.n ≡ min (length l.s) (length l.initial.d - l.at);
  there : l.at ≤ length l.initial.d;
  copied : l.d ≡ paste l.initial.d l.at l.s l.i;
}
