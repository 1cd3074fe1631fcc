-- `octets::zeros`: while the bytes passed are zeros, the answer for the rest is the answer for all.
use Rattle.std.proofs.Common.{◌≡◌, drop}
use Rattle.octets.specs.Octets.{all_zero}
use Rattle.octets.proofs.runs.zeros.Given as goal

abbrev pub invariant-loop-byte : goal.invariant-loop-byte
invariant-loop-byte l = all_zero l.s ≡ all_zero (drop l.byte-index l.s)
