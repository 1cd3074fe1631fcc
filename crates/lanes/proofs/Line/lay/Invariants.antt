-- `lay`: what is left of the bytes passes the lane so far as all of them pass the first.
use Rattle.std.proofs.Common.{◌≡◌, drop}
use Rattle.lanes.specs.Lanes.{way, passes}
use Rattle.lanes.proofs.Line.lay.Given as goal

abbrev pub invariant-loop-byte : goal.invariant-loop-byte
invariant-loop-byte l = record {
  same_rate : l.noise.rate ≡ l.initial.noise.rate;
  passes_all : l.noise.rate ≡ 0 → passes (way l.self.lane l.self.bytes.now) (drop l.byte-index l.bytes) ≡ passes (way l.initial.self.lane l.initial.self.bytes.now) l.bytes;
}
