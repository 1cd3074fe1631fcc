-- `flat::store`: after i turns the first i words stand at the front.
use Rattle.std.proofs.Common.{◌≡◌, take}
use Rattle.octets.specs.Octets.{over}
use Rattle.flat.specs.Words.{spelled_all}
use Rattle.flat.proofs.words.store.Given as goal

abbrev pub invariant-loop-i : goal.invariant-loop-i
invariant-loop-i l = l.state ≡ over (spelled_all (take l.i l.words)) l.initial.state
