-- `ubf::nth_from`: each call looks at one block and goes on with what remains, which is shorter.
use Rattle.std.proofs.Common.{length}
use Rattle.ubf.proofs.walk.+nth_from.Given as goal

abbrev pub decreases-nth_from : goal.decreases-nth_from
decreases-nth_from l = length l.rest.now
