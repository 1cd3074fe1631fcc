-- `argument`: a room that is doubled is larger.
use Rattle.std.proofs.Common.{◌-◌, ◌^◌}
use Rattle.console.proofs.startup.+argument.Given as goal

abbrev pub decreases-argument : goal.decreases-argument
decreases-argument g l = 2 ^ 64 - l.room
