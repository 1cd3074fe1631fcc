-- `message` is safe: a frame ends where or behind where it begins.
use Rattle.std.proofs.Common.{◌≤◌}
use Rattle.spoken_frames.proofs.lines.Lines.message.Given as goal

abbrev pub invariant-loop-i : goal.invariant-loop-i
invariant-loop-i g l = l.from ≤ l.i
