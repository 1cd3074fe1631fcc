-- A transfer moves only by accepted parameters, an acknowledged packet, or closing.
use Rattle.std.proofs.Common.{inl, inr, ap}
use Rattle.module_model.specs.Phases.{is_closed}
use Rattle.module.specs.Step.{step_of}
use Rattle.module_promises.proofs.Said.{Turn, quiet, declares, writes, again, turn_of}
use Rattle.module_promises.specs.Promises.{Moves, stays, begins, goes_on, closes, OnlyMoves}

pub only_moves : OnlyMoves
only_moves s g bytes = go (turn_of s g bytes)
  where
    go : Turn s g → Moves step_of s g
    go (quiet q same (inl e)) = stays e
    go (quiet q same (inr e)) = closes (ap is_closed e)
    go (declares t d e) = begins d.said.accepts
    go (writes p number a expects put) = goes_on number a.belongs.one a.said.says
    go (again p number a behind same put) = goes_on number a.belongs.one a.said.says
