-- Phases whose numbers are small enough for the rules.
use Rattle.std.specs.Prelude.{ℕ, ◌≤◌}
use Rattle.kinds.specs.Kinds.{longest_image}
use Rattle.commands.specs.Commands.{largest_packet, largest_total}
use Rattle.module_model.specs.Phases.{total_of}
use Rattle.module_model.specs.declared.phases.Pieces.{Pieces}
use Rattle.module_model.specs.declared.phases.Phase.{Phase}
use Rattle.module_model.specs.declared.phases.Phase.TheVariants.{Closed, Ready, Begun, Loading, Done}

-- The numbers of a transfer that could arise are small, so that no sum or product of the rules is too large.
pub record Bounded (p : Pieces) (number written : ℕ) : Type 0 where
  pub one : 1 ≤ number
  pub most : number ≤ largest_total
  pub small : p.size ≤ largest_packet
  pub short : written ≤ longest_image

abbrev pub BoundedPhase : Phase → Type 0
BoundedPhase Closed = Unit
BoundedPhase Ready = Unit
BoundedPhase (Begun t) = Unit
BoundedPhase (Loading p number written) = Bounded p number written
BoundedPhase (Done p written) = Bounded p (total_of p) written
