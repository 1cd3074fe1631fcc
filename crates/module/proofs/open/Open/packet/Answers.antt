-- `Open::packet`: a payload that is well formed has a size of at most 1,024.
use mathlib.Core.Path.{sym, ◌∙◌}
use Rattle.module_model.proofs.RulesLaws.{formed}
use Rattle.module.proofs.open.Open.packet.Goals as goal

pub invariant_of-packet : goal.invariant_of-packet
invariant_of-packet c = record { small = (formed _ _ (sym c.well_formed-2.ensures ∙ c.if-not-well_formed.false)).most }
