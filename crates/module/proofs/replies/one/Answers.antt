-- `one`: at most three payload bytes always fit, so the writer does not refuse.
use Rattle.module.specs.StepLaws.{wrote}
use Rattle.module.proofs.replies.one.Goals as goal

pub returns : goal.returns
returns c = wrote _ _ c.requires.0 c.requires.1 _ _ _ c.write.ensures c.unwrap_or.ensures
