-- `Open::passes`: the sum of a session that takes events is at most 7,000.
use Rattle.module.specs.SessionLaws.{takes_facts}
use Rattle.module.proofs.open.Open.passes.Goals as goal

pub overflow_sub-session : goal.overflow_sub-session
overflow_sub-session c = (takes_facts c.args.self.session c.args.self.open).0.waited
