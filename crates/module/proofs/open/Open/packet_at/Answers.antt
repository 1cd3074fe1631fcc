-- `Open::packet_at`: the numbers of a phase that holds are small.
use Rattle.module.specs.SessionLaws.{takes_facts}
use Rattle.module_model.specs.Bounds.{BoundedPhase}
use Rattle.module_model.proofs.PhasesLaws.{held_bounded}
use Rattle.module.proofs.open.Open.packet_at.Goals as goal

pub next-requires : goal.next-requires
next-requires c =
    let s = c.args.self.session in
    let small : BoundedPhase s.phase = held_bounded s.phase s.flash (takes_facts s c.args.self.open).1 in
    rw c.in-Loading.is at small

pub last-requires : goal.last-requires
last-requires c =
    let s = c.args.self.session in
    let small : BoundedPhase s.phase = held_bounded s.phase s.flash (takes_facts s c.args.self.open).1 in
    rw c.in-Done.is at small
