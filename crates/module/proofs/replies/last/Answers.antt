-- `last`: the notice is written behind the acknowledgement.
use Rattle.commands.specs.Commands.{accepted, packet_reply, notice}
use Rattle.std.proofs.Common.{sym}
use Rattle.module.proofs.Room.{sent_in}
use Rattle.module.proofs.replies.last.Goals as goal

pub returns : goal.returns
returns c =
    let a = c.args in
    let first = c.packet-n in
    let second = c.one in
    sent_in (packet_reply a.number accepted) (notice a.state) first.result second.result _ a.reply.now
    first.new.reply second.new.reply (sym first.array_long) first.ensures second.ensures
