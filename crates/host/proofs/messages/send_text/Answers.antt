-- `send_text`: the room is tested before the text is laid.
use native.Mathlib.Omega.{arith}
use Rattle.commands.specs.Commands.{start_text}
use Rattle.host_model.proofs.MessagesLaws.{sent_none, sent_laid}
use Rattle.host.proofs.messages.send_text.Goals as goal

pub returns-then-out-lt12 : goal.returns-then-out-lt12
returns-then-out-lt12 c = sent_none start_text c.args.out.now (omega (arith, c.if-out-lt12.true))

pub returns : goal.returns
returns c =
    let a = c.args in
    let room = c.if-out-lt12.false in
    rw c.copy.ensures (sent_laid start_text a.out.now (omega (arith, room)))
