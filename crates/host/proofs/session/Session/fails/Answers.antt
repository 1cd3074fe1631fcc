-- `Session::fails`: the restart frame is sent and the session ends, or all stays.
use mathlib.Core.Path.{ap, ◌∙◌}
use lib.ListN.{length}
use Rattle.commands.specs.Commands.{restart_frame}
use Rattle.host_model.specs.Messages.{goes_out}
use Rattle.host_model.specs.declared.events.Answer.TheVariants.{Failed}
use Rattle.host.specs.Session.{stepped}
use Rattle.host.specs.Step.{left, failed_of}
use Rattle.host.specs.StepLaws.{sends_counted, sends_refused}
use Rattle.host.proofs.session.Session.fails.Goals as goal

pub returns-in-Err : goal.returns-in-Err
returns-in-Err c =
    let a = c.args in
    let sent = c.send_restart in
    ap (λ x. left x sent.new.out) c.answers-in-Err.ensures
    ∙ sends_refused a.self (goes_out restart_frame) a.out.now sent.result sent.new.out sent.ensures _ _
    c.in-Err.is

pub returns-in-Ok : goal.returns-in-Ok
returns-in-Ok c =
    let a = c.args in
    let sent = c.send_restart in
    ap (λ x. left x sent.new.out) c.answers.ensures
    ∙ ap (λ s. left (stepped s (Failed a.refusal a.passed c.in-Ok.count)) sent.new.out) c.failed.ensures
    ∙ sends_counted a.self (goes_out restart_frame) a.out.now sent.result sent.new.out sent.ensures
    (λ n. stepped (failed_of a.self (length a.image.now)) (Failed a.refusal a.passed n)) _ c.in-Ok.is
