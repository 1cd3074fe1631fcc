-- `Session::sends`: the message is sent and awaited, or all stays.
use mathlib.Core.Path.{ap, ◌∙◌}
use lib.ListN.{length}
use Rattle.host_model.specs.Messages.{message_of}
use Rattle.host_model.specs.declared.waits.Phase.TheVariants.{Waiting}
use Rattle.host_model.specs.declared.events.Answer.TheVariants.{Sent}
use Rattle.host.specs.Session.{session, stepped}
use Rattle.host.specs.Step.{left}
use Rattle.host.specs.StepLaws.{sends_counted, sends_refused}
use Rattle.host.proofs.session.Session.sends.Goals as goal

pub returns-in-Err : goal.returns-in-Err
returns-in-Err c =
    let a = c.args in
    let w = a.wait in
    let sent = c.send in
    let after = sent.new.out in
    ap (λ x. left x after) c.answers-in-Err.ensures
    ∙ sends_refused a.self (message_of w.plan a.image.now w.stage) a.out.now sent.result after sent.ensures _ _
    c.in-Err.is

pub returns-in-Ok : goal.returns-in-Ok
returns-in-Ok c =
    let a = c.args in
    let w = a.wait in
    let sent = c.send in
    let after = sent.new.out in
    ap (λ x. left x after) c.answers.ensures
    ∙ ap (λ s. left (stepped s (Sent c.in-Ok.n)) after) c.waiting.ensures
    ∙ sends_counted a.self (message_of w.plan a.image.now w.stage) a.out.now sent.result after sent.ensures
    (λ n. stepped (session (length a.image.now) (Waiting w)) (Sent n)) _ c.in-Ok.is
