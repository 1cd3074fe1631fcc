-- `Session::step`: 3, else by the phase that it is taken to be in.
use mathlib.Core.Logic.{inl, inr}
use mathlib.Core.Path.{sym, ap, ◌∙◌}
use lib.ListN.{length}
use Rattle.host_model.proofs.NextsLaws.{event_small, small_next_same}
use Rattle.host.specs.Step.{left, performs}
use Rattle.host.specs.StepLaws.{step_wrong_length, step_taken, taken_waits}
use Rattle.host.proofs.session.Session.step.Goals as goal

pub returns-then-image-self : goal.returns-then-image-self
returns-then-image-self c =
    let a = c.args in
    ap (λ x. left x a.out.now) c.answers.ensures
    ∙ sym (step_wrong_length a.self a.event a.bytes.now a.image.now a.out.now c.if-image-self.true)

pub returns-in-Ended : goal.returns-in-Ended
returns-in-Ended c =
    let a = c.args in
    let nothing = ap (λ x. left x a.out.now) c.answers-in-Ended.ensures in
    let taken = step_taken a.self a.event a.bytes.now a.image.now a.out.now c.if-image-self.false in
    elim c.in-Ended.is [
      | inl ended ↦ nothing ∙ sym (taken _ (sym c.taken.ensures ∙ ended))
      | inr ended ↦ nothing ∙ sym (taken _ (sym c.taken.ensures ∙ ended.2))
    ]

pub performs-requires : goal.performs-requires
performs-requires c =
    let a = c.args in
    small_next_same _ _ (sym c.event_next-next.ensures)
    (event_small c.in-Waiting.wait (length a.image.now) a.event a.bytes.now
    (rw c.if-image-self.false (taken_waits a.self c.in-Waiting.wait (sym c.taken.ensures ∙ c.in-Waiting.is))))

pub returns-in-Waiting : goal.returns-in-Waiting
returns-in-Waiting c =
    let a = c.args in
    c.performs.ensures
    ∙ ap (λ n. performs a.self n a.image.now a.out.now) c.event_next-next.ensures
    ∙ sym
    (step_taken a.self a.event a.bytes.now a.image.now a.out.now c.if-image-self.false _
    (sym c.taken.ensures ∙ c.in-Waiting.is))
