-- Stages and moves whose packets fit a frame: what the code asks of its callees.
use Rattle.std.specs.Prelude.{◌≤◌}
use Rattle.host_model.specs.declared.plan.Stage.{Stage}
use Rattle.host_model.specs.declared.plan.Stage.TheVariants.{Text, Asking, Declaring, Sending, Noticing, Restarting}
use Rattle.host_model.specs.declared.answers.Move.{Move}
use Rattle.host_model.specs.declared.answers.Move.TheVariants.{Stay, Enter, Await, Resend, Refuse, TooMany, Finish}

-- A stage whose packets fit a frame.
abbrev pub Small : Stage → Type 0
Small Text = Unit
Small (Asking rate) = Unit
Small (Declaring rate) = Unit
Small (Sending rate size number) = (size ≤ 1024) × (number ≤ 65535)
Small (Noticing rate size) = size ≤ 1024
Small (Restarting rate size) = Unit

-- A move that leads to such a stage.
abbrev pub SmallMove : Move → Type 0
SmallMove Stay = Unit
SmallMove (Enter next) = Small next
SmallMove (Await next) = Small next
SmallMove Resend = Unit
SmallMove (Refuse refusal passed) = Unit
SmallMove TooMany = Unit
SmallMove Finish = Unit
