-- What follows an event, where its packets fit a frame.
use Rattle.host_model.specs.Small.{Small}
use Rattle.host_model.specs.declared.nexts.Next.{Next}
use Rattle.host_model.specs.declared.nexts.Next.TheVariants.{Stays, Waits, Sends, Ends, Fails}

-- What is sent, if anything, is small.
abbrev pub SmallNext : Next → Type 0
SmallNext Stays = Unit
SmallNext (Waits w) = Unit
SmallNext (Sends w) = Small w.stage
SmallNext (Ends answer) = Unit
SmallNext (Fails refusal passed) = Unit
