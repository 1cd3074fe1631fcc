-- The host's session, and which numbers of it can arise.
use Rattle.host_model.specs.declared.plan.Rate.{Rate}
use Rattle.std.specs.Prelude.{ℕ, Bool, cond, Option}
use Rattle.host_model.specs.Views.{phase_progress, phase_rate, phase_repeats}
use Rattle.host_model.specs.Waits.{phase_arises}
use Rattle.host_model.specs.declared.views.Progress.{Progress}
use Rattle.host_model.specs.declared.waits.Phase.{Phase}
use Rattle.host_model.specs.declared.waits.Phase.TheVariants.{Ended}
use Rattle.host_model.specs.Events.{Answer}
use Rattle.host.specs.declared.session.Session.{Session}
use Rattle.host.specs.declared.session.Stepped.{Stepped}

abbrev pub session : ℕ → Phase → Session
session image phase = record { image = image; phase = phase }

abbrev pub stepped : Session → Answer → Stepped
stepped s a = record { session = s; answer = a }

-- The numbers of a session could arise from an opening under these rules. One that could not is taken as ended.
unfoldable pub arises : Session → Bool
arises s = phase_arises s.image s.phase

-- How far a session is taken to be.
unfoldable pub taken_phase : Session → Phase
taken_phase s = cond (arises s) s.phase Ended

-- What a caller reads from it: packets accepted and in all, the rate of the line, how often the message under way was resent.
abbrev pub session_progress : Session → Progress
session_progress s = phase_progress (taken_phase s) s.image

abbrev pub session_rate : Session → Option Rate
session_rate s = phase_rate (taken_phase s)

abbrev pub session_repeats : Session → ℕ
session_repeats s = phase_repeats (taken_phase s)
