-- What a caller reads from a session.
use Rattle.host_model.specs.declared.plan.Rate.{Rate}
use Rattle.std.specs.Prelude.{ℕ, ◌-◌, ◌%◌, cond, eqb, None, Option, Some}
use Rattle.kinds.specs.declared.Kind.{Kind}
use Rattle.pieces.specs.Pieces.{count_of}
use Rattle.host_model.specs.Stages.{number_of_rate}
use Rattle.host_model.specs.declared.plan.Stage.{Stage}
use Rattle.host_model.specs.declared.plan.Stage.TheVariants.{Text, Asking, Declaring, Sending, Noticing, Restarting}
use Rattle.host_model.specs.declared.waits.Phase.{Phase}
use Rattle.host_model.specs.declared.waits.Phase.TheVariants.{Ended, EndedAt, Waiting}
use Rattle.host_model.specs.declared.views.Progress.{Progress}

abbrev pub progress_of : ℕ → ℕ → Progress
progress_of done total = record { accepted = done; total = total }

abbrev pub stage_progress : Stage → ℕ → Progress
stage_progress Text image = progress_of 0 0
stage_progress (Asking rate) image = progress_of 0 0
stage_progress (Declaring rate) image = progress_of 0 0
stage_progress (Sending rate size number) image = progress_of (number - 1) (count_of image size)
stage_progress (Noticing rate size) image = progress_of (count_of image size) (count_of image size)
stage_progress (Restarting rate size) image = progress_of (count_of image size) (count_of image size)

-- Packets accepted and in all; an ended session has none.
abbrev pub phase_progress : Phase → ℕ → Progress
phase_progress Ended image = progress_of 0 0
phase_progress (EndedAt kind rate) image = progress_of 0 0
phase_progress (Waiting w) image = stage_progress w.stage image

-- The rate that the line should have: at it the message goes out that was resent so often, and its answer is heard. From the parameters on
-- it is the agreed one. A module that agrees to a rate has it from then on, and its answer may be lost: so of the repeats of a request for
-- a rate every other one, the first among them, goes out at the rate asked for.
abbrev pub message_rate : Stage → ℕ → Option Rate
message_rate Text repeats = None
message_rate (Asking rate) repeats = cond (eqb (repeats % 2) 1) (Some rate) None
message_rate (Declaring rate) repeats = Some rate
message_rate (Sending rate size number) repeats = Some rate
message_rate (Noticing rate size) repeats = Some rate
message_rate (Restarting rate size) repeats = Some rate

-- The same of a message that was not resent.
abbrev pub stage_rate : Stage → Option Rate
stage_rate stage = message_rate stage 0

abbrev pub phase_rate : Phase → Option Rate
phase_rate Ended = None
phase_rate (EndedAt kind rate) = Some rate
phase_rate (Waiting w) = message_rate w.stage w.repeats

-- The rate of the line by its number, 0 as it was.
abbrev pub line_number : Option Rate → ℕ
line_number None = 0
line_number (Some rate) = number_of_rate rate

-- How a load ends whose restart frame is sent with 21 or 22: that frame goes out at the rate that the line has, and the ended session
-- keeps it.
abbrev pub ended_at_rate : Kind → Option Rate → Phase
ended_at_rate kind None = Ended
ended_at_rate kind (Some rate) = EndedAt kind rate

abbrev pub failed_phase : Phase → Phase
failed_phase Ended = Ended
failed_phase (EndedAt kind rate) = EndedAt kind rate
failed_phase (Waiting w) = ended_at_rate w.plan.kind (stage_rate w.stage)

-- How often the frame under way was resent.
abbrev pub phase_repeats : Phase → ℕ
phase_repeats Ended = 0
phase_repeats (EndedAt kind rate) = 0
phase_repeats (Waiting w) = w.repeats
