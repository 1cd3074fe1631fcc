-- What a session waits for, how long and how often, and which numbers of a waiting session can arise.
use Rattle.std.specs.Prelude.{ℕ, Bool, true, ◌&&◌, ltb, leb}
use Rattle.kinds.specs.Kinds.{fits_file}
use Rattle.kinds.specs.declared.Kind.{Kind}
use Rattle.host_model.specs.Stages.{stage_fits}
use Rattle.host_model.specs.declared.plan.Rate.{Rate}
use Rattle.host_model.specs.declared.plan.Start.{Start}
use Rattle.host_model.specs.declared.plan.Start.TheVariants.{WithText, AtOnce}
use Rattle.host_model.specs.declared.plan.Plan.{Plan}
use Rattle.host_model.specs.declared.plan.Stage.{Stage}
use Rattle.host_model.specs.declared.plan.Stage.TheVariants.{Text, Asking, Declaring, Sending, Noticing, Restarting}
use Rattle.host_model.specs.declared.waits.Wait.{Wait}
use Rattle.host_model.specs.declared.waits.Phase.{Phase}
use Rattle.host_model.specs.declared.waits.Phase.TheVariants.{Ended, EndedAt, Waiting}

-- One frame is resent at most 3 times.
abbrev pub most_repeats : ℕ
most_repeats = 3

-- How long an answer is awaited: 1,000 ms, 5,000 for the notice.
abbrev pub answer_limit : ℕ
answer_limit = 1000

abbrev pub notice_limit : ℕ
notice_limit = 5000

abbrev pub limit_of : Stage → ℕ
limit_of Text = answer_limit
limit_of (Asking rate) = answer_limit
limit_of (Declaring rate) = answer_limit
limit_of (Sending rate size number) = answer_limit
limit_of (Noticing rate size) = notice_limit
limit_of (Restarting rate size) = answer_limit

abbrev pub wait : Plan → Stage → ℕ → ℕ → Wait
wait plan stage waited repeats = record { plan = plan; stage = stage; waited = waited; repeats = repeats }

-- A session begins with the start text, or with the first rate.
abbrev pub first_stage : Start → Rate → Stage
first_stage WithText rate = Text
first_stage AtOnce rate = Asking rate

-- What can be loaded: an image that a file may carry.
abbrev pub loadable : Kind → ℕ → Bool
loadable kind image = fits_file kind image

-- A waiting session has an image that can be loaded, has waited less than the limit and resent at most 3 times.
unfoldable pub wait_fits : ℕ → Wait → Bool
wait_fits image w =
    loadable w.plan.kind image
    && (ltb w.waited (limit_of w.stage) && (leb w.repeats most_repeats && stage_fits w.plan image w.stage))

-- An ended session arises with any length: a refused opening keeps the length that it was lent. A load that failed once it had agreed
-- on a rate had an image that can be loaded.
abbrev pub phase_arises : ℕ → Phase → Bool
phase_arises image Ended = true
phase_arises image (EndedAt kind rate) = loadable kind image
phase_arises image (Waiting w) = wait_fits image w
