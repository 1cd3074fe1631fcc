-- What follows an event or an opening, before anything is sent.
use Rattle.std.specs.Prelude.{ℕ, ◌+◌, ◌-◌, cond, List, ltb, take}
use Rattle.refusals.specs.Refusals.{wrong_image_length, wrong_pieces, no_answer}
use Rattle.host_model.specs.Answers.{frame_move, line_move}
use Rattle.host_model.specs.Waits.{most_repeats, limit_of, wait, first_stage, loadable}
use Rattle.host_model.specs.declared.plan.Plan.{Plan}
use Rattle.host_model.specs.declared.answers.Move.{Move}
use Rattle.host_model.specs.declared.answers.Move.TheVariants.{Stay, Enter, Await, Resend, Refuse, TooMany, Finish}
use Rattle.host_model.specs.declared.waits.Wait.{Wait}
use Rattle.host_model.specs.declared.events.Event.{Event}
use Rattle.host_model.specs.declared.events.Event.TheVariants.{Frame, Line, Elapsed}
use Rattle.host_model.specs.declared.events.Answer.TheVariants.{Done, Refused}
use Rattle.host_model.specs.declared.nexts.Next.{Next}
use Rattle.host_model.specs.declared.nexts.Next.TheVariants.{Stays, Waits, Sends, Ends, Fails}

-- What follows the last repeat: 20, and the session ends.
abbrev pub after_repeats : Wait → Next
after_repeats w = Ends (Refused no_answer)

-- The message of the stage is sent again, at most 3 times.
unfoldable pub resend_next : Wait → Next
resend_next w = cond (ltb w.repeats most_repeats) (Sends (wait w.plan w.stage 0 (w.repeats + 1))) (after_repeats w)

-- What a move leads to. Where the notice comes to be awaited, the last packet's repeats are counted on.
abbrev pub move_next : Wait → Move → Next
move_next w Stay = Stays
move_next w (Enter next) = Sends (wait w.plan next 0 0)
move_next w (Await next) = Waits (wait w.plan next 0 w.repeats)
move_next w Resend = resend_next w
move_next w (Refuse refusal passed) = Fails refusal passed
move_next w TooMany = Ends (Refused wrong_pieces)
move_next w Finish = Ends Done

-- Milliseconds: the time since the last sending or fitting answer is kept below the limit; once it reaches it, resend.
unfoldable pub time_next : Wait → ℕ → Next
time_next w ms =
    cond (ltb ms (limit_of w.stage - w.waited)) (Waits (wait w.plan w.stage (w.waited + ms) w.repeats)) (resend_next w)

-- An event at a stage. Payload and line are the first count bytes of the slice, or all of it where it is shorter.
abbrev pub event_next : Wait → ℕ → Event → List ℕ → Next
event_next w image (Frame command count) bytes = move_next w (frame_move w.plan image w.stage command (take count bytes))
event_next w image (Line count) bytes = move_next w (line_move w.plan w.stage (take count bytes))
event_next w image (Elapsed ms) bytes = time_next w ms

-- An opening: 8 for an image that cannot be loaded, else the first stage.
unfoldable pub plan_next : Plan → ℕ → Next
plan_next plan image =
    cond (loadable plan.kind image) (Sends (wait plan (first_stage plan.start plan.first) 0 0)) (Ends (Refused wrong_image_length))
