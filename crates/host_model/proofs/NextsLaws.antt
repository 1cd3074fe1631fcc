-- The laws of Nexts: what follows, and that only small messages do.
use Rattle.std.specs.Prelude.{ℕ, ◌+◌, ◌-◌, ◌≤◌, ◌<◌, true, false, List, ◌≡◌, ltb, take}
use Rattle.std.proofs.Common.{arith, lt-ltb, le-ltb}
use Rattle.octets.proofs.Choice.{cond_yes, cond_no, either_way}
use Rattle.refusals.specs.Refusals.{wrong_image_length}
use Rattle.host_model.specs.Answers.{frame_move, line_move}
use Rattle.host_model.specs.Small.{Small, SmallMove}
use Rattle.host_model.specs.Waits.{most_repeats, limit_of, wait, first_stage, loadable, wait_fits}
use Rattle.host_model.proofs.WaitsLaws.{first_small, wait_small, wait_frame, wait_line}
use Rattle.host_model.specs.Nexts.{after_repeats, resend_next, move_next, time_next, event_next, plan_next}
use Rattle.host_model.specs.declared.plan.Plan.{Plan}
use Rattle.host_model.specs.declared.answers.Move.{Move}
use Rattle.host_model.specs.declared.answers.Move.TheVariants.{Stay, Enter, Await, Resend, Refuse, TooMany, Finish}
use Rattle.host_model.specs.declared.waits.Wait.{Wait}
use Rattle.host_model.specs.declared.events.Event.{Event}
use Rattle.host_model.specs.declared.events.Event.TheVariants.{Frame, Line, Elapsed}
use Rattle.host_model.specs.declared.events.Answer.TheVariants.{Refused}
use Rattle.host_model.specs.declared.nexts.Next.{Next}
use Rattle.host_model.specs.declared.nexts.Next.TheVariants.{Waits, Sends, Ends}
use Rattle.host_model.specs.SmallNexts.{SmallNext}

-- ---- repeats and time

-- A message is sent again up to 3 times, its time from the start, then what follows the last repeat.
pub resend_more : (w : Wait) → w.repeats < 3 → resend_next w ≡ Sends (wait w.plan w.stage 0 (w.repeats + 1))
unfolding resend_next
resend_more w h = cond_yes _ _ _ (lt-ltb w.repeats most_repeats h)

pub resend_enough : (w : Wait) → 3 ≤ w.repeats → resend_next w ≡ after_repeats w
unfolding resend_next
resend_enough w h = cond_no _ _ _ (le-ltb w.repeats most_repeats h)

-- Time that is not up is counted, time that is up resends.
pub time_short : (w : Wait) (ms : ℕ) → w.waited + ms < limit_of w.stage
    → time_next w ms ≡ Waits (wait w.plan w.stage (w.waited + ms) w.repeats)
unfolding time_next
time_short w ms h = cond_yes _ _ _ (lt-ltb ms (limit_of w.stage - w.waited) (omega arith))

pub time_up : (w : Wait) (ms : ℕ) → limit_of w.stage ≤ w.waited + ms → time_next w ms ≡ resend_next w
unfolding time_next
time_up w ms h = cond_no _ _ _ (le-ltb ms (limit_of w.stage - w.waited) (omega arith))

-- ---- the opening

-- An image that can be loaded begins at the first stage, any other is refused with 8.
pub plan_begins : (plan : Plan) (image : ℕ) → loadable plan.kind image ≡ true
    → plan_next plan image ≡ Sends (wait plan (first_stage plan.start plan.first) 0 0)
unfolding plan_next
plan_begins plan image h = cond_yes _ _ _ h

pub plan_refused : (plan : Plan) (image : ℕ) → loadable plan.kind image ≡ false → plan_next plan image ≡ Ends (Refused wrong_image_length)
unfolding plan_next
plan_refused plan image h = cond_no _ _ _ h

-- ---- small messages

-- From a small stage a small message is sent again, a small move leads to one, and so does time.
resend_small : (w : Wait) → Small w.stage → SmallNext (resend_next w)
unfolding resend_next
resend_small w h = either_way SmallNext (ltb w.repeats most_repeats) (λ _. h) (λ _. tt)

move_small : (w : Wait) (move : Move) → Small w.stage → SmallMove move → SmallNext (move_next w move)
move_small w Stay h m = tt
move_small w (Enter _) h m = m
move_small w (Await _) h m = tt
move_small w Resend h m = resend_small w h
move_small w (Refuse refusal passed) h m = tt
move_small w TooMany h m = tt
move_small w Finish h m = tt

time_small : (w : Wait) (ms : ℕ) → Small w.stage → SmallNext (time_next w ms)
unfolding time_next
time_small w ms h = either_way SmallNext (ltb ms (limit_of w.stage - w.waited)) (λ _. tt) (λ _. resend_small w h)

-- So is what follows an event in a session that could arise, and an opening.
pub event_small : (w : Wait) (image : ℕ) (event : Event) (bytes : List ℕ) → wait_fits image w ≡ true
    → SmallNext (event_next w image event bytes)
event_small w image (Frame command count) bytes h =
    move_small w (frame_move w.plan image w.stage command (take count bytes)) (wait_small image w h)
    (wait_frame image w command (take count bytes) h)
event_small w image (Line count) bytes h =
    move_small w (line_move w.plan w.stage (take count bytes)) (wait_small image w h) (wait_line image w (take count bytes) h)
event_small w image (Elapsed ms) bytes h = time_small w ms (wait_small image w h)

pub plan_small : (plan : Plan) (image : ℕ) → SmallNext (plan_next plan image)
unfolding plan_next
plan_small plan image = either_way SmallNext (loadable plan.kind image) (λ _. first_small plan.start plan.first) (λ _. tt)

-- What follows is small whatever name it has.
pub small_next_same : (next told : Next) → next ≡ told → SmallNext next → SmallNext told
small_next_same next told e h = rw e at h
