-- M4: the idle sum, what is refused, what is closed.
use Rattle.std.specs.Prelude.{ℕ, ◌+◌, ◌-◌, ◌<◌, Bool, true, false, List, [], ◌∷◌, ◌≡◌, refl, leb}
use Rattle.std.proofs.lemmas.Bool.{false≢true}
use Rattle.std.proofs.Common.{sym, ap, ◌∙◌, arith, leb-false}
use Rattle.octets.proofs.Choice.{either_way}
use Rattle.octets.specs.Octets.{Bytes}
use Rattle.wire.specs.Frame as wire
use Rattle.module_model.specs.Phases.{longest_idle, is_closed}
use Rattle.module_model.specs.Rules.{frames_of, decide_of}
use Rattle.module_model.proofs.Leads.{held_open, frame_only}
use Rattle.module_model.specs.Answers.{Answer, is_refused}
use Rattle.module.specs.Session.{stepped, takes}
use Rattle.module.specs.SessionLaws.{takes_facts}
use Rattle.module.specs.Step.{Left, left, time_step, answer_of, step_of}
use Rattle.module_promises.specs.Runs.{Given, exchange, next_of, payload_of}
use Rattle.module_promises.proofs.RunsLaws.{heard_performed}
use Rattle.module_promises.proofs.Forward.{time_counted, time_closed}
use Rattle.module_promises.proofs.Steps.{Case, refuses, sleeps, waits, hears, step_of_law, outcome_of}
use Rattle.module_promises.specs.Promises.{Closes, idle, restart, IdleRule, RefusedLeaves, ClosedLeaves}
use Rattle.module_model.specs.declared.events.Event.{Event}
use Rattle.module_model.specs.declared.events.Event.TheVariants.{Frame, Elapsed}
use Rattle.module_model.specs.declared.events.Answer.TheVariants.{Nothing, Refused}
use Rattle.module.specs.declared.session.Session.{Session}
use Rattle.module.specs.declared.session.Stepped.{Stepped}

-- ---- time

-- Time answers nothing, and closes only with a sum over 7,000.
pub time_answer : (s : Session) (ms : ℕ) → (time_step s ms).answer ≡ Nothing
unfolding time_step
time_answer s ms = either_way (λ (r : Stepped). r.answer ≡ Nothing) (leb ms (longest_idle - s.idle)) (λ e. refl) (λ e. refl)

time_only : (s : Session) (ms : ℕ) → is_closed s.phase ≡ false → is_closed (time_step s ms).session.phase ≡ true → longest_idle < s.idle + ms
unfolding time_step
time_only s ms o =
    either_way (λ (r : Stepped). is_closed r.session.phase ≡ true → longest_idle < s.idle + ms) (leb ms (longest_idle - s.idle))
    (λ e c. absurd (false≢true (sym o ∙ c)))
    (λ e c. omega (arith, leb-false ms (longest_idle - s.idle) e))

-- A reply is no refusal.
pub reply_taken : (fs : List wire.Frame) → is_refused (answer_of fs) ≡ false
reply_taken [] = refl
reply_taken (f ∷ fs) = refl

-- A frame is not passing time.
abbrev is_frame : Event → Bool
is_frame (Frame command count) = true
is_frame (Elapsed ms) = false

-- ---- the promises

-- What closes an open session.
closes_only : (s : Session) → takes s ≡ true → (g : Given) → Bytes g.payload → is_closed (next_of s g).phase ≡ true → Closes step_of s g
closes_only s t g bytes = go (exchange s g).left refl (step_of_law s g)
  where
    opens : is_closed s.phase ≡ false
    opens = held_open s.phase s.flash (takes_facts s t).1

    go : (x : Left) → (exchange s g).left ≡ x → Case s g x → is_closed x.session.phase ≡ true → Closes step_of s g
    go x at (refuses n e) c = absurd (false≢true (sym opens ∙ (rw e at c)))
    go x at (sleeps closed e) c = absurd (false≢true (sym closed ∙ t))
    go x at (waits open_now size ms ev e) c = idle ms ev (time_only s ms opens (rw e at c))
    go x at (hears open_now size command count ev e) c =
        let only = frame_only s.phase command (payload_of g) g.flash _ opens (outcome_of s g bytes t size command) (rw e at c) in
        restart count (ev ∙ ap (λ (k : ℕ). Frame k count) only.0)
        (rw (at ∙ e, heard_performed s (decide_of s.phase command (payload_of g) g.flash) (payload_of g) g.flash g.reply) only.1)

-- A frame that is not refused sets the sum to 0.
frame_restarts : (s : Session) → takes s ≡ true → (g : Given) (command count : ℕ) → g.event ≡ Frame command count
    → is_refused (exchange s g).left.answer ≡ false → (next_of s g).idle ≡ 0
frame_restarts s t g command count is = go (exchange s g).left (step_of_law s g)
  where
    go : (x : Left) → Case s g x → is_refused x.answer ≡ false → x.session.idle ≡ 0
    go x (refuses n e) r = absurd (false≢true (sym (rw e at r)))
    go x (sleeps closed e) r = absurd (false≢true (sym closed ∙ t))
    go x (waits open_now size ms ev e) r = absurd (false≢true (ap is_frame (sym ev ∙ is)))
    go x (hears open_now size c n ev e) r = rw e

pub idle_rule : IdleRule
idle_rule s t = record {
  stays = λ ms payload flash reply room size h. time_counted s ms payload flash reply t size room h;
  closes = λ ms payload flash reply room size h. time_closed s ms payload flash reply t size room h;
  restarts = frame_restarts s t;
  only = closes_only s t;
}

pub refused_leaves : RefusedLeaves
refused_leaves s g n = go (exchange s g).left (step_of_law s g)
  where
    go : (x : Left) → Case s g x → x.answer ≡ Refused n → x ≡ left (stepped s (Refused n)) g.flash g.reply
    go x (refuses m e) r = e ∙ ap (λ (a : Answer). left (stepped s a) g.flash g.reply) (rw e at r)
    go x (sleeps closed e) r = absurd (false≢true (ap is_refused (rw e at r)))
    go x (waits open_now size ms ev e) r = absurd (false≢true (ap is_refused (sym (time_answer s ms) ∙ (rw e at r))))
    go x (hears open_now size c k ev e) r = absurd (false≢true (sym (reply_taken (frames_of (decide_of s.phase c (payload_of g) g.flash).say)) ∙ ap is_refused (rw e at r)))

pub closed_leaves : ClosedLeaves
closed_leaves s g closed = go (exchange s g).left (step_of_law s g)
  where
    go : (x : Left) → Case s g x → is_refused x.answer ≡ false → x ≡ left (stepped s Nothing) g.flash g.reply
    go x (refuses n e) r = absurd (false≢true (sym (rw e at r)))
    go x (sleeps n e) r = e
    go x (waits open_now size ms ev e) r = absurd (false≢true (sym closed ∙ open_now))
    go x (hears open_now size c k ev e) r = absurd (false≢true (sym closed ∙ open_now))
