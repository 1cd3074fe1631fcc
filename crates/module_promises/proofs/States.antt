-- M1: whatever the module says with the command of a notice has State 0.
use mathlib.Core.List.Memᴰ
use mathlib.Core.List.{[], ◌∷◌, Memᴰ}
use Rattle.std.proofs.Common.{⊎_elim, ap, ◌∙◌}
use Rattle.std.specs.Prelude.{◌≡◌, refl}
use Rattle.octets.specs.Octets.{Bytes}
use Rattle.wire.specs.Frame as wire
use Rattle.commands.specs.Commands.{notice_command}
use Rattle.module_model.specs.Rules.{frames_of, decide_of}
use Rattle.module_model.proofs.Replies.{said_notice}
use Rattle.module_model.specs.Answers.{count_in}
use Rattle.module.specs.Step.{Left}
use Rattle.module_promises.specs.Runs.{Given, exchange, next_of, run_of, run_by, Says, heard_in, sent_by, payload_of}
use Rattle.module_promises.proofs.RunsLaws.{heard_performed, heard_nothing}
use Rattle.module_promises.proofs.Steps.{Case, refuses, sleeps, waits, hears, step_of_law, outcome_of}
use Rattle.module_promises.proofs.Idle.{time_answer}
use Rattle.module_promises.specs.Promises.{OurNotice, state_0, OnlyState0}
use Rattle.module.specs.declared.session.Session.{Session}

-- Any step.
step_notices : (s : Session) (g : Given) → Bytes g.payload → (f : wire.Frame) → Says (exchange s g) f → f.command ≡ notice_command → OurNotice f
step_notices s g bytes f says is = go (exchange s g).left refl (step_of_law s g)
  where
    none : (l : Left) → (exchange s g).left ≡ l → count_in l.answer ≡ 0 → OurNotice f
    none l at e =
        let silent : heard_in (sent_by (exchange s g).left) ≡ [] = rw (at, e) heard_nothing in
        absurd (Memᴰ.not-nil (rw silent at says))

    go : (l : Left) → (exchange s g).left ≡ l → Case s g l → OurNotice f
    go l at (refuses n e) = none l at (rw e)
    go l at (sleeps t e) = none l at (rw e)
    go l at (waits t size ms ev e) = none l at (rw e (ap count_in (time_answer s ms)))
    go l at (hears t size command count ev e) =
        let d = decide_of s.phase command (payload_of g) g.flash in
        let heard : heard_in (sent_by (exchange s g).left) ≡ frames_of d.say =
        ap (λ (x : Left). heard_in (sent_by x)) (at ∙ e) ∙ heard_performed s d (payload_of g) g.flash g.reply in
        state_0 (said_notice s.phase command (payload_of g) g.flash d (outcome_of s g bytes t size command) f (rw heard at says) is)

pub only_state_0 : OnlyState0
unfolding run_by
only_state_0 s [] all x m f says is = absurd (Memᴰ.not-nil m)
only_state_0 s (g ∷ gs) all x m f says is =
    ⊎_elim (λ (e : x ≡ exchange s g). step_notices s g all.0 f (rw e at says) is)
    (λ (r : Memᴰ x (run_of (next_of s g) gs)). only_state_0 (next_of s g) gs all.1 x r f says is)
    (Memᴰ.cases_cons m)
