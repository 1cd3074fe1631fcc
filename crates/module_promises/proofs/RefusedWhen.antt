-- 2 and 3 come exactly when the table says.
use Rattle.refusals.specs.declared.Refusal.{Refusal}
use Rattle.std.specs.Prelude.{ℕ, ◌≤◌, ◌<◌, false, List, ◌≡◌, refl, eqb, ltb, length}
use Rattle.std.proofs.lemmas.Bool.{false≢true, eqb-false}
use Rattle.std.proofs.Common.{inl, inr, sym, ap, ◌∙◌, arith, ltb-true, ltb-false, eqb-true}
use Rattle.octets.proofs.Choice.{either_way}
use Rattle.refusals.specs.Refusals.{no_room, wrong_length}
use Rattle.module_model.specs.Rules.{frames_of, decide_of}
use Rattle.module_model.specs.Answers.{Answer, is_refused}
use Rattle.module.specs.Session.{takes}
use Rattle.module.specs.Step.{Left, event_step, frame_step, smallest_reply, step_of}
use Rattle.module_promises.specs.Runs.{Given, exchange}
use Rattle.module_promises.proofs.Idle.{time_answer, reply_taken}
use Rattle.module_promises.specs.Promises.{Refuses, RefusedExactly}
use Rattle.module_model.specs.declared.events.Event.{Event}
use Rattle.module_model.specs.declared.events.Answer.TheVariants.{Refused}
use Rattle.module.specs.declared.session.Session.{Session}

-- The three ways of a step: 2, 3, or not refused.
data Way (s : Session) (flash reply : List ℕ) (a : Answer) : Type 0 where
  small : length reply < smallest_reply → a ≡ Refused no_room → Way s flash reply a
  other : smallest_reply ≤ length reply → (length flash ≡ s.flash → ⊥) → a ≡ Refused wrong_length → Way s flash reply a
  taken : smallest_reply ≤ length reply → length flash ≡ s.flash → is_refused a ≡ false → Way s flash reply a

-- No event in an open session is refused.
event_taken : (s : Session) (e : Event) (payload flash reply : List ℕ) → is_refused (event_step s e payload flash reply).answer ≡ false
unfolding frame_step
event_taken s (Event.Frame command count) payload flash reply = reply_taken (frames_of (decide_of s.phase command _ flash).say)
event_taken s (Event.Elapsed ms) payload flash reply = ap is_refused (time_answer s ms)

way_of : (s : Session) (g : Given) → Way s g.flash g.reply (exchange s g).left.answer
unfolding step_of
way_of s g =
    let W : Left → Type 0 = λ (x : Left). Way s g.flash g.reply x.answer in
    either_way W (ltb (length g.reply) smallest_reply) (λ r. small (ltb-true (length g.reply) smallest_reply r) refl) (λ r.
    let room : smallest_reply ≤ length g.reply = ltb-false (length g.reply) smallest_reply r in
    either_way W (eqb (length g.flash) s.flash)
    (λ f.
    let same : length g.flash ≡ s.flash = eqb-true (length g.flash) s.flash f in
    either_way W (takes s) (λ t. taken room same (event_taken s g.event g.payload g.flash g.reply)) (λ t. taken room same refl))
    (λ f. other room (eqb-false (length g.flash) s.flash f) refl))

-- Two refusals that are answered alike are one.
same_number : (n m : Refusal) → Refused n ≡ Refused m → n ≡ m
same_number n m e = cc

-- What is not refused is not refused with any of them.
never : (a : Answer) (n : Refusal) → is_refused a ≡ false → a ≡ Refused n → ⊥
never a n free e = false≢true (sym free ∙ ap is_refused e)

pub refused_exactly : RefusedExactly
refused_exactly s g = go (exchange s g).left.answer refl (way_of s g)
  where
    go : (a : Answer) → (exchange s g).left.answer ≡ a → Way s g.flash g.reply a → Refuses step_of s g
    go a at (small short e) = record {
      two = λ _. short;
      two_when = λ _. at ∙ e;
      three = λ r. let same = same_number no_room wrong_length (sym e ∙ sym at ∙ r) in cc;
      three_when = λ room _. absurd (omega (arith, short, room));
      no_other = λ n r. inl (same_number n no_room (sym r ∙ at ∙ e));
    }
    go a at (other room differs e) = record {
      two = λ r. let same = same_number wrong_length no_room (sym e ∙ sym at ∙ r) in cc;
      two_when = λ short. absurd (omega (arith, short, room));
      three = λ _. (room, differs);
      three_when = λ _ _. at ∙ e;
      no_other = λ n r. inr (same_number n wrong_length (sym r ∙ at ∙ e));
    }
    go a at (taken room same free) = record {
      two = λ r. absurd (never a no_room free (sym at ∙ r));
      two_when = λ short. absurd (omega (arith, short, room));
      three = λ r. absurd (never a wrong_length free (sym at ∙ r));
      three_when = λ _ differs. absurd (differs same);
      no_other = λ n r. absurd (never a n free (sym at ∙ r));
    }
