-- What one exchange does, told by what is heard in its reply: nothing is accepted, or parameters are, or a packet is.
use Rattle.std.specs.Prelude.{ℕ, ◌-◌, true, false, List, ◌⊎◌, ◌≡◌, refl, leb, length, Option, Some}
use Rattle.std.proofs.Common.{inl, inr, ap, ◌∙◌, arith}
use Rattle.octets.specs.Octets.{Bytes, number_at, part_of, laid}
use Rattle.octets.proofs.Choice.{either_way}
use Rattle.kinds.specs.Kinds.{kind_of}
use Rattle.kinds.specs.KindsLaws.{FitsFlash}
use Rattle.wire.specs.Frame as wire
use Rattle.commands.specs.Commands.{parameters_command, packet_command, notice}
use Rattle.module_model.specs.Phases.{longest_idle, total_of}
use Rattle.module_model.specs.Rules.{frames_of, data_in, put_of, place_of, acknowledge_of}
use Rattle.module_model.proofs.Outcomes.{Belongs, Expects, Accepted, Outcome, stays, restarts, begins, advances, repeats}
use Rattle.module_model.proofs.Replies.{Quiet, Declaring, PacketSaid, nothing_quiet, plain_quiet, begun_declaring, packet_said}
use Rattle.module_model.proofs.Replies.{restart_quiet, notice_last, last_notice}
use Rattle.module_model.proofs.Leads.{advance_accepted}
use Rattle.module_model.specs.Answers.{is_refused, count_in}
use Rattle.module.specs.Session.{stepped, takes}
use Rattle.module.specs.Step.{Left, left, time_step, performed}
use Rattle.module_promises.specs.Runs.{Given, Exchange, exchange, next_of, sent_by, heard_in, Says, payload_of}
use Rattle.module_promises.proofs.RunsLaws.{heard_performed, heard_nothing}
use Rattle.module_promises.proofs.Steps.{Case, refuses, sleeps, waits, hears, step_of_law, outcome_of}
use Rattle.module_promises.proofs.Idle.{time_answer, reply_taken}
use Rattle.module_promises.specs.Promises.{length_in}
use Rattle.module_model.specs.declared.phases.Transfer.{Transfer}
use Rattle.module_model.specs.declared.phases.Pieces.{Pieces}
use Rattle.module_model.specs.declared.phases.Phase.{Phase}
use Rattle.module_model.specs.declared.phases.Phase.TheVariants.{Closed, Begun}
use Rattle.module_model.specs.declared.events.Event.TheVariants.{Frame}
use Rattle.module_model.specs.declared.events.Answer.TheVariants as answer
use Rattle.module_model.specs.declared.rules.Decision.{Decision}
use Rattle.module.specs.declared.session.Session.{Session}
use Rattle.module.specs.declared.session.Stepped.{Stepped}

-- What a reader hears in a reply.
abbrev pub heard_of : Exchange → List wire.Frame
heard_of x = heard_in (sent_by x.left)

-- An exchange accepts parameters that declare a transfer, which fits the lent flash, and writes nothing.
pub record Declares (x : Exchange) (t : Transfer) : Type 0 where
  pub said : Declaring (heard_of x)
  pub count : ℕ
  pub event_is : x.given.event ≡ Frame parameters_command count
  pub kind_is : kind_of (number_at 2 (payload_of x.given) 0) ≡ Some t.kind
  pub length_is : length_in x ≡ t.extent
  pub fitting : FitsFlash t.kind t.extent (length x.given.flash)
  pub same : x.left.flash ≡ x.given.flash

-- A step acknowledges a packet of a transfer; the notice comes with the last one.
pub record AcceptsPacket (s : Session) (g : Given) (p : Pieces) (number : ℕ) : Type 0 where
  pub open_session : takes s ≡ true
  pub count : ℕ
  pub event_is : g.event ≡ Frame packet_command count
  pub belongs : Belongs p number (payload_of g) (length g.flash)
  pub said : PacketSaid number (heard_of (exchange s g))
  pub not_refused : is_refused (exchange s g).left.answer ≡ false
  pub after : Accepted (next_of s g).phase p number
  pub notice_last : Says (exchange s g) (notice 0) → number ≡ total_of p
  pub last_notice : number ≡ total_of p → Says (exchange s g) (notice 0)

-- What a step does: it accepts nothing; or parameters; or the expected packet, which is written; or a repeat of the last accepted.
pub data Turn (s : Session) (g : Given) : Type 0 where
  quiet : Quiet (heard_of (exchange s g)) → (exchange s g).left.flash ≡ g.flash
      → ((next_of s g).phase ≡ s.phase) ⊎ ((next_of s g).phase ≡ Closed) → Turn s g
  declares : (t : Transfer) → Declares (exchange s g) t → (next_of s g).phase ≡ Begun t → Turn s g
  writes : (p : Pieces) (number : ℕ) → AcceptsPacket s g p number → Expects s.phase p number
      → (exchange s g).left.flash ≡ laid g.flash (place_of p number) (data_in (payload_of g)) → Turn s g
  again : (p : Pieces) (number : ℕ) → AcceptsPacket s g p number → Accepted s.phase p number
      → data_in (payload_of g) ≡ part_of g.flash (place_of p number) (length (data_in (payload_of g)))
      → (exchange s g).left.flash ≡ g.flash → Turn s g

-- Where nothing is sent, nothing is accepted.
none_quiet : (l : Left) → count_in l.answer ≡ 0 → Quiet (heard_in (sent_by l))
none_quiet l e = rw (e, heard_nothing) nothing_quiet

-- Time leaves the phase or closes it.
time_phase : (s : Session) (ms : ℕ) → ((time_step s ms).session.phase ≡ s.phase) ⊎ ((time_step s ms).session.phase ≡ Closed)
unfolding time_step
time_phase s ms =
    either_way (λ (r : Stepped). (r.session.phase ≡ s.phase) ⊎ (r.session.phase ≡ Closed)) (leb ms (longest_idle - s.idle))
    (λ e. inl refl) (λ e. inr refl)

-- A frame that an open session performs.
module _ (s : Session) (g : Given) (command count : ℕ) (d : Decision) (t : takes s ≡ true) (ev : g.event ≡ Frame command count)
    (left_is : (exchange s g).left ≡ performed s d (payload_of g) g.flash g.reply) where
  -- What is heard, and the phase and the flash that it leaves.
  heard_is : (e : Decision) → d ≡ e → heard_of (exchange s g) ≡ frames_of e.say
  heard_is e is =
      ap (λ (l : Left). heard_in (sent_by l)) left_is
      ∙ heard_performed s d (payload_of g) g.flash g.reply
      ∙ ap (λ (x : Decision). frames_of x.say) is

  phase_is : (e : Decision) → d ≡ e → (next_of s g).phase ≡ e.phase
  phase_is e is = ap (λ (l : Left). l.session.phase) left_is ∙ ap (λ (x : Decision). x.phase) is

  flash_is : (e : Decision) → d ≡ e → (exchange s g).left.flash ≡ put_of e.put (payload_of g) g.flash
  flash_is e is = ap (λ (l : Left). l.flash) left_is ∙ ap (λ (x : Decision). put_of x.put (payload_of g) g.flash) is

  -- A packet that belongs to the transfer and leads to a phase that has accepted it.
  accepts_packet : (p : Pieces) (number : ℕ) (phase : Phase) (put : Option ℕ) → command ≡ packet_command
      → Belongs p number (payload_of g) (length g.flash) → Accepted phase p number → d ≡ acknowledge_of phase number put
      → AcceptsPacket s g p number
  accepts_packet p number phase put c k after is =
      let heard = heard_is _ is in
      record {
        open_session = t;
        count = count;
        event_is = ev ∙ ap (λ (n : ℕ). Frame n count) c;
        belongs = k;
        said = rw heard (packet_said phase number (omega (arith, k.most, k.cut.total_most)));
        not_refused = rw left_is (reply_taken (frames_of d.say));
        after = rw (phase_is _ is) after;
        notice_last = λ m. notice_last phase p number after (rw heard at m);
        last_notice = λ last. rw heard (last_notice phase p number after last);
      }

  -- Each outcome is a turn.
  frame_turn : Outcome s.phase command (payload_of g) g.flash d → Turn s g
  frame_turn (stays say h e) = quiet (rw (heard_is _ e) (plain_quiet say h)) (flash_is _ e) (inl (phase_is _ e))
  frame_turn (restarts c e) = quiet (rw (heard_is _ e) restart_quiet) (flash_is _ e) (inr (phase_is _ e))
  frame_turn (begins transfer c k n f e) =
      declares transfer
      (record {
        said = rw (heard_is _ e) begun_declaring;
        count = count;
        event_is = ev ∙ ap (λ (n : ℕ). Frame n count) c;
        kind_is = k;
        length_is = n;
        fitting = f;
        same = flash_is _ e;
      })
      (phase_is _ e)
  frame_turn (advances p number c x k e) =
      writes p number (accepts_packet p number _ _ c k (advance_accepted p number (payload_of g) (length g.flash) k) e) x (flash_is _ e)
  frame_turn (repeats p number c x k same e) = again p number (accepts_packet p number _ _ c k x e) x same (flash_is _ e)

-- A step that sends nothing, leaves the flash, and leaves the phase or closes.
silent_turn : (s : Session) (g : Given) (r : Stepped) → count_in r.answer ≡ 0
    → (r.session.phase ≡ s.phase) ⊎ (r.session.phase ≡ Closed) → (exchange s g).left ≡ left r g.flash g.reply → Turn s g
silent_turn s g r none phase e =
    quiet (rw e (none_quiet (left r g.flash g.reply) none)) (ap (λ (x : Left). x.flash) e)
    (rw (ap (λ (x : Left). x.session.phase) e) phase)

-- Any step.
pub turn_of : (s : Session) (g : Given) → Bytes g.payload → Turn s g
turn_of s g bytes = go (exchange s g).left refl (step_of_law s g)
  where
    go : (l : Left) → (exchange s g).left ≡ l → Case s g l → Turn s g
    go l at (refuses n e) = silent_turn s g (stepped s (answer.Refused n)) refl (inl refl) (at ∙ e)
    go l at (sleeps t e) = silent_turn s g (stepped s answer.Nothing) refl (inl refl) (at ∙ e)
    go l at (waits t size ms ev e) = silent_turn s g (time_step s ms) (ap count_in (time_answer s ms)) (time_phase s ms) (at ∙ e)
    go l at (hears t size command count ev e) = frame_turn s g command count _ t ev (at ∙ e) (outcome_of s g bytes t size command)
