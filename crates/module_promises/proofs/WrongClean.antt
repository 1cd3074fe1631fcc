-- Wrong steps that break M3: one never writes, one refuses every packet, one drops the transfer when it refuses an event.
use Rattle.std.specs.Prelude.{ℕ, cond, List, [], ◌∷◌, ◌≡◌, refl, ltb, length, get_or}
use Rattle.std.proofs.Common.{sym, ap, ◌∙◌, arith}
use Rattle.octets.specs.Octets.{laid, number_at, little}
use Rattle.refusals.specs.Refusals.{no_room}
use Rattle.kinds.specs.Kinds.{kind_of, fits_flash}
use Rattle.kinds.specs.declared.Kind.TheVariants.{Upgrade}
use Rattle.pieces.specs.Pieces.{count_of}
use Rattle.commands.specs.Commands.{not_understood, packet_reply}
use Rattle.module_model.specs.Phases.{openable, alive}
use Rattle.module_model.specs.Rules as rules
use Rattle.module_model.proofs.Replies.{plain_quiet}
use Rattle.module.specs.Session.{session, stepped, takes}
use Rattle.module.specs.Step.{left, smallest_reply, frame_step, step_of}
use Rattle.module_promises.specs.Runs.{Step, Given, Exchange, given, run_by, carried_by}
use Rattle.module_promises.proofs.RunsLaws.{heard_performed}
use Rattle.module_promises.specs.Promises.{CleanSucceedsOf, CleanAmongRefusedOf}
use Rattle.module_promises.proofs.Tiny.{flash, image, ready, tiny, declares, sends, begun4, ready_takes, tiny_fits, tiny_clean, last_of, last_is, heard_of}
use Rattle.module_promises.proofs.WrongRules.{step_by, writes_nothing, refuses_all}
use Rattle.module_model.specs.declared.phases.Phase.TheVariants.{Ready}
use Rattle.module_model.specs.declared.events.Event.TheVariants.{Frame}
use Rattle.module_model.specs.declared.events.Answer.TheVariants.{Refused}
use Rattle.module_model.specs.declared.rules.Say.TheVariants.{Packet}

-- ---- nothing is written

abbrev flash_of : Exchange → List ℕ
flash_of x = x.left.flash

pub never_writes_refuted : CleanSucceedsOf (step_by writes_nothing) → ⊥
unfolding laid carried_by takes alive openable kind_of fits_flash number_at little rules.decide_of rules.parameters_decision rules.kind_decision
never_writes_refuted promise =
    let e = promise ready flash Upgrade image 4 tiny ready_takes refl tiny_fits tiny_clean in
    let same : flash ≡ image = ap (last_of flash_of []) e.split ∙ last_is flash_of [] e.before e.last ∙ e.leaves in
    let first : ◌≡◌ {A = ℕ} 9 1 = ap (λ (l : List ℕ). get_or l 0 0) same in
    omega (arith, first)

-- ---- every packet is refused

pub refuses_clean_refuted : CleanSucceedsOf (step_by refuses_all) → ⊥
unfolding carried_by takes alive openable kind_of fits_flash count_of number_at little rules.decide_of rules.parameters_decision rules.kind_decision
refuses_clean_refuted promise =
    let e = promise ready flash Upgrade image 4 tiny ready_takes refl tiny_fits tiny_clean in
    let said : heard_of e.last ≡ packet_reply 0 not_understood ∷ [] =
    sym (last_is heard_of [] e.before e.last)
    ∙ sym (ap (last_of heard_of []) e.split)
    ∙ heard_performed begun4 (rules.not_taken begun4.phase) sends.payload flash sends.reply in
    (plain_quiet (Packet 0 not_understood) (refl, refl)).no_packet 1 (rw said at e.acknowledges)

-- ---- a refused event drops the transfer

abbrev pub drops_at_refused : Step
drops_at_refused s e payload lent reply =
    cond (ltb (length reply) smallest_reply) (left (stepped (session s.flash s.idle Ready) (Refused no_room)) lent reply)
    (step_of s e payload lent reply)

-- The tiny transfer, and between its frames one without room for a reply.
abbrev among : List Given
among = given flash declares ∷ record { event = Frame 6 0; payload = []; flash = flash; reply = [] } ∷ given flash sends ∷ []

pub drops_at_refused_refuted : CleanAmongRefusedOf drops_at_refused → ⊥
unfolding laid run_by step_of frame_step takes alive openable kind_of fits_flash number_at little rules.decide_of rules.parameters_decision
    rules.kind_decision rules.packet_decision rules.well_formed rules.numbers_in
drops_at_refused_refuted promise =
    let e = promise ready flash Upgrade image 4 among ready_takes refl tiny_fits ((λ _. refl), ((λ _. refl), ((λ _. refl), tt))) tiny_clean in
    let same : flash ≡ image = ap (last_of flash_of []) e.split ∙ last_is flash_of [] e.before e.last ∙ e.leaves in
    let first : ◌≡◌ {A = ℕ} 9 1 = ap (λ (l : List ℕ). get_or l 0 0) same in
    omega (arith, first)
