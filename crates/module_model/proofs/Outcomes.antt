-- What a frame can do to a phase that could arise, as five outcomes with the facts of each.
use Rattle.std.specs.Prelude.{ℕ, ◌+◌, ◌*◌, ◌-◌, ◌≤◌, ◌<◌, true, List, ◌≡◌, eqb, None, Option, Some}
use Rattle.std.proofs.Math.Path.{refl, sym, ap}
use Rattle.std.proofs.Common.{◌∙◌, le_refl, length-drop}
use native.Mathlib.Omega.{arith}
use borrow.Author.Tests.{eqb-true}
use Rattle.std.proofs.Math.ListN.{length}
use Rattle.octets.specs.Octets.{Bytes, number_at, part_of}
use Rattle.octets.proofs.Choice.{both, either_way}
use Rattle.octets.proofs.PartLaws.{number_short}
use Rattle.kinds.specs.Kinds.{kind_of, token_of, fits_flash}
use Rattle.kinds.specs.KindsLaws.{FitsFlash, fits_flash_law}
use Rattle.kinds.specs.declared.Kind.{Kind}
use Rattle.pieces.specs.Pieces.{offset_of, size_at}
use Rattle.pieces.specs.PiecesLaws.{size_first}
use Rattle.commands.specs.Commands.{largest_packet, largest_total, rate_command, parameters_command, packet_command, restart_command}
use Rattle.commands.specs.Commands.{accepted, wrong_first, wrong_second, not_understood}
use Rattle.module_model.specs.Phases.{total_of, fits, held}
use Rattle.module_model.proofs.PhasesLaws.{Cut, cut_total, loading_facts, done_facts}
use Rattle.module_model.specs.Rules.{data_in, unmoved, rate_decision, kind_decision, known_decision, parameters_decision}
use Rattle.module_model.specs.Rules.{restart_decision, numbers_in, well_formed, not_taken, place_of, is_packet, acknowledge_of, taken}
use Rattle.module_model.specs.Rules.{repeat_decision, first_decision, loading_decision, done_decision, phase_decision}
use Rattle.module_model.specs.Rules.{packet_decision, decide_of, packet_head, parameters_length, type_field, length_field, address_field}
use Rattle.module_model.proofs.RulesLaws.{formed, formed_yes, cut_into, PacketOf, packet_is, repeat_is}
use Rattle.module_model.specs.declared.phases.Transfer.{Transfer}
use Rattle.module_model.specs.declared.phases.Pieces.{Pieces}
use Rattle.module_model.specs.declared.phases.Phase.{Phase}
use Rattle.module_model.specs.declared.phases.Phase.TheVariants.{Closed, Ready, Begun, Loading, Done}
use Rattle.module_model.specs.declared.rules.Say.{Say}
use Rattle.module_model.specs.declared.rules.Say.TheVariants.{Nothing, Rate, Parameters, Packet, Last, Restart}
use Rattle.module_model.specs.declared.rules.Decision.{Decision}

-- ---- the outcomes

-- Nothing is accepted by what is said.
abbrev pub Plain : Say → Type 0
Plain Nothing = Unit
Plain (Rate rate ack) = Unit
Plain (Parameters ack) = 1 ≤ ack
Plain (Packet number ack) = (number ≡ 0) × (ack ≡ not_understood)
Plain (Last number state) = ⊥
Plain (Restart ack) = 1 ≤ ack

-- A payload of the form of a packet: its data are as long as it says.
pub record Formed (payload : List ℕ) : Type 0 where
  pub some : 1 ≤ length (data_in payload)
  pub most : length (data_in payload) ≤ largest_packet
  pub size_is : (numbers_in payload).size ≡ length (data_in payload)

-- A packet of a transfer that fits the flash: number, Total and size are as they should be.
pub record Belongs (p : Pieces) (number : ℕ) (payload : List ℕ) (flash : ℕ) : Type 0 where
  pub fitting : FitsFlash p.transfer.kind p.transfer.extent flash
  pub cut : Cut p
  pub one : 1 ≤ number
  pub most : number ≤ total_of p
  pub number_is : number_at 2 payload 2 ≡ number
  pub total_is : number_at 2 payload 0 ≡ total_of p
  pub size_is : length (data_in payload) ≡ size_at p.transfer.extent p.size number
  pub form : Formed payload

-- The phase expects this packet: the first after parameters, or the one behind those accepted.
pub data Expects (phase : Phase) (p : Pieces) (number : ℕ) : Type 0 where
  first : phase ≡ Begun p.transfer → number ≡ 1 → Expects phase p number
  later : (accepted written : ℕ) → phase ≡ Loading p accepted written → number ≡ accepted + 1 → Expects phase p number

-- The phase has just accepted this packet, and there is more to come, or all is written.
pub data Accepted (phase : Phase) (p : Pieces) (number : ℕ) : Type 0 where
  loading : (written : ℕ) → phase ≡ Loading p number written → number < total_of p → Accepted phase p number
  done : phase ≡ Done p p.transfer.extent → number ≡ total_of p → Accepted phase p number

-- What a frame can do: nothing is accepted and the phase stays; restart; parameters; the expected packet; a repeat.
pub data Outcome (phase : Phase) (command : ℕ) (payload flash : List ℕ) (d : Decision) : Type 0 where
  stays : (say : Say) → Plain say → d ≡ unmoved phase say → Outcome phase command payload flash d
  restarts : command ≡ restart_command → d ≡ unmoved Closed (Restart accepted) → Outcome phase command payload flash d
  begins : (t : Transfer) → command ≡ parameters_command → kind_of (type_field payload) ≡ Some t.kind → length_field payload ≡ t.extent
      → FitsFlash t.kind t.extent (length flash) → d ≡ unmoved (Begun t) (Parameters accepted)
      → Outcome phase command payload flash d
  advances : (p : Pieces) (number : ℕ) → command ≡ packet_command → Expects phase p number → Belongs p number payload (length flash)
      → d ≡ taken p number (offset_of p.size number + length (data_in payload)) → Outcome phase command payload flash d
  repeats : (p : Pieces) (number : ℕ) → command ≡ packet_command → Accepted phase p number → Belongs p number payload (length flash)
      → data_in payload ≡ part_of flash (place_of p number) (length (data_in payload)) → d ≡ acknowledge_of phase number None
      → Outcome phase command payload flash d

-- ---- the commands, one by one

module _ (phase : Phase) (command : ℕ) (payload flash : List ℕ) where
  abbrev Out : Decision → Type 0
  Out = Outcome phase command payload flash

  plain : (say : Say) → Plain say → Out (unmoved phase say)
  plain say h = stays say h refl

  rate_outcome : Out (rate_decision phase payload)
  unfolding rate_decision
  rate_outcome = either_way Out (eqb (length payload) 1) (λ e. plain _ tt) (λ e. plain _ tt)

  restart_outcome : command ≡ restart_command → Out (restart_decision phase payload)
  unfolding restart_decision
  restart_outcome c =
      either_way Out (eqb (length payload) 0) (λ e. restarts c refl) (λ e. plain (Restart not_understood) (omega arith))

  kind_outcome : (k : Kind) → command ≡ parameters_command → kind_of (type_field payload) ≡ Some k
      → Out (kind_decision phase k payload (length flash))
  unfolding kind_decision
  kind_outcome k c e =
      either_way Out (eqb (address_field payload) (token_of k))
      (λ t. either_way Out (fits_flash k (length_field payload) (length flash))
      (λ f. begins (record { kind = k; extent = length_field payload }) c e refl (fits_flash_law k (length_field payload) (length flash) f) refl)
      (λ f. plain (Parameters wrong_second) (omega arith)))
      (λ t. plain (Parameters not_understood) (omega arith))

  known_outcome : (k : Option Kind) → command ≡ parameters_command → kind_of (type_field payload) ≡ k
      → Out (known_decision phase k payload (length flash))
  known_outcome (Some k) c e = kind_outcome k c e
  known_outcome None c e = plain (Parameters wrong_first) (omega arith)

  parameters_outcome : command ≡ parameters_command → Out (parameters_decision phase payload (length flash))
  unfolding parameters_decision
  parameters_outcome c =
      either_way Out (eqb (length payload) parameters_length) (λ e. known_outcome (kind_of (type_field payload)) c refl)
      (λ e. plain (Parameters not_understood) (omega arith))

-- ---- packets

pub data_formed : (payload : List ℕ) → well_formed (length payload) (numbers_in payload).size ≡ true → Formed payload
data_formed payload h =
    let f = formed (length payload) (numbers_in payload).size h in
    let data_size : length (data_in payload) ≡ (numbers_in payload).size = length-drop packet_head payload ∙ omega (arith, f.long) in
    record { some = omega (arith, data_size, f.some); most = omega (arith, data_size, f.most); size_is = sym data_size }

pub formed_data : (payload : List ℕ) → Formed payload → well_formed (length payload) (numbers_in payload).size ≡ true
formed_data payload f =
    let rest : length (data_in payload) ≡ length payload - packet_head = length-drop packet_head payload in
    formed_yes (length payload) (numbers_in payload).size (record {
      some = omega (arith, f.some, f.size_is);
      most = omega (arith, f.most, f.size_is);
      long = omega (arith, f.some, f.size_is, rest);
    })

-- Two bytes carry a Total.
total_short : (payload : List ℕ) → Bytes payload → (numbers_in payload).total ≤ largest_total
unfolding numbers_in
total_short payload bytes = omega (arith, number_short 2 payload 0 bytes)

-- A packet with the right numbers belongs to the transfer.
belongs : (p : Pieces) (number : ℕ) (payload flash : List ℕ) → FitsFlash p.transfer.kind p.transfer.extent (length flash)
    → Cut p → 1 ≤ number → number ≤ total_of p → Formed payload → PacketOf p number (numbers_in payload)
    → Belongs p number payload (length flash)
unfolding numbers_in
belongs p number payload flash fit cut one most form k = record {
  fitting = fit;
  cut = cut;
  one = one;
  most = most;
  number_is = k.this;
  total_is = k.total;
  size_is = sym form.size_is ∙ k.size;
  form = form;
}

module _ (command : ℕ) (payload flash : List ℕ) (c : command ≡ packet_command) (form : Formed payload) where
  -- A packet that is not taken.
  not_taken_law : (phase : Phase) → Outcome phase command payload flash (not_taken phase)
  not_taken_law phase = stays (Packet 0 not_understood) (refl, refl) refl

  -- A repeat, or not.
  repeat_outcome : (phase : Phase) (p : Pieces) (number : ℕ) → Accepted phase p number
      → FitsFlash p.transfer.kind p.transfer.extent (length flash) → Cut p → 1 ≤ number → number ≤ total_of p
      → Outcome phase command payload flash (repeat_decision phase p number (numbers_in payload) (data_in payload) flash)
  unfolding repeat_decision
  repeat_outcome phase p number behind fit cut one most =
      either_way (Outcome phase command payload flash) _
      (λ r.
      let k = repeat_is p number (numbers_in payload) (data_in payload) flash r in
      repeats p number c behind (belongs p number payload flash fit cut one most form k.packet)
      (k.same ∙ ap (part_of flash (place_of p number)) form.size_is) refl)
      (λ r. not_taken_law phase)

  -- Before packet 1.
  first_outcome : (t : Transfer) → Bytes payload → fits t (length flash) ≡ true
      → Outcome (Begun t) command payload flash (first_decision t (numbers_in payload))
  unfolding first_decision
  first_outcome t bytes held =
      either_way (Outcome (Begun t) command payload flash) _
      (λ r.
      let fit = fits_flash_law t.kind t.extent (length flash) held in
      let given = numbers_in payload in
      let each = both (eqb given.number 1) _ r in
      let p : Pieces = record { transfer = t; size = given.size } in
      let some : 1 ≤ given.size = omega (arith, form.some, form.size_is) in
      let into = cut_into t.extent given.total given.size fit.some some each.1 in
      let cut : Cut p = record {
        some = some;
        small = omega (arith, form.most, form.size_is);
        within = into.short;
        total_most = omega (arith, into.count, total_short payload bytes);
      } in
      let packet : PacketOf p 1 given = record {
        this = eqb-true given.number 1 each.0;
        total = into.count;
        size = sym (size_first t.extent given.size some into.short);
      } in
      advances p 1 c (first refl refl) (belongs p 1 payload flash fit cut (omega arith) (cut_total p cut) form packet)
      (ap (taken p 1) (omega (arith, form.size_is))))
      (λ r. not_taken_law (Begun t))

  -- While loading.
  loading_outcome : (p : Pieces) (number written : ℕ) → held (Loading p number written) (length flash) ≡ true
      → Outcome (Loading p number written) command payload flash (loading_decision p number written (numbers_in payload) (data_in payload) flash)
  unfolding loading_decision
  loading_outcome p number written held =
      let l = loading_facts p (length flash) number written held in
      either_way (Outcome (Loading p number written) command payload flash) (is_packet p (number + 1) (numbers_in payload))
      (λ r.
      let packet = packet_is p (number + 1) (numbers_in payload) r in
      let at : number + 1 - 1 ≡ number = omega arith in
      let count : written + (numbers_in payload).size ≡ offset_of p.size (number + 1) + length (data_in payload) =
      rw (at, l.all) (ap (λ (n : ℕ). number * p.size + n) form.size_is) in
      advances p (number + 1) c (later number written refl refl)
      (belongs p (number + 1) payload flash l.fitting l.cut (omega arith) (omega (arith, l.before)) form packet)
      (ap (taken p (number + 1)) count))
      (λ r.
      repeat_outcome (Loading p number written) p number (loading written refl l.before) l.fitting l.cut l.one
      (omega (arith, l.before)))

  -- When done.
  done_outcome : (p : Pieces) (written : ℕ) → held (Done p written) (length flash) ≡ true
      → Outcome (Done p written) command payload flash (done_decision p written (numbers_in payload) (data_in payload) flash)
  unfolding done_decision
  done_outcome p written held =
      let d = done_facts p (length flash) written held in
      repeat_outcome (Done p written) p (total_of p) (done (ap (Done p) d.all) refl) d.fitting d.cut (cut_total p d.cut)
      (le_refl (total_of p))

  -- Any phase.
  phase_outcome : (phase : Phase) → Bytes payload → held phase (length flash) ≡ true
      → Outcome phase command payload flash (phase_decision phase (numbers_in payload) (data_in payload) flash)
  phase_outcome Closed bytes held = not_taken_law Closed
  phase_outcome Ready bytes held = not_taken_law Ready
  phase_outcome (Begun t) bytes held = first_outcome t bytes held
  phase_outcome (Loading p number written) bytes held = loading_outcome p number written held
  phase_outcome (Done p written) bytes held = done_outcome p written held

-- 0x05 in any phase.
packet_outcome : (phase : Phase) (command : ℕ) (payload flash : List ℕ) → command ≡ packet_command → Bytes payload
    → held phase (length flash) ≡ true → Outcome phase command payload flash (packet_decision phase payload flash)
unfolding packet_decision
packet_outcome phase command payload flash c bytes held =
    either_way (Outcome phase command payload flash) (well_formed (length payload) (numbers_in payload).size)
    (λ w. phase_outcome command payload flash c (data_formed payload w) phase bytes held)
    (λ w. stays (Packet 0 not_understood) (refl, refl) refl)

-- Any frame.
pub outcome : (phase : Phase) (command : ℕ) (payload flash : List ℕ) → Bytes payload → held phase (length flash) ≡ true
    → Outcome phase command payload flash (decide_of phase command payload flash)
unfolding decide_of
outcome phase command payload flash bytes held =
    let Out = Outcome phase command payload flash in
    either_way Out (eqb command rate_command) (λ c. rate_outcome phase command payload flash) (λ c.
    either_way Out (eqb command parameters_command) (λ c. parameters_outcome phase command payload flash (eqb-true command parameters_command c)) (λ c.
    either_way Out (eqb command packet_command) (λ c. packet_outcome phase command payload flash (eqb-true command packet_command c) bytes held) (λ c.
    either_way Out (eqb command restart_command) (λ c. restart_outcome phase command payload flash (eqb-true command restart_command c)) (λ c.
    plain phase command payload flash Nothing tt))))
