-- The laws of Rules.
use Rattle.std.specs.Prelude.{ℕ, ◌+◌, ◌*◌, ◌-◌, ◌≤◌, true, false, ◌&&◌, List, ◌≡◌, refl, eqb, leb, length, get_or, None}
use Rattle.std.proofs.Math.Bool.{not-eq-not}
use Rattle.std.proofs.Common.{sym, ap, ◌∙◌, mul-le-mul, arith, le-leb, leb-true, eq-eqb, ne_eqb, eqb-true}
use Rattle.std.proofs.Math.Decide.{ℕ_discrete}
use Rattle.octets.proofs.Choice.{cond_yes, cond_no, both}
use Rattle.octets.specs.Octets.{part_of, same_bytes}
use Rattle.octets.proofs.OctetsLaws.{same_refl, same_true}
use Rattle.kinds.specs.Kinds.{kind_of, token_of, fits_flash}
use Rattle.kinds.specs.KindsLaws.{base_short}
use Rattle.kinds.specs.declared.Kind.{Kind}
use Rattle.pieces.specs.Pieces.{count_of, size_at, offset_of}
use Rattle.pieces.specs.PiecesLaws.{count_many, count_some, count_one, count_whole}
use Rattle.commands.specs.Commands.{largest_packet, accepted, wrong_first, wrong_second, not_understood, rate_command, parameters_command}
use Rattle.commands.specs.Commands.{largest_total, packet_command, restart_command}
use Rattle.module_model.specs.Phases.{total_of}
use Rattle.module_model.specs.Rules.{packet_head, parameters_length, type_field, length_field, address_field, state_whole, state_short}
use Rattle.module_model.specs.Rules.{unmoved, rate_ack, rate_decision, kind_decision, known_decision, parameters_decision}
use Rattle.module_model.specs.Rules.{restart_decision, numbers_in, well_formed, data_in, not_taken, cuts_into, place_of, is_packet}
use Rattle.module_model.specs.Rules.{is_repeat, phase_at, state_of, acknowledge_of, taken, repeat_decision, first_decision}
use Rattle.module_model.specs.Rules.{loading_decision, done_decision, phase_decision, packet_decision, decide_of}
use Rattle.module_model.specs.declared.phases.Transfer.{Transfer}
use Rattle.module_model.specs.declared.phases.Pieces.{Pieces}
use Rattle.module_model.specs.declared.phases.Phase.{Phase}
use Rattle.module_model.specs.declared.phases.Phase.TheVariants.{Closed, Begun, Loading, Done}
use Rattle.module_model.specs.declared.rules.Say.TheVariants.{Nothing, Rate, Parameters, Restart}
use Rattle.module_model.specs.declared.rules.Numbers.{Numbers}

-- ---- 0x01

-- The five rates.
pub record RateOf (rate : ℕ) : Type 0 where
  pub some : 1 ≤ rate
  pub most : rate ≤ 5

-- A rate of the five is accepted, any other refused.
pub rate_yes : (rate : ℕ) → RateOf rate → rate_ack rate ≡ accepted
unfolding rate_ack
rate_yes rate r = rw (le-leb 1 rate r.some, le-leb rate 5 r.most)

pub rate_no : (rate : ℕ) → (RateOf rate → ⊥) → rate_ack rate ≡ wrong_first
unfolding rate_ack
rate_no rate h = cond_no (leb 1 rate && leb rate 5) accepted wrong_first (not-eq-not.0 (λ e. h (five e)))
  where
    five : (leb 1 rate && leb rate 5) ≡ true → RateOf rate
    five e = let each = both (leb 1 rate) _ e in record { some = leb-true 1 rate each.0; most = leb-true rate 5 each.1 }

-- A payload of one byte is answered with its rate, any other is not understood.
pub rate_one : (phase : Phase) (payload : List ℕ) → length payload ≡ 1
    → rate_decision phase payload ≡ unmoved phase (Rate (get_or payload 0 0) (rate_ack (get_or payload 0 0)))
unfolding rate_decision
rate_one phase payload h = cond_yes _ _ _ (eq-eqb (length payload) 1 h)

pub rate_other : (phase : Phase) (payload : List ℕ) → (length payload ≡ 1 → ⊥)
    → rate_decision phase payload ≡ unmoved phase (Rate 0 not_understood)
unfolding rate_decision
rate_other phase payload h = cond_no _ _ _ (ne_eqb (length payload) 1 h)

-- ---- 0x02

-- A known type with its token and a length that fits begins a transfer.
pub kind_begins : (phase : Phase) (kind : Kind) (payload : List ℕ) (flash : ℕ) → address_field payload ≡ token_of kind
    → fits_flash kind (length_field payload) flash ≡ true
    → kind_decision phase kind payload flash
    ≡ unmoved (Begun (record { kind = kind; extent = length_field payload })) (Parameters accepted)
unfolding kind_decision
kind_begins phase kind payload flash h k = cond_yes _ _ _ (eq-eqb (address_field payload) (token_of kind) h) ∙ cond_yes _ _ _ k

-- With another address it is not understood, with a length that does not fit refused.
pub kind_address : (phase : Phase) (kind : Kind) (payload : List ℕ) (flash : ℕ) → (address_field payload ≡ token_of kind → ⊥)
    → kind_decision phase kind payload flash ≡ unmoved phase (Parameters not_understood)
unfolding kind_decision
kind_address phase kind payload flash h = cond_no _ _ _ (ne_eqb (address_field payload) (token_of kind) h)

pub kind_length : (phase : Phase) (kind : Kind) (payload : List ℕ) (flash : ℕ) → address_field payload ≡ token_of kind
    → fits_flash kind (length_field payload) flash ≡ false
    → kind_decision phase kind payload flash ≡ unmoved phase (Parameters wrong_second)
unfolding kind_decision
kind_length phase kind payload flash h k = cond_yes _ _ _ (eq-eqb (address_field payload) (token_of kind) h) ∙ cond_no _ _ _ k

-- A payload of ten bytes is decided by its type, any other is not understood.
pub parameters_ten : (phase : Phase) (payload : List ℕ) (flash : ℕ) → length payload ≡ parameters_length
    → parameters_decision phase payload flash ≡ known_decision phase (kind_of (type_field payload)) payload flash
unfolding parameters_decision
parameters_ten phase payload flash h = cond_yes _ _ _ (eq-eqb (length payload) parameters_length h)

pub parameters_other : (phase : Phase) (payload : List ℕ) (flash : ℕ) → (length payload ≡ parameters_length → ⊥)
    → parameters_decision phase payload flash ≡ unmoved phase (Parameters not_understood)
unfolding parameters_decision
parameters_other phase payload flash h = cond_no _ _ _ (ne_eqb (length payload) parameters_length h)

-- ---- 0x06

-- An empty payload closes, any other is not understood.
pub restart_none : (phase : Phase) (payload : List ℕ) → length payload ≡ 0
    → restart_decision phase payload ≡ unmoved Closed (Restart accepted)
unfolding restart_decision
restart_none phase payload h = cond_yes _ _ _ (eq-eqb (length payload) 0 h)

pub restart_other : (phase : Phase) (payload : List ℕ) → (length payload ≡ 0 → ⊥)
    → restart_decision phase payload ≡ unmoved phase (Restart not_understood)
unfolding restart_decision
restart_other phase payload h = cond_no _ _ _ (ne_eqb (length payload) 0 h)

-- ---- 0x05: which packet it is

-- A payload of n bytes has the form of a packet of a size.
pub record FormOf (n size : ℕ) : Type 0 where
  pub some : 1 ≤ size
  pub most : size ≤ largest_packet
  pub long : n ≡ packet_head + size

-- The test says just these three facts.
pub formed : (n size : ℕ) → well_formed n size ≡ true → FormOf n size
unfolding well_formed
formed n size h =
    let first = both (leb 1 size) _ h in
    let rest = both (leb size largest_packet) _ first.1 in
    record { some = leb-true 1 size first.0; most = leb-true size largest_packet rest.0; long = eqb-true n (packet_head + size) rest.1 }

pub formed_yes : (n size : ℕ) → FormOf n size → well_formed n size ≡ true
unfolding well_formed
formed_yes n size f = rw (le-leb 1 size f.some, le-leb size largest_packet f.most, eq-eqb n (packet_head + size) f.long)

pub formed_no : (n size : ℕ) → (FormOf n size → ⊥) → well_formed n size ≡ false
formed_no n size h = not-eq-not.0 (λ e. h (formed n size e))

-- Of a size that a packet can have the length decides.
pub formed_long : (n size : ℕ) → 1 ≤ size → size ≤ largest_packet → well_formed n size ≡ eqb n (packet_head + size)
unfolding well_formed
formed_long n size h k = rw (le-leb 1 size h, le-leb size largest_packet k)

-- Total 1 asks for the length in one packet, any other Total for length / size rounded up.
pub cuts_one : (n total size : ℕ) → total ≡ 1 → cuts_into n total size ≡ eqb size n
unfolding cuts_into
cuts_one n total size h = cond_yes _ _ _ (eq-eqb total 1 h)

pub cuts_more : (n total size : ℕ) → (total ≡ 1 → ⊥) → cuts_into n total size ≡ eqb total (count_of n size)
unfolding cuts_into
cuts_more n total size h = cond_no _ _ _ (ne_eqb total 1 h)

-- A size that cuts a length into so many packets: Total is the count of pieces, and the size is not over the length.
pub record CutOf (n total size : ℕ) : Type 0 where
  pub count : total ≡ count_of n size
  pub short : size ≤ n

-- For a length and a size that are not 0 the test says just these two facts.
pub cut_into : (n total size : ℕ) → 1 ≤ n → 1 ≤ size → cuts_into n total size ≡ true → CutOf n total size
cut_into n total size h k e = go (ℕ_discrete total 1)
  where
    go : Dec (total ≡ 1) → CutOf n total size
    go (yes one) =
        let same : size ≡ n = eqb-true size n (sym (cuts_one n total size one) ∙ e) in
        record { count = one ∙ sym (ap (count_of n) same ∙ count_whole n h); short = omega (arith, same) }
    go (no more) =
        let same : total ≡ count_of n size = eqb-true total (count_of n size) (sym (cuts_more n total size more) ∙ e) in
        let many : 2 ≤ count_of n size = omega (arith, same, more, count_some n size h k) in
        record { count = same; short = omega (arith, count_many n size k many) }

pub cut_yes : (n total size : ℕ) → 1 ≤ n → 1 ≤ size → CutOf n total size → cuts_into n total size ≡ true
cut_yes n total size h k c = go (ℕ_discrete total 1)
  where
    go : Dec (total ≡ 1) → cuts_into n total size ≡ true
    go (yes one) =
        let long : n ≤ size = count_one n size h k (sym c.count ∙ one) in
        cuts_one n total size one ∙ eq-eqb size n (omega (arith, long, c.short))
    go (no more) = cuts_more n total size more ∙ eq-eqb total (count_of n size) c.count

-- The numbers are those of this packet of the transfer.
pub record PacketOf (p : Pieces) (number : ℕ) (given : Numbers) : Type 0 where
  pub this : given.number ≡ number
  pub total : given.total ≡ total_of p
  pub size : given.size ≡ size_at p.transfer.extent p.size number

-- The test says just these three facts.
pub packet_is : (p : Pieces) (number : ℕ) (given : Numbers) → is_packet p number given ≡ true → PacketOf p number given
unfolding is_packet
packet_is p number given h =
    let size = size_at p.transfer.extent p.size number in
    let first = both (eqb given.number number) _ h in
    let rest = both (eqb given.total (total_of p)) _ first.1 in
    record {
      this = eqb-true given.number number first.0;
      total = eqb-true given.total (total_of p) rest.0;
      size = eqb-true given.size size rest.1;
    }

pub packet_yes : (p : Pieces) (number : ℕ) (given : Numbers) → PacketOf p number given → is_packet p number given ≡ true
unfolding is_packet
packet_yes p number given f =
    rw (
      eq-eqb given.number number f.this,
      eq-eqb given.total (total_of p) f.total,
      eq-eqb given.size (size_at p.transfer.extent p.size number) f.size,
    )

pub packet_no : (p : Pieces) (number : ℕ) (given : Numbers) → (PacketOf p number given → ⊥) → is_packet p number given ≡ false
packet_no p number given h = not-eq-not.0 (λ e. h (packet_is p number given e))

-- With the right number and Total the size decides.
pub packet_size : (p : Pieces) (number : ℕ) (given : Numbers) → given.number ≡ number → given.total ≡ total_of p
    → is_packet p number given ≡ eqb given.size (size_at p.transfer.extent p.size number)
unfolding is_packet
packet_size p number given h k = rw (eq-eqb given.number number h, eq-eqb given.total (total_of p) k)

-- A repeat is this packet, and its bytes are those in the flash.
pub record RepeatOf (p : Pieces) (number : ℕ) (given : Numbers) (bytes flash : List ℕ) : Type 0 where
  pub packet : PacketOf p number given
  pub same : bytes ≡ part_of flash (place_of p number) given.size

-- The test says just these two facts.
pub repeat_is : (p : Pieces) (number : ℕ) (given : Numbers) (bytes flash : List ℕ) → is_repeat p number given bytes flash ≡ true
    → RepeatOf p number given bytes flash
unfolding is_repeat
repeat_is p number given bytes flash h =
    let each = both (is_packet p number given) _ h in
    record {
      packet = packet_is p number given each.0;
      same = same_true bytes (part_of flash (place_of p number) given.size) each.1;
    }

pub repeat_yes : (p : Pieces) (number : ℕ) (given : Numbers) (bytes flash : List ℕ) → RepeatOf p number given bytes flash
    → is_repeat p number given bytes flash ≡ true
unfolding is_repeat
repeat_yes p number given bytes flash f =
    let there = part_of flash (place_of p number) given.size in
    ap (λ t. t && same_bytes bytes there) (packet_yes p number given f.packet)
    ∙ ap (λ s. same_bytes s there) f.same
    ∙ same_refl there

pub repeat_no : (p : Pieces) (number : ℕ) (given : Numbers) (bytes flash : List ℕ) → (RepeatOf p number given bytes flash → ⊥)
    → is_repeat p number given bytes flash ≡ false
repeat_no p number given bytes flash h = not-eq-not.0 (λ e. h (repeat_is p number given bytes flash e))

-- A packet that is none of the transfer is no repeat; with one that is, the bytes decide.
pub repeat_other : (p : Pieces) (number : ℕ) (given : Numbers) (bytes flash : List ℕ) → is_packet p number given ≡ false
    → is_repeat p number given bytes flash ≡ false
unfolding is_repeat
repeat_other p number given bytes flash h = rw h

pub repeat_bytes : (p : Pieces) (number : ℕ) (given : Numbers) (bytes flash : List ℕ) → is_packet p number given ≡ true
    → is_repeat p number given bytes flash ≡ same_bytes bytes (part_of flash (place_of p number) given.size)
unfolding is_repeat
repeat_bytes p number given bytes flash h = rw h

-- ---- 0x05: what it does

-- The last packet ends the transfer, any other goes on loading.
pub phase_last : (p : Pieces) (number written : ℕ) → number ≡ total_of p → phase_at p number written ≡ Done p written
unfolding phase_at
phase_last p number written h = cond_yes _ _ _ (eq-eqb number (total_of p) h)

pub phase_before : (p : Pieces) (number written : ℕ) → (number ≡ total_of p → ⊥) → phase_at p number written ≡ Loading p number written
unfolding phase_at
phase_before p number written h = cond_no _ _ _ (ne_eqb number (total_of p) h)

-- The State is 0 where all of the length is written, else 1.
pub state_whole_law : (p : Pieces) (written : ℕ) → written ≡ p.transfer.extent → state_of p written ≡ state_whole
unfolding state_of
state_whole_law p written h = rw (eq-eqb written p.transfer.extent h)

pub state_other : (p : Pieces) (written : ℕ) → (written ≡ p.transfer.extent → ⊥) → state_of p written ≡ state_short
unfolding state_of
state_other p written h = rw (ne_eqb written p.transfer.extent h)

-- A packet's place is far below what a number can hold.
pub place_small : (p : Pieces) (number : ℕ) → 1 ≤ number → number ≤ largest_total + 1 → p.size ≤ largest_packet
    → (offset_of p.size number ≤ largest_total * largest_packet) × (place_of p number ≤ 0x3E000 + largest_total * largest_packet)
place_small p number one most small =
    let less : number - 1 ≤ largest_total = omega (arith, one, most) in
    let product : offset_of p.size number ≤ largest_total * largest_packet = mul-le-mul less small in
    (product, omega (arith, product, base_short p.transfer.kind))

-- A repeat is acknowledged and nothing put, any other packet refused.
pub repeat_taken : (phase : Phase) (p : Pieces) (number : ℕ) (given : Numbers) (bytes flash : List ℕ)
    → is_repeat p number given bytes flash ≡ true
    → repeat_decision phase p number given bytes flash ≡ acknowledge_of phase number None
unfolding repeat_decision
repeat_taken phase p number given bytes flash h = cond_yes _ _ _ h

pub repeat_refused : (phase : Phase) (p : Pieces) (number : ℕ) (given : Numbers) (bytes flash : List ℕ)
    → is_repeat p number given bytes flash ≡ false → repeat_decision phase p number given bytes flash ≡ not_taken phase
unfolding repeat_decision
repeat_refused phase p number given bytes flash h = cond_no _ _ _ h

-- Before packet 1: packet 1 with a size that cuts the length into its Total is taken, any other packet refused.
pub first_taken : (t : Transfer) (given : Numbers) → given.number ≡ 1 → cuts_into t.extent given.total given.size ≡ true
    → first_decision t given ≡ taken (record { transfer = t; size = given.size }) 1 given.size
unfolding first_decision
first_taken t given h k =
    cond_yes (eqb given.number 1 && cuts_into t.extent given.total given.size) _ _ (rw (eq-eqb given.number 1 h) k)

pub first_number : (t : Transfer) (given : Numbers) → (given.number ≡ 1 → ⊥) → first_decision t given ≡ not_taken (Begun t)
unfolding first_decision
first_number t given h =
    cond_no (eqb given.number 1 && cuts_into t.extent given.total given.size) _ _ (rw (ne_eqb given.number 1 h))

pub first_refused : (t : Transfer) (given : Numbers) → given.number ≡ 1 → cuts_into t.extent given.total given.size ≡ false
    → first_decision t given ≡ not_taken (Begun t)
unfolding first_decision
first_refused t given h k =
    cond_no (eqb given.number 1 && cuts_into t.extent given.total given.size) _ _ (rw (eq-eqb given.number 1 h) k)

-- While loading: the next packet is taken, any other is looked at as a repeat.
pub next_taken : (p : Pieces) (number written : ℕ) (given : Numbers) (bytes flash : List ℕ) → is_packet p (number + 1) given ≡ true
    → loading_decision p number written given bytes flash ≡ taken p (number + 1) (written + given.size)
unfolding loading_decision
next_taken p number written given bytes flash h = cond_yes _ _ _ h

pub next_other : (p : Pieces) (number written : ℕ) (given : Numbers) (bytes flash : List ℕ) → is_packet p (number + 1) given ≡ false
    → loading_decision p number written given bytes flash ≡ repeat_decision (Loading p number written) p number given bytes flash
unfolding loading_decision
next_other p number written given bytes flash h = cond_no _ _ _ h

-- When done: a packet is looked at as a repeat of the last.
pub done_repeat : (p : Pieces) (written : ℕ) (given : Numbers) (bytes flash : List ℕ)
    → done_decision p written given bytes flash ≡ repeat_decision (Done p written) p (total_of p) given bytes flash
unfolding done_decision
done_repeat p written given bytes flash = refl

-- A payload of the form of a packet is decided by the phase, any other is refused.
pub packet_formed : (phase : Phase) (payload flash : List ℕ) → well_formed (length payload) (numbers_in payload).size ≡ true
    → packet_decision phase payload flash ≡ phase_decision phase (numbers_in payload) (data_in payload) flash
unfolding packet_decision
packet_formed phase payload flash h = cond_yes _ _ _ h

pub packet_unformed : (phase : Phase) (payload flash : List ℕ) → well_formed (length payload) (numbers_in payload).size ≡ false
    → packet_decision phase payload flash ≡ not_taken phase
unfolding packet_decision
packet_unformed phase payload flash h = cond_no _ _ _ h

-- ---- any frame

-- Each command is decided by its own rule.
pub decide_rate : (phase : Phase) (payload flash : List ℕ) → decide_of phase rate_command payload flash ≡ rate_decision phase payload
unfolding decide_of
decide_rate phase payload flash = refl

pub decide_parameters : (phase : Phase) (payload flash : List ℕ)
    → decide_of phase parameters_command payload flash ≡ parameters_decision phase payload (length flash)
unfolding decide_of
decide_parameters phase payload flash = refl

pub decide_packet : (phase : Phase) (payload flash : List ℕ)
    → decide_of phase packet_command payload flash ≡ packet_decision phase payload flash
unfolding decide_of
decide_packet phase payload flash = refl

pub decide_restart : (phase : Phase) (payload flash : List ℕ)
    → decide_of phase restart_command payload flash ≡ restart_decision phase payload
unfolding decide_of
decide_restart phase payload flash = refl

-- A command that is none of the four.
pub record OtherCommand (command : ℕ) : Type 0 where
  pub rate : command ≡ rate_command → ⊥
  pub parameters : command ≡ parameters_command → ⊥
  pub packet : command ≡ packet_command → ⊥
  pub restart : command ≡ restart_command → ⊥

-- It gets no answer and does nothing.
pub decide_other : (phase : Phase) (command : ℕ) (payload flash : List ℕ) → OtherCommand command
    → decide_of phase command payload flash ≡ unmoved phase Nothing
unfolding decide_of
decide_other phase command payload flash o =
    cond_no _ _ _ (ne_eqb command rate_command o.rate)
    ∙ cond_no _ _ _ (ne_eqb command parameters_command o.parameters)
    ∙ cond_no _ _ _ (ne_eqb command packet_command o.packet)
    ∙ cond_no _ _ _ (ne_eqb command restart_command o.restart)
