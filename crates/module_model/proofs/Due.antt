-- What is decided where the facts for it hold: parameters that fit are accepted, the packet that is due is taken.
use Rattle.std.specs.Prelude.{ℕ, zero, suc, ◌+◌, ◌*◌, ◌-◌, ◌^◌, ◌≤◌, ◌<◌, true, false, cond, List, ◌≡◌, refl, eqb, length, None, Option}
use Rattle.std.proofs.Common.{sym, ap, ◌∙◌, zero-mul, arith, eq-eqb, ne_eqb}
use Rattle.octets.specs.Octets.{number_at, spelled, part_of}
use Rattle.octets.proofs.OctetsLaws.{little_spelled}
use Rattle.kinds.specs.Kinds.{number_of, token_of, longest_image}
use Rattle.kinds.specs.KindsLaws.{FitsFlash, flash_fits, kind_of_number, kind_spelled}
use Rattle.kinds.specs.declared.Kind.{Kind}
use Rattle.kinds.specs.declared.Kind.TheVariants.{Navigation, Upgrade, Parameters}
use Rattle.pieces.specs.Pieces.{count_of, size_at, piece_of}
use Rattle.pieces.specs.PiecesLaws.{within, size_first, size_before, length_piece, ends_with, product_more}
use Rattle.commands.specs.Commands.{largest_packet, parameters_command, packet_command, accepted, parameters_for, packet_for}
use Rattle.module_model.specs.Phases.{total_of, held}
use Rattle.module_model.proofs.PhasesLaws.{Cut, cut_length, facts_loading}
use Rattle.module_model.specs.Rules.{unmoved, taken, data_in, kind_decision, parameters_decision, numbers_in, phase_at}
use Rattle.module_model.specs.Rules.{packet_head, parameters_length, type_field, length_field, address_field}
use Rattle.module_model.specs.Rules.{place_of, is_packet, is_repeat, acknowledge_of, repeat_decision}
use Rattle.module_model.specs.Rules.{first_decision, loading_decision, phase_decision, packet_decision, decide_of}
use Rattle.module_model.proofs.RulesLaws.{formed_yes, cut_yes, PacketOf, packet_yes, first_taken, next_taken, decide_packet}
use Rattle.module_model.proofs.RulesLaws.{packet_formed, packet_no, repeat_yes, repeat_taken, next_other, done_repeat}
use Rattle.module_model.proofs.Outcomes.{Belongs, Expects, first, later, Accepted, loading, done, formed_data}
use Rattle.module_model.specs.declared.phases.Transfer.{Transfer}
use Rattle.module_model.specs.declared.phases.Pieces.{Pieces}
use Rattle.module_model.specs.declared.phases.Phase.{Phase}
use Rattle.module_model.specs.declared.phases.Phase.TheVariants.{Begun, Loading, Done}
use Rattle.module_model.specs.declared.rules.Say.TheVariants as say
use Rattle.module_model.specs.declared.rules.Numbers.{Numbers}
use Rattle.module_model.specs.declared.rules.Decision.{Decision}

-- ---- parameters

-- What the parameters for an image declare.
abbrev pub transfer_for : Kind → List ℕ → Transfer
transfer_for kind image = record { kind = kind; extent = length image }

-- The address of a kind fits four bytes.
token_spelled : (k : Kind) → token_of k < 256 ^ 4
token_spelled Navigation = omega arith
token_spelled Upgrade = omega arith
token_spelled Parameters = omega arith

-- The three numbers of the parameters for an image are read again.
pub type_read : (kind : Kind) (image : List ℕ) → type_field (parameters_for kind (length image)) ≡ number_of kind
unfolding number_at spelled
type_read kind image = little_spelled 2 (number_of kind) (kind_spelled kind).0

pub length_read : (kind : Kind) (image : List ℕ) → length image ≤ longest_image → length_field (parameters_for kind (length image)) ≡ length image
unfolding number_at spelled
length_read kind image h = little_spelled 4 (length image) (omega arith)

address_read : (kind : Kind) (image : List ℕ) → address_field (parameters_for kind (length image)) ≡ token_of kind
unfolding number_at spelled
address_read kind image = little_spelled 4 (token_of kind) (token_spelled kind)

parameters_long : (kind : Kind) (image : List ℕ) → length (parameters_for kind (length image)) ≡ parameters_length
unfolding spelled
parameters_long kind image = refl

-- The parameters for an image that fits the flash are accepted in any phase.
pub parameters_accepted : (phase : Phase) (kind : Kind) (image flash : List ℕ) → FitsFlash kind (length image) (length flash)
    → decide_of phase parameters_command (parameters_for kind (length image)) flash
    ≡ unmoved (Begun (transfer_for kind image)) (say.Parameters accepted)
unfolding decide_of parameters_decision kind_decision
parameters_accepted phase kind image flash f =
    rw (
      parameters_long kind image,
      type_read kind image,
      kind_of_number kind,
      address_read kind image,
      eq-eqb (token_of kind) (token_of kind) refl,
      length_read kind image f.short,
      flash_fits kind (length image) (length flash) f,
    )

-- ---- packets

-- The numbers of a packet for a piece.
abbrev numbers_for : List ℕ → ℕ → ℕ → Numbers
numbers_for image size k = record { total = count_of (length image) size; number = k; size = length (piece_of image size k) }

-- A transfer of an image into a flash: its length is declared, it fits, and the packet size cuts it.
pub record Carries (p : Pieces) (image : List ℕ) (flash : ℕ) : Type 0 where
  pub whole : length image ≡ p.transfer.extent
  pub fitting : FitsFlash p.transfer.kind p.transfer.extent flash
  pub cut : Cut p

-- The facts of one of its pieces: not empty, not over the size, and as long as the number says.
pub record PieceOf (p : Pieces) (image : List ℕ) (k : ℕ) : Type 0 where
  pub some : 1 ≤ length (piece_of image p.size k)
  pub small : length (piece_of image p.size k) ≤ largest_packet
  pub long : length (piece_of image p.size k) ≡ size_at p.transfer.extent p.size k

pub piece_facts : (p : Pieces) (image : List ℕ) (flash k : ℕ) → Carries p image flash → 1 ≤ k → k ≤ total_of p → PieceOf p image k
piece_facts p image flash k c one most =
    let n = p.transfer.extent in
    let some : 1 ≤ n = cut_length p c.cut in
    let w = within n p.size k some c.cut.some one most in
    let here : k ≤ count_of (length image) p.size = rw c.whole most in
    let long : length (piece_of image p.size k) ≡ size_at n p.size k =
    length_piece image p.size k (rw c.whole some) c.cut.some one here
    ∙ ap (λ (m : ℕ). size_at m p.size k) c.whole in
    record { some = rw long w.some; small = rw long (omega (arith, w.most, c.cut.small)); long = long }

-- The numbers of a packet for a piece are read again, and its data.
pub total_read : (image : List ℕ) (size k : ℕ) → count_of (length image) size < 256 ^ 2
    → number_at 2 (packet_for image size k) 0 ≡ count_of (length image) size
unfolding number_at spelled
total_read image size k h = little_spelled 2 (count_of (length image) size) h

pub number_read : (image : List ℕ) (size k : ℕ) → k < 256 ^ 2 → number_at 2 (packet_for image size k) 2 ≡ k
unfolding number_at spelled
number_read image size k h = little_spelled 2 k h

size_read : (image : List ℕ) (size k : ℕ) → length (piece_of image size k) < 256 ^ 2
    → number_at 2 (packet_for image size k) 4 ≡ length (piece_of image size k)
unfolding number_at spelled
size_read image size k h = little_spelled 2 (length (piece_of image size k)) h

numbers_read : (image : List ℕ) (size k : ℕ) → count_of (length image) size < 256 ^ 2 → k < 256 ^ 2
    → length (piece_of image size k) < 256 ^ 2 → numbers_in (packet_for image size k) ≡ numbers_for image size k
unfolding numbers_in
numbers_read image size k total number long =
    rw (total_read image size k total, number_read image size k number, size_read image size k long)

pub data_read : (image : List ℕ) (size k : ℕ) → data_in (packet_for image size k) ≡ piece_of image size k
unfolding spelled
data_read image size k = refl

packet_long : (image : List ℕ) (size k : ℕ) → length (packet_for image size k) ≡ packet_head + length (piece_of image size k)
unfolding spelled
packet_long image size k = omega arith

-- The packet for a piece is decided by its numbers.
packet_decided : (phase : Phase) (p : Pieces) (image flash : List ℕ) (k : ℕ) → Carries p image (length flash) → 1 ≤ k → k ≤ total_of p
    → decide_of phase packet_command (packet_for image p.size k) flash
    ≡ phase_decision phase (numbers_for image p.size k) (piece_of image p.size k) flash
unfolding decide_of packet_decision
packet_decided phase p image flash k c one most =
    let f = piece_facts p image (length flash) k c one most in
    let total : count_of (length image) p.size < 256 ^ 2 = rw c.whole (omega (arith, c.cut.total_most)) in
    rw (
      numbers_read image p.size k total (omega (arith, c.cut.total_most, most)) (omega (arith, f.small)),
      packet_long image p.size k,
      formed_yes _ (length (piece_of image p.size k)) (record { some = f.some; most = f.small; long = refl }),
      data_read image p.size k,
    )

-- ---- the packet that is due

-- The phase after so many packets, fewer than Total: begun, or loading with all of them written whole.
unfoldable pub waiting : Pieces → ℕ → Phase
waiting p n = cond (eqb n 0) (Begun p.transfer) (Loading p n (n * p.size))

pub waiting_none : (p : Pieces) → waiting p 0 ≡ Begun p.transfer
unfolding waiting
waiting_none p = refl

pub waiting_some : (p : Pieces) (n : ℕ) → 1 ≤ n → waiting p n ≡ Loading p n (n * p.size)
unfolding waiting
waiting_some p n one = rw (ne_eqb n 0 (λ e. omega (arith, one, e)))

-- Such a phase holds over a flash that the transfer fits.
pub waiting_held : (p : Pieces) (image : List ℕ) (flash n : ℕ) → Carries p image flash → n < total_of p → held (waiting p n) flash ≡ true
waiting_held p image flash zero c less =
    rw (waiting_none p) (flash_fits p.transfer.kind p.transfer.extent flash c.fitting)
waiting_held p image flash (suc n) c less =
    rw (waiting_some p (suc n) (omega arith))
    (facts_loading p flash (suc n) (suc n * p.size)
    (record { fitting = c.fitting; cut = c.cut; one = omega arith; before = less; all = refl }))

-- The numbers of the packet with a number that belongs to a transfer.
abbrev numbers_at : Pieces → ℕ → Numbers
numbers_at p k = record { total = total_of p; number = k; size = size_at p.transfer.extent p.size k }

-- Packet 1 with these numbers is taken before any other, and the next one while loading.
first_due : (p : Pieces) → Cut p → first_decision p.transfer (numbers_at p 1) ≡ taken p 1 p.size
first_due p c =
    let n = p.transfer.extent in
    let size : size_at n p.size 1 ≡ p.size = size_first n p.size c.some c.within in
    let cut = cut_yes n (total_of p) p.size (cut_length p c) c.some (record { count = refl; short = c.within }) in
    ap (λ (k : ℕ). first_decision p.transfer (record { total = total_of p; number = 1; size = k })) size
    ∙ first_taken p.transfer (record { total = total_of p; number = 1; size = p.size }) refl cut

next_due : (p : Pieces) (number written : ℕ) (bytes flash : List ℕ)
    → loading_decision p number written (numbers_at p (number + 1)) bytes flash
    ≡ taken p (number + 1) (written + size_at p.transfer.extent p.size (number + 1))
next_due p number written bytes flash =
    let given = numbers_at p (number + 1) in
    next_taken p number written given bytes flash
    (packet_yes p (number + 1) given (record { this = refl; total = refl; size = refl }))

-- What has been written after the packet that is due.
abbrev pub written_with : Pieces → ℕ → ℕ
written_with p n = n * p.size + size_at p.transfer.extent p.size (n + 1)

-- The packet that is due is taken.
due_taken : (p : Pieces) (n : ℕ) (bytes flash : List ℕ) → Cut p → n < total_of p
    → phase_decision (waiting p n) (numbers_at p (n + 1)) bytes flash ≡ taken p (n + 1) (written_with p n)
due_taken p zero bytes flash c less =
    let written : p.size ≡ written_with p 0 = omega (arith, size_first p.transfer.extent p.size c.some c.within, zero-mul p.size) in
    rw (waiting_none p) (first_due p c ∙ ap (taken p 1) written)
due_taken p (suc n) bytes flash c less =
    rw (waiting_some p (suc n) (omega arith)) (next_due p (suc n) (suc n * p.size) bytes flash)

pub packet_taken : (p : Pieces) (image flash : List ℕ) (n : ℕ) → Carries p image (length flash) → n < total_of p
    → decide_of (waiting p n) packet_command (packet_for image p.size (n + 1)) flash ≡ taken p (n + 1) (written_with p n)
packet_taken p image flash n c less =
    let due : n + 1 ≤ total_of p = omega (arith, less) in
    packet_decided (waiting p n) p image flash (n + 1) c (omega arith) due
    ∙ rw (c.whole, (piece_facts p image (length flash) (n + 1) c (omega arith) due).long)
    (due_taken p n (piece_of image p.size (n + 1)) flash c.cut less)

-- With it the transfer waits for the next one, or is done and all is written.
pub taken_waits : (p : Pieces) (n : ℕ) → n + 1 < total_of p → phase_at p (n + 1) (written_with p n) ≡ waiting p (n + 1)
unfolding phase_at
taken_waits p n less =
    let written : written_with p n ≡ (n + 1) * p.size =
    rw (size_before p.transfer.extent p.size (n + 1) less) (sym (product_more n p.size)) in
    rw (ne_eqb (n + 1) (total_of p) (λ e. omega (arith, less, e)), written) (sym (waiting_some p (n + 1) (omega arith)))

pub taken_done : (p : Pieces) (n : ℕ) → Cut p → n + 1 ≡ total_of p → phase_at p (n + 1) (written_with p n) ≡ Done p p.transfer.extent
unfolding phase_at
taken_done p n c last =
    let offset : n ≡ total_of p - 1 = omega (arith, last) in
    let written : written_with p n ≡ p.transfer.extent =
    rw (last, offset) (ends_with p.transfer.extent p.size (cut_length p c) c.some) in
    rw (eq-eqb (n + 1) (total_of p) last, written)

-- ---- a packet that belongs

-- It is decided by the phase.
belongs_decided : (phase : Phase) (p : Pieces) (number : ℕ) (payload flash : List ℕ) (n : ℕ) → Belongs p number payload n
    → decide_of phase packet_command payload flash ≡ phase_decision phase (numbers_in payload) (data_in payload) flash
belongs_decided phase p number payload flash n k =
    decide_packet phase payload flash ∙ packet_formed phase payload flash (formed_data payload k.form)

-- Its numbers are those of the packet.
belongs_packet : (p : Pieces) (number : ℕ) (payload : List ℕ) (n : ℕ) → Belongs p number payload n → PacketOf p number (numbers_in payload)
unfolding numbers_in
belongs_packet p number payload n k =
    record { this = k.number_is; total = k.total_is; size = k.form.size_is ∙ k.size_is }

-- A decision confirms a packet, whatever is put and whichever phase follows.
pub record Confirms (d : Decision) (number : ℕ) : Type 0 where
  pub phase : Phase
  pub put : Option ℕ
  pub is : d ≡ acknowledge_of phase number put

-- The expected packet is confirmed,
pub expected_confirmed : (phase : Phase) (p : Pieces) (number : ℕ) (payload flash : List ℕ) (n : ℕ) → Expects phase p number
    → Belongs p number payload n → Confirms (decide_of phase packet_command payload flash) number
expected_confirmed phase p number payload flash n (first e one) k =
    let given = numbers_in payload in
    let packet = belongs_packet p number payload n k in
    let size : given.size ≡ p.size =
    packet.size ∙ ap (size_at p.transfer.extent p.size) one ∙ size_first p.transfer.extent p.size k.cut.some k.cut.within in
    let cut = cut_yes p.transfer.extent given.total given.size (cut_length p k.cut) (rw size k.cut.some)
    (record { count = packet.total ∙ ap (count_of p.transfer.extent) (sym size); short = rw size k.cut.within }) in
    let decided = belongs_decided (Begun p.transfer) p number payload flash n k in
    rw (e, one) (record { phase = _; put = _; is = decided ∙ first_taken p.transfer given (packet.this ∙ one) cut })
expected_confirmed phase p number payload flash n (later before written e next) k =
    let packet : PacketOf p (before + 1) (numbers_in payload) = rw next at (belongs_packet p number payload n k) in
    let decided = belongs_decided (Loading p before written) p number payload flash n k in
    rw (e, next)
    (record {
      phase = _;
      put = _;
      is = decided ∙ next_taken p before written (numbers_in payload) (data_in payload) flash (packet_yes p (before + 1) (numbers_in payload) packet);
    })

-- and so is a repeat of the one just accepted, if its bytes are those in the flash.
pub repeat_confirmed : (phase : Phase) (p : Pieces) (number : ℕ) (payload flash : List ℕ) (n : ℕ) → Accepted phase p number
    → Belongs p number payload n → data_in payload ≡ part_of flash (place_of p number) (length (data_in payload))
    → Confirms (decide_of phase packet_command payload flash) number
repeat_confirmed phase p number payload flash n accepted_now k same = go accepted_now
  where
    given : Numbers
    given = numbers_in payload

    again : is_repeat p number given (data_in payload) flash ≡ true
    again =
        repeat_yes p number given (data_in payload) flash (record {
          packet = belongs_packet p number payload n k;
          same = same ∙ ap (part_of flash (place_of p number)) (sym k.form.size_is);
        })

    go : Accepted phase p number → Confirms (decide_of phase packet_command payload flash) number
    go (loading written e before) =
        let now = Loading p number written in
        let other : is_packet p (number + 1) given ≡ false =
        packet_no p (number + 1) given (λ f. omega (arith, f.this, (belongs_packet p number payload n k).this)) in
        record {
          phase = now;
          put = None;
          is =
              ap (λ (x : Phase). decide_of x packet_command payload flash) e
              ∙ belongs_decided now p number payload flash n k
              ∙ next_other p number written given (data_in payload) flash other
              ∙ repeat_taken now p number given (data_in payload) flash again;
        }
    go (done e last) =
        let now = Done p p.transfer.extent in
        record {
          phase = now;
          put = None;
          is =
              ap (λ (x : Phase). decide_of x packet_command payload flash) e
              ∙ belongs_decided now p number payload flash n k
              ∙ done_repeat p p.transfer.extent given (data_in payload) flash
              ∙ ap (λ (m : ℕ). repeat_decision now p m given (data_in payload) flash) (sym last)
              ∙ repeat_taken now p number given (data_in payload) flash again;
        }
