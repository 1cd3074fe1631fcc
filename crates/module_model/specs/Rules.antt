-- The rules of the four commands: what a frame given to an open session does to its phase, what is said, what is put where.
use Rattle.std.specs.Prelude.{ℕ, ◌+◌, Bool, cond, ◌&&◌, List, [], ◌∷◌, eqb, leb, length, get_or, drop, None, Option, Some}
use Rattle.octets.specs.Octets.{number_at, part_of, same_bytes, laid}
use Rattle.kinds.specs.Kinds.{kind_of, base_of, token_of, fits_flash}
use Rattle.kinds.specs.declared.Kind.{Kind}
use Rattle.pieces.specs.Pieces.{count_of, size_at, offset_of}
use Rattle.wire.specs.Frame.{Frame}
use Rattle.commands.specs.Commands.{rate_command, parameters_command, packet_command, restart_command, accepted, wrong_first, wrong_second}
use Rattle.commands.specs.Commands.{not_understood, largest_packet, rate_reply, parameters_reply, packet_reply, restart_reply, notice}
use Rattle.module_model.specs.Phases.{total_of}
use Rattle.module_model.specs.declared.phases.Transfer.{Transfer}
use Rattle.module_model.specs.declared.phases.Pieces.{Pieces}
use Rattle.module_model.specs.declared.phases.Phase.{Phase}
use Rattle.module_model.specs.declared.phases.Phase.TheVariants.{Closed, Ready, Begun, Loading, Done}
use Rattle.module_model.specs.declared.rules.Say.{Say}
use Rattle.module_model.specs.declared.rules.Say.TheVariants.{Nothing, Rate, Parameters, Packet, Last, Restart}
use Rattle.module_model.specs.declared.rules.Decision.{Decision}
use Rattle.module_model.specs.declared.rules.Numbers.{Numbers}

-- ---- what is said

-- The frames of a reply. MaxPk is always 1,024. After the last packet the acknowledgement is followed by the notice.
abbrev pub frames_of : Say → List Frame
frames_of Nothing = []
frames_of (Rate rate ack) = rate_reply rate ack ∷ []
frames_of (Parameters ack) = parameters_reply largest_packet ack ∷ []
frames_of (Packet number ack) = packet_reply number ack ∷ []
frames_of (Last number state) = packet_reply number accepted ∷ notice state ∷ []
frames_of (Restart ack) = restart_reply ack ∷ []

-- ---- what is put

-- The data of a packet stand behind its three numbers of two bytes each.
abbrev pub packet_head : ℕ
packet_head = 6

abbrev pub data_in : List ℕ → List ℕ
data_in payload = drop packet_head payload

abbrev pub put_of : Option ℕ → List ℕ → List ℕ → List ℕ
put_of None payload flash = flash
put_of (Some place) payload flash = laid flash place (data_in payload)

-- ---- 0x01, 0x02 and 0x06

-- The phase stays or is as said, and nothing is put.
abbrev pub unmoved : Phase → Say → Decision
unmoved phase say = record { phase = phase; say = say; put = None }

-- ACK 00 for rates 1 to 5, else 01.
unfoldable pub rate_ack : ℕ → ℕ
rate_ack rate = cond (leb 1 rate && leb rate 5) accepted wrong_first

-- 0x01, payload 1: the rate asked for and its ACK; another length: rate 0, ACK 10.
unfoldable pub rate_decision : Phase → List ℕ → Decision
rate_decision phase payload =
    cond (eqb (length payload) 1) (unmoved phase (Rate (get_or payload 0 0) (rate_ack (get_or payload 0 0))))
    (unmoved phase (Rate 0 not_understood))

-- What the ten bytes of parameters carry: the type, the length, the address.
abbrev pub parameters_length : ℕ
parameters_length = 10

abbrev pub type_field : List ℕ → ℕ
type_field payload = number_at 2 payload 0

abbrev pub length_field : List ℕ → ℕ
length_field payload = number_at 4 payload 2

abbrev pub address_field : List ℕ → ℕ
address_field payload = number_at 4 payload 6

-- 0x02 of a known type: the address is the type's token (10), the length fits the lent flash (02). Else loading restarts.
unfoldable pub kind_decision : Phase → Kind → List ℕ → ℕ → Decision
kind_decision phase kind payload flash =
    cond (eqb (address_field payload) (token_of kind))
    (cond (fits_flash kind (length_field payload) flash)
    (unmoved (Begun (record { kind = kind; extent = length_field payload })) (Parameters accepted))
    (unmoved phase (Parameters wrong_second)))
    (unmoved phase (Parameters not_understood))

abbrev pub known_decision : Phase → Option Kind → List ℕ → ℕ → Decision
known_decision phase (Some kind) payload flash = kind_decision phase kind payload flash
known_decision phase None payload flash = unmoved phase (Parameters wrong_first)

-- 0x02, payload 10: type, length, address. In order: payload length (10), type (01), address, length.
unfoldable pub parameters_decision : Phase → List ℕ → ℕ → Decision
parameters_decision phase payload flash =
    cond (eqb (length payload) parameters_length) (known_decision phase (kind_of (type_field payload)) payload flash)
    (unmoved phase (Parameters not_understood))

-- 0x06, payload 0: ACK 00, closed. Else ACK 10.
unfoldable pub restart_decision : Phase → List ℕ → Decision
restart_decision phase payload =
    cond (eqb (length payload) 0) (unmoved Closed (Restart accepted)) (unmoved phase (Restart not_understood))

-- ---- 0x05

-- The numbers of a packet.
unfoldable pub numbers_in : List ℕ → Numbers
numbers_in payload = record { total = number_at 2 payload 0; number = number_at 2 payload 2; size = number_at 2 payload 4 }

-- The payload is 6 + PkSize, and PkSize is 1 to 1,024.
unfoldable pub well_formed : ℕ → ℕ → Bool
well_formed n size = leb 1 size && (leb size largest_packet && eqb n (packet_head + size))

-- A packet refused: PkNo 0, ACK 10, nothing put.
abbrev pub not_taken : Phase → Decision
not_taken phase = unmoved phase (Packet 0 not_understood)

-- Packet 1 sets the size: with Total 1 it must be the length, else Total must be length / size rounded up.
unfoldable pub cuts_into : ℕ → ℕ → ℕ → Bool
cuts_into n total size = cond (eqb total 1) (eqb size n) (eqb total (count_of n size))

-- A packet is written at base + (PkNo - 1) * size; the base is the address of the type's UBF pair.
abbrev pub place_of : Pieces → ℕ → ℕ
place_of p number = base_of p.transfer.kind + offset_of p.size number

-- A packet has this number, the transfer's Total, and the size that belongs to the number.
unfoldable pub is_packet : Pieces → ℕ → Numbers → Bool
is_packet p number given =
    eqb given.number number && (eqb given.total (total_of p) && eqb given.size (size_at p.transfer.extent p.size number))

-- A repeat is such a packet with the bytes that are in the flash.
unfoldable pub is_repeat : Pieces → ℕ → Numbers → List ℕ → List ℕ → Bool
is_repeat p number given bytes flash = is_packet p number given && same_bytes bytes (part_of flash (place_of p number) given.size)

-- With packet Total the transfer is done, before it it is loading.
unfoldable pub phase_at : Pieces → ℕ → ℕ → Phase
phase_at p number written = cond (eqb number (total_of p)) (Done p written) (Loading p number written)

-- The State of the notice: 0, or 1 if the count written is not the length.
abbrev pub state_whole : ℕ
state_whole = 0x00

abbrev pub state_short : ℕ
state_short = 0x01

unfoldable pub state_of : Pieces → ℕ → ℕ
state_of p written = cond (eqb written p.transfer.extent) state_whole state_short

-- The acknowledgement of a packet, with the notice behind it when the transfer is done.
abbrev pub say_of : Phase → ℕ → Say
say_of Closed number = Packet number accepted
say_of Ready number = Packet number accepted
say_of (Begun t) number = Packet number accepted
say_of (Loading p n written) number = Packet number accepted
say_of (Done p written) number = Last number (state_of p written)

abbrev pub acknowledge_of : Phase → ℕ → Option ℕ → Decision
acknowledge_of phase number put = record { phase = phase; say = say_of phase number; put = put }

-- An accepted packet is written at its place, and the session moves on.
abbrev pub taken : Pieces → ℕ → ℕ → Decision
taken p number written = acknowledge_of (phase_at p number written) number (Some (place_of p number))

-- A repeat is acknowledged again, nothing put; any other packet is refused.
unfoldable pub repeat_decision : Phase → Pieces → ℕ → Numbers → List ℕ → List ℕ → Decision
repeat_decision phase p number given bytes flash =
    cond (is_repeat p number given bytes flash) (acknowledge_of phase number None) (not_taken phase)

-- Before packet 1 only packet 1 is taken; there is no repeat.
unfoldable pub first_decision : Transfer → Numbers → Decision
first_decision t given =
    cond (eqb given.number 1 && cuts_into t.extent given.total given.size)
    (taken (record { transfer = t; size = given.size }) 1 given.size)
    (not_taken (Begun t))

-- While loading the next packet is taken, or the number just accepted is repeated.
unfoldable pub loading_decision : Pieces → ℕ → ℕ → Numbers → List ℕ → List ℕ → Decision
loading_decision p number written given bytes flash =
    cond (is_packet p (number + 1) given) (taken p (number + 1) (written + given.size))
    (repeat_decision (Loading p number written) p number given bytes flash)

-- When done no packet is expected; the last one may be repeated.
unfoldable pub done_decision : Pieces → ℕ → Numbers → List ℕ → List ℕ → Decision
done_decision p written given bytes flash = repeat_decision (Done p written) p (total_of p) given bytes flash

abbrev pub phase_decision : Phase → Numbers → List ℕ → List ℕ → Decision
phase_decision Closed given bytes flash = not_taken Closed
phase_decision Ready given bytes flash = not_taken Ready
phase_decision (Begun t) given bytes flash = first_decision t given
phase_decision (Loading p number written) given bytes flash = loading_decision p number written given bytes flash
phase_decision (Done p written) given bytes flash = done_decision p written given bytes flash

-- 0x05, payload Total, PkNo, PkSize, data.
unfoldable pub packet_decision : Phase → List ℕ → List ℕ → Decision
packet_decision phase payload flash =
    cond (well_formed (length payload) (numbers_in payload).size)
    (phase_decision phase (numbers_in payload) (data_in payload) flash)
    (not_taken phase)

-- ---- any frame; an unknown command gets no answer

unfoldable pub decide_of : Phase → ℕ → List ℕ → List ℕ → Decision
decide_of phase command payload flash =
    cond (eqb command rate_command) (rate_decision phase payload)
    (cond (eqb command parameters_command) (parameters_decision phase payload (length flash))
    (cond (eqb command packet_command) (packet_decision phase payload flash)
    (cond (eqb command restart_command) (restart_decision phase payload)
    (unmoved phase Nothing))))
