-- The commands of document 001 and their answers, as frames.
use Rattle.std.specs.Prelude.{ℕ, List, [], ◌∷◌, ◌++◌, length}
use Rattle.octets.specs.Octets.{spelled}
use Rattle.refusals.specs.Refusals.{text_of}
use Rattle.kinds.specs.Kinds.{number_of, token_of}
use Rattle.kinds.specs.declared.Kind.{Kind}
use Rattle.pieces.specs.Pieces.{count_of, piece_of}
use Rattle.wire.specs.Frame.{Frame, frame}

-- The commands, and the notice.
abbrev pub rate_command : ℕ
rate_command = 0x01

abbrev pub parameters_command : ℕ
parameters_command = 0x02

abbrev pub packet_command : ℕ
packet_command = 0x05

abbrev pub restart_command : ℕ
restart_command = 0x06

abbrev pub notice_command : ℕ
notice_command = 0x86

-- The acknowledgements: accepted, refused for the first or the second reason of a command, not understood.
abbrev pub accepted : ℕ
accepted = 0x00

abbrev pub wrong_first : ℕ
wrong_first = 0x01

abbrev pub wrong_second : ℕ
wrong_second = 0x02

abbrev pub not_understood : ℕ
not_understood = 0x10

-- The largest packet and the largest Total.
abbrev pub largest_packet : ℕ
largest_packet = 1024

abbrev pub largest_total : ℕ
largest_total = 65535

-- ---- what the host sends

-- 0x01: the rate.
abbrev pub rate_frame : ℕ → Frame
rate_frame rate = frame rate_command (rate ∷ [])

-- The payload of 0x02 for an image: type, length, token.
abbrev pub parameters_for : Kind → ℕ → List ℕ
parameters_for kind n = spelled 2 (number_of kind) ++ (spelled 4 n ++ spelled 4 (token_of kind))

abbrev pub parameters_frame : Kind → ℕ → Frame
parameters_frame kind n = frame parameters_command (parameters_for kind n)

-- The payload of 0x05 for a piece of an image: Total, PkNo, PkSize, data.
abbrev pub packet_for : List ℕ → ℕ → ℕ → List ℕ
packet_for image size k =
    spelled 2 (count_of (length image) size)
    ++ (spelled 2 k ++ (spelled 2 (length (piece_of image size k)) ++ piece_of image size k))

abbrev pub packet_frame : List ℕ → ℕ → ℕ → Frame
packet_frame image size k = frame packet_command (packet_for image size k)

-- 0x06 carries nothing.
abbrev pub restart_frame : Frame
restart_frame = frame restart_command []

-- The start text and its answer, each with CR LF.
abbrev pub start_text : List ℕ
start_text = text_of "$PCAS20*03\r\n"

abbrev pub start_answer : List ℕ
start_answer = text_of "$PCAS30,3*1D\r\n"

-- ---- what the module answers

-- Rate and ACK; MaxPk and ACK; PkNo and ACK; ACK; and the notice with its State.
abbrev pub rate_reply : ℕ → ℕ → Frame
rate_reply rate ack = frame rate_command (rate ∷ ack ∷ [])

abbrev pub parameters_reply : ℕ → ℕ → Frame
parameters_reply most ack = frame parameters_command (spelled 2 most ++ (ack ∷ []))

abbrev pub packet_reply : ℕ → ℕ → Frame
packet_reply number ack = frame packet_command (spelled 2 number ++ (ack ∷ []))

abbrev pub restart_reply : ℕ → Frame
restart_reply ack = frame restart_command (ack ∷ [])

abbrev pub notice : ℕ → Frame
notice state = frame notice_command (state ∷ [])
