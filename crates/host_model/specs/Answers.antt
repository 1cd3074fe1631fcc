-- What an answer of the module does: which answers fit a stage, and where each leads.
use Rattle.std.specs.Prelude.{ℕ, ◌+◌, min, Bool, cond, ◌&&◌, List, eqb, ltb, leb, length, get_or}
use Rattle.octets.specs.Octets.{number_at, same_bytes}
use Rattle.refusals.specs.Refusals.{module_refused, bad_notice}
use Rattle.pieces.specs.Pieces.{count_of}
use Rattle.commands.specs.Commands.{rate_command, parameters_command, packet_command, restart_command, notice_command}
use Rattle.commands.specs.Commands.{accepted, wrong_first, wrong_second, not_understood, largest_packet, largest_total}
use Rattle.host_model.specs.Stages.{number_of_rate}
use Rattle.commands.specs.Commands.{start_answer}
use Rattle.host_model.specs.declared.plan.Rate.{Rate}
use Rattle.host_model.specs.declared.plan.Rate.TheVariants.{R9600, R19200, R38400, R57600, R115200}
use Rattle.host_model.specs.declared.plan.Same.{Same}
use Rattle.host_model.specs.declared.plan.Same.TheVariants as same
use Rattle.host_model.specs.declared.plan.Plan.{Plan}
use Rattle.host_model.specs.declared.plan.Stage.{Stage}
use Rattle.host_model.specs.declared.plan.Stage.TheVariants.{Text, Asking, Declaring, Sending, Noticing, Restarting}
use Rattle.host_model.specs.declared.answers.Move.{Move}
use Rattle.host_model.specs.declared.answers.Move.TheVariants.{Stay, Enter, Await, Resend, Refuse, TooMany, Finish}

-- An answer by its ACK: what 00, 01 and 02 lead to. 10 asks for the frame again; an ACK that is not listed counts as no answer.
unfoldable pub by_ack : ℕ → Move → Move → Move → Move
by_ack ack good first second =
    cond (eqb ack accepted) good
    (cond (eqb ack wrong_first) first (cond (eqb ack wrong_second) second (cond (eqb ack not_understood) Resend Stay)))

-- 0x01 refused: one lower; below 9600 the module's ACK is passed on with 21.
abbrev pub lower_move : Rate → Move
lower_move R9600 = Refuse module_refused wrong_first
lower_move R19200 = Enter (Asking R9600)
lower_move R38400 = Enter (Asking R19200)
lower_move R57600 = Enter (Asking R38400)
lower_move R115200 = Enter (Asking R57600)

-- An answer to 0x01 by its rate and ACK: the rate asked for with ACK 00, 01 or 10; rate 0 with ACK 10.
unfoldable pub rate_move : Rate → ℕ → ℕ → Move
rate_move asked rate ack =
    cond (eqb rate (number_of_rate asked)) (by_ack ack (Enter (Declaring asked)) (lower_move asked) Stay)
    (cond (eqb rate 0) (by_ack ack Stay Stay Stay) Stay)

-- The piece size is the smaller of MaxPk, 1,024 and the caller's wish.
abbrev pub piece_size : ℕ → ℕ → ℕ
piece_size most wish = min (min most largest_packet) wish

-- Packets begin, unless the piece size is 0 or there are more than 65,535 pieces.
unfoldable pub size_move : Rate → ℕ → ℕ → Move
size_move rate image size = cond (leb 1 size && leb (count_of image size) largest_total) (Enter (Sending rate size 1)) TooMany

-- An answer to 0x02 by its MaxPk and ACK: ACK 00, 01, 02 or 10.
unfoldable pub parameters_move : Plan → ℕ → Rate → ℕ → ℕ → Move
parameters_move plan image rate most ack =
    by_ack ack (size_move rate image (piece_size most plan.wish)) (Refuse module_refused wrong_first) (Refuse module_refused wrong_second)

-- An accepted packet is followed by the next, the last one by waiting for the notice.
unfoldable pub accepted_move : ℕ → Rate → ℕ → ℕ → Move
accepted_move image rate size number =
    cond (ltb number (count_of image size)) (Enter (Sending rate size (number + 1))) (Await (Noticing rate size))

-- The same version, as set by the caller: the packet is taken as accepted, or the load stops.
abbrev pub same_move : Same → Move → Move
same_move same.GoOn go = go
same_move same.Stop go = Refuse module_refused wrong_second

-- An answer to 0x05 by its PkNo and ACK: the number sent with ACK 00, 01, 02 or 10; PkNo 0 with ACK 01 or 10.
unfoldable pub packet_move : Plan → ℕ → Rate → ℕ → ℕ → ℕ → ℕ → Move
packet_move plan image rate size number given ack =
    cond (eqb given number)
    (by_ack ack (accepted_move image rate size number) (Refuse module_refused wrong_first)
    (same_move plan.same (accepted_move image rate size number)))
    (cond (eqb given 0) (by_ack ack Stay (Refuse module_refused wrong_first) Stay) Stay)

-- The notice by its State: 0 is success, any other is passed on with 22.
unfoldable pub notice_move : Rate → ℕ → ℕ → Move
notice_move rate size state = cond (eqb state 0) (Enter (Restarting rate size)) (Refuse bad_notice state)

-- An answer of another command or payload length counts as none.
unfoldable pub fitting : ℕ → ℕ → ℕ → ℕ → Bool
fitting expected n command size = eqb command expected && eqb size n

abbrev pub where_fitting : ℕ → ℕ → ℕ → List ℕ → Move → Move
where_fitting expected n command payload move = cond (fitting expected n command (length payload)) move Stay

-- The answers to 0x01, 0x02 and 0x05, the notice, and the answer to 0x06.
abbrev pub rate_answer : Rate → ℕ → List ℕ → Move
rate_answer rate command payload =
    where_fitting rate_command 2 command payload (rate_move rate (get_or payload 0 0) (get_or payload 1 0))

abbrev pub parameters_answer : Plan → ℕ → Rate → ℕ → List ℕ → Move
parameters_answer plan image rate command payload =
    where_fitting parameters_command 3 command payload (parameters_move plan image rate (number_at 2 payload 0) (get_or payload 2 0))

abbrev pub packet_answer : Plan → ℕ → Rate → ℕ → ℕ → ℕ → List ℕ → Move
packet_answer plan image rate size number command payload =
    where_fitting packet_command 3 command payload (packet_move plan image rate size number (number_at 2 payload 0) (get_or payload 2 0))

abbrev pub notice_answer : Rate → ℕ → ℕ → List ℕ → Move
notice_answer rate size command payload = where_fitting notice_command 1 command payload (notice_move rate size (get_or payload 0 0))

abbrev pub restart_answer : ℕ → List ℕ → Move
restart_answer command payload = where_fitting restart_command 1 command payload (by_ack (get_or payload 0 0) Finish Stay Stay)

-- A frame at each stage.
abbrev pub frame_move : Plan → ℕ → Stage → ℕ → List ℕ → Move
frame_move plan image Text command payload = Stay
frame_move plan image (Asking rate) command payload = rate_answer rate command payload
frame_move plan image (Declaring rate) command payload = parameters_answer plan image rate command payload
frame_move plan image (Sending rate size number) command payload = packet_answer plan image rate size number command payload
frame_move plan image (Noticing rate size) command payload = notice_answer rate size command payload
frame_move plan image (Restarting rate size) command payload = restart_answer command payload

-- A line of text fits only as the answer to the start text, byte for byte with its CR LF.
unfoldable pub text_move : Rate → List ℕ → Move
text_move first line = cond (same_bytes line start_answer) (Enter (Asking first)) Stay

abbrev pub line_move : Plan → Stage → List ℕ → Move
line_move plan Text line = text_move plan.first line
line_move plan (Asking rate) line = Stay
line_move plan (Declaring rate) line = Stay
line_move plan (Sending rate size number) line = Stay
line_move plan (Noticing rate size) line = Stay
line_move plan (Restarting rate size) line = Stay
