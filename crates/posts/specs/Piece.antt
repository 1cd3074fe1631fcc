-- How large a piece a host should wish for at a rate. Where a packet takes longer to leave than its answer is awaited, each is resent before
-- the first copy has left; so a packet is to leave in half that time.
use Rattle.std.specs.Prelude.{ℕ, ◌+◌, ◌-◌, ◌*◌, ◌/◌, cond, nat_le}
use Rattle.commands.specs.Commands.{largest_packet}
use Rattle.host_model.specs.Waits.{answer_limit}

-- What a packet has on the wire beside its piece, where nothing is escaped: marks, Length, device, command, check; Total, PkNo, PkSize.
abbrev pub packet_beside : ℕ
packet_beside = 13

-- How many bytes a line of so many bits a second carries in half the time for an answer, ten bits a byte.
abbrev pub in_half : ℕ → ℕ
in_half baud = baud * (answer_limit / 2) / (10 * 1000)

-- As many bytes as leave in that time with what stands beside them: at least 1, at most 1,024.
unfoldable pub piece_for : ℕ → ℕ
piece_for baud =
    cond (nat_le (in_half baud) packet_beside) 1
    (cond (nat_le (largest_packet + packet_beside) (in_half baud)) largest_packet (in_half baud - packet_beside))
