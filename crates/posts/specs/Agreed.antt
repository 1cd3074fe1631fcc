-- The rate that a reply of the module agrees to: once the reply has left, the module has it.
use Rattle.std.specs.Prelude.{ℕ, cond, ◌&&◌, List, nat_le, slice_index_or}
use Rattle.octets.specs.Octets.{same_bytes}
use Rattle.wire.specs.Frame.{wire_of}
use Rattle.commands.specs.Commands.{accepted, rate_reply}

-- The reply that agrees to a rate, as it goes on the wire.
abbrev pub agreement : ℕ → List ℕ
agreement rate = wire_of (rate_reply rate accepted)

-- Where the rate stands in it, behind head, Length, device and command.
abbrev pub rate_place : ℕ
rate_place = 5

-- One of the five rates, where the reply agrees to it; 0 for any other reply.
unfoldable pub agreed_in : List ℕ → ℕ
agreed_in reply =
    let rate = slice_index_or reply rate_place 0 in
    cond (nat_le 1 rate && (nat_le rate 5 && same_bytes (agreement rate) reply)) rate 0
