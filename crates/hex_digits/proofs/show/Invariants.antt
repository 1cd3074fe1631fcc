-- `hex_digits::show`: after i turns the digits of the first i bytes stand at the front.
use Rattle.std.proofs.Common.{◌≡◌, ◌*◌, ◌≤◌, length, take}
use Rattle.octets.specs.Octets.{over}
use Rattle.hex_digits.specs.Hex.{hex_of}
use Rattle.hex_digits.proofs.show.Given as goal

abbrev pub invariant-loop-i : goal.invariant-loop-i
invariant-loop-i l = record {
  room : length l.shown * 2 ≤ length l.initial.out;
  digits : l.out ≡ over (hex_of (take l.i l.shown)) l.initial.out;
}
