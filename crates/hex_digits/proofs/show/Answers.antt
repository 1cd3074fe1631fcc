-- `hex_digits::show`: after i turns the digits of the first i bytes stand at the front.
use Rattle.std.proofs.Common.{List, ℕ, ◌≡◌, ◌*◌, ◌/◌, ◌≤◌, ◌∙◌, ap, sym, refl, arith, length, take, length-take, take_all}
use Rattle.octets.specs.Octets.{over, part_of}
use Rattle.hex_digits.specs.Hex.{hex_of, show_of}
use Rattle.hex_digits.specs.HexLaws.{length_hex, hex_more}
use Rattle.hex_digits.proofs.show.Goals as goal

pub loop-i-init : goal.loop-i-init
unfolding part_of hex_of over
loop-i-init c =
    let few : length c.part-shown.result.now ≤ length c.args.out.now / 2 = rw c.part-shown.ensures (simp length-take (omega arith)) in
    record { room = omega arith; digits = refl }

pub loop-i-preserved : goal.loop-i-preserved
loop-i-preserved c =
    let l = c.loop-i in
    record {
      room = l.invariant.room;
      digits = rw (c.digit.ensures, c.digit-in-loop-i.ensures, l.invariant.digits) (hex_more c.part-shown.result.now c.args.out.now l.i (omega arith) (omega arith));
    }

pub returns-clause-shown : goal.returns-clause-shown
unfolding show_of part_of
returns-clause-shown c =
    let l = c.loop-i in
    let s : List ℕ = c.part-shown.result.now in
    let all : take l.i s ≡ s = take_all l.i s (omega arith) in
    let size : length s * 2 ≡ length (hex_of s) = sym (length_hex s) in
    let same = c.part-shown.ensures in
    λ k. record {
      count = (size ∙ ap (λ (bytes : List ℕ). length (hex_of bytes)) same) k;
      output = (l.invariant.digits ∙ ap (λ (bytes : List ℕ). over (hex_of bytes) c.args.out.now) (all ∙ same)) k;
    }
