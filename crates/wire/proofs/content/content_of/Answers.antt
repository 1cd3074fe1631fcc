-- `wire::content_of`: each part at its place over zeros, then the check over what stands before it.
use Prim.Native.Nat.{ℕ, ◌+◌}
use mathlib.Core.List.{List}
use mathlib.Core.Path.{◌≡◌, ap, ◌∙◌}
use native.Mathlib.Omega.{arith}
use lib.ListN.{length, set, take, replicate, length-replicate}
use Rattle.octets.specs.Octets.{laid, over, xor_of}
use Rattle.octets.proofs.OctetsLaws.{length_over, take_over}
use Rattle.wire.specs.Frame.{Frame, frame, longest_content, unchecked_of, content_of}
use Rattle.wire.specs.FrameLaws.{length_unchecked, length_content}
use Rattle.wire.specs.WriteLaws.{unchecked_built, content_built}
use Rattle.wire.proofs.content.content_of.Goals as goal

pub returns : goal.returns
returns c =
    let a = c.args in
    let f : Frame = frame a.command a.payload.now in
    let zeros : List ℕ = replicate longest_content 0 in
    let size : length zeros ≡ longest_content = length-replicate {A = ℕ} longest_content 0 in
    let few = c.requires in
    let put : c.copy.new.d ≡ over (unchecked_of f) zeros =
    c.copy.ensures
    ∙ ap (λ l. laid (set (set l 2 1) 3 a.command) 4 a.payload.now) c.put_two.ensures
    ∙ unchecked_built f zeros size few in
    let check : c.xor.result ≡ xor_of (unchecked_of f) =
    c.xor.ensures
    ∙ ap (λ l. xor_of (take (length a.payload.now + 4) l)) put
    ∙ ap xor_of (take_over (unchecked_of f) zeros (length a.payload.now + 4) (length_unchecked f)) in
    let whole : set c.copy.new.d (length a.payload.now + 4) c.xor.result ≡ over (content_of f) zeros =
    rw (put, check) (content_built f zeros size few) in (
      ap length whole ∙ length_over (content_of f) zeros (omega (arith, length_content f)) ∙ size,
      ap (take (length a.payload.now + 5)) whole ∙ take_over (content_of f) zeros (length a.payload.now + 5) (length_content f),
    )
