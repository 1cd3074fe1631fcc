-- Wrong wire forms, a wrong writer and a wrong builder of 0x02, each a small variation of ours, and a promise that it breaks.
use Rattle.std.specs.Prelude.{ℕ, ◌+◌, cond, ◌≡◌, refl, eqb, ltb, get_or, take, drop, replicate}
use mathlib.Core.List.{List, [], ◌∷◌, ◌++◌, Memᴰ}
use Rattle.std.proofs.Common.{sym, ◌∙◌, arith, length-append, take_at}
use Rattle.std.proofs.Math.Path.{ap}
use Rattle.std.proofs.Math.ListN.{length}
use Rattle.std.proofs.lemmas.List.{length-replicate}
use Rattle.octets.specs.Octets.{Bytes, little, spelled, number_at, xor_from, xor_of, part_of, over}
use Rattle.refusals.specs.Refusals.{no_room}
use Rattle.refusals.specs.Written.{Out, refused}
use Rattle.kinds.specs.Kinds.{number_of, token_of}
use Rattle.kinds.specs.declared.Kind.{Kind}
use Rattle.wire.specs.Escape.{head_mark, tail_mark, is_mark, second_of, may_follow, original_of, escape_of, escaped}
use Rattle.wire.specs.Frame.{Frame, frame, device, unchecked_of, content_of, wire_form, wire_of, is_content}
use Rattle.wire.specs.Marks.{Form, OnlyMarksOf, NoPrefixOf}
use Rattle.wire.specs.Write.{write_of}
use Rattle.commands.specs.Commands.{rate_frame, restart_frame, notice}
use Rattle.reader.specs.Moves.{content_move, follow_move, tail_move, inside_move, move_of}
use Rattle.reader.specs.Reader.{fresh, known_of, held_of, known_step, step_of}
use Rattle.reader_promises.specs.Runs.{placed, handed_by}
use Rattle.reader_promises.specs.Promises.{Writer, RoundTripOf, ReadBackOf, RefusedAsLentOf, BenchTableOf, BenchFramesOf}
use Rattle.reader_promises.specs.Table.{Row}
use Rattle.reader_promises.proofs.SeenLaws.{fresh_known}

-- ---- W1: Length counts escaped bytes

-- Our wire form, but Length counts the payload as it stands on the wire.
abbrev pub counts_escapes : Form
counts_escapes f =
    let before = spelled 2 (length (escaped f.payload) + 3) ++ (device ∷ f.command ∷ f.payload) in
    wire_form (before ++ (xor_of before ∷ []))

pub counts_escapes_refuted : RoundTripOf step_of counts_escapes → ⊥
unfolding handed_by step_of known_step known_of fresh move_of inside_move tail_move content_move held_of is_content number_at little xor_from
    follow_move may_follow original_of wire_form spelled escaped escape_of is_mark second_of
counts_escapes_refuted promise =
    let counts : ◌≡◌ {A = ℕ} 0 1 = ap length (promise fresh (rate_frame 0xDB) fresh_known.size (omega arith)) in
    omega (arith, counts)

-- ---- W1, the way back: writes another frame

-- Our writer, but the payload is left out.
abbrev pub leaves_payload_out : Writer
leaves_payload_out f output = write_of (frame f.command []) output

-- The notice of success on the wire.
abbrev success_bytes : List ℕ
success_bytes = 0xDB ∷ 0x04 ∷ 0x00 ∷ 0x01 ∷ 0x86 ∷ 0x00 ∷ 0x83 ∷ 0xDE ∷ []

success_are_bytes : Bytes success_bytes
success_are_bytes =
    (omega arith, (omega arith, (omega arith, (omega arith, (omega arith, (omega arith, (omega arith, (omega arith, tt))))))))

success_handed : handed_by step_of fresh 0 success_bytes ≡ placed 7 (notice 0) ∷ []
unfolding handed_by step_of known_step known_of fresh move_of inside_move tail_move content_move held_of is_content number_at little xor_from part_of
success_handed = refl

pub leaves_payload_out_refuted : ReadBackOf step_of leaves_payload_out → ⊥
unfolding write_of wire_of wire_form content_of unchecked_of spelled xor_from escaped escape_of is_mark over
leaves_payload_out_refuted promise =
    let there : Memᴰ (placed 7 (notice 0)) (handed_by step_of fresh 0 success_bytes) = rw success_handed (mathlib.Core.List.Memᴰ.head refl) in
    let same = promise success_bytes success_are_bytes (placed 7 (notice 0)) there success_bytes (omega arith) in
    let second : ◌≡◌ {A = ℕ} 3 4 = ap (λ (o : Out). get_or o.output 1 0) same in
    omega (arith, second)

-- ---- the output of a refusal

-- Our writer, but the bytes that fit are written before the room is tested.
abbrev pub writes_first : Writer
writes_first f output =
    cond (ltb (length output) (length (wire_of f))) (refused no_room (over (take (length output) (wire_of f)) output)) (write_of f output)

pub writes_first_refuted : RefusedAsLentOf writes_first → ⊥
unfolding wire_of wire_form content_of unchecked_of spelled xor_from escaped escape_of is_mark over
writes_first_refuted promise =
    let first : ◌≡◌ {A = ℕ} 0xDB 0x00 = ap (λ (l : List ℕ). get_or l 0 0) (promise restart_frame (0x00 ∷ []) no_room refl) in
    omega (arith, first)

-- ---- W4: the check leaves the device out

-- Our wire form, but the check is document 001's formula.
abbrev pub leaves_device_out : Form
leaves_device_out f = wire_form (unchecked_of f ++ (xor_of (spelled 2 (length f.payload + 3) ++ (f.command ∷ f.payload)) ∷ []))

abbrev first : Row
first = record { frame = rate_frame 5; bytes = 0xDB ∷ 0x04 ∷ 0x00 ∷ 0x01 ∷ 0x01 ∷ 0x05 ∷ 0x01 ∷ 0xDE ∷ [] }

pub leaves_device_out_refuted : BenchTableOf step_of leaves_device_out → ⊥
unfolding wire_form unchecked_of spelled xor_from escaped escape_of is_mark
leaves_device_out_refuted promise =
    let check : ◌≡◌ {A = ℕ} 0 1 = ap (λ (l : List ℕ). get_or l 6 0) (promise first (mathlib.Core.List.Memᴰ.head refl)).0 in
    omega (arith, check)

-- ---- W4: the address before the length

-- Our payload of 0x02, but with the address before the length.
abbrev pub address_first : Kind → ℕ → List ℕ
address_first kind n = spelled 2 (number_of kind) ++ (spelled 4 (token_of kind) ++ spelled 4 n)

pub address_first_refuted : BenchFramesOf address_first → ⊥
unfolding spelled
address_first_refuted promise =
    let third : ◌≡◌ {A = ℕ} 0xE0 0x00 = ap (λ (fs : List Frame). get_or (get_or fs 2 restart_frame).payload 2 0) promise in
    omega (arith, third)

-- ---- W5: the tail goes on the wire as it is

abbrev escaped_bare : List ℕ → List ℕ
escaped_bare [] = []
escaped_bare (b ∷ bs) = cond (eqb b tail_mark) (b ∷ []) (escape_of b) ++ escaped_bare bs

-- Our wire form, but a tail in the content is not escaped.
abbrev pub tail_is_bare : Form
tail_is_bare f = head_mark ∷ (escaped_bare (content_of f) ++ (tail_mark ∷ []))

-- Command DE on the wire.
abbrev bare : List ℕ
bare = 0x03 ∷ 0x00 ∷ 0x01 ∷ 0xDE ∷ 0xDC ∷ 0xCC ∷ []

-- What stands between head and tail is all but the last byte.
middle_bare : (middle : List ℕ) → head_mark ∷ (bare ++ (tail_mark ∷ [])) ≡ head_mark ∷ (middle ++ (tail_mark ∷ [])) → bare ≡ middle
middle_bare middle e =
    let size : 6 ≡ length middle = omega (arith, ap length e, length-append middle (tail_mark ∷ [])) in
    ap (λ (l : List ℕ). take 6 (drop 1 l)) e ∙ take_at middle (tail_mark ∷ []) 6 (sym size)

pub tail_is_bare_refuted : OnlyMarksOf tail_is_bare → ⊥
unfolding content_of unchecked_of spelled xor_from escape_of is_mark second_of
tail_is_bare_refuted promise =
    let m = promise (frame 0xDE []) in
    m.no_tail_law (rw (← middle_bare m.middle m.form) (mathlib.Core.List.Memᴰ.tail (mathlib.Core.List.Memᴰ.tail (mathlib.Core.List.Memᴰ.tail (mathlib.Core.List.Memᴰ.head refl)))))

-- ---- W5: no tail

-- Our wire form, but without its tail.
abbrev pub no_tail : Form
no_tail f = head_mark ∷ escaped (content_of f)

-- Length has two bytes, so a payload of 65,536 bytes has the Length of none, and only the tail tells where the first frame ends.
module _ (zeros : List ℕ) (many : length zeros ≡ 65534) where
  abbrev wrapped : Frame
  wrapped = frame 0x06 (0x04 ∷ 0x00 ∷ zeros)

  abbrev rest : List ℕ
  rest = 0x00 ∷ escaped (zeros ++ (xor_of (unchecked_of wrapped) ∷ []))

  wrapped_form : no_tail restart_frame ++ rest ≡ no_tail wrapped
  unfolding content_of unchecked_of spelled xor_from escaped escape_of is_mark
  wrapped_form =
      let count : 65539 ≡ length wrapped.payload + 3 = omega (arith, many) in
      let size : 0x03 ∷ 0x00 ∷ [] ≡ spelled 2 (length wrapped.payload + 3) = ap (spelled 2) count in
      ap (λ (l : List ℕ). head_mark ∷ escaped (l ++ (device ∷ 0x06 ∷ wrapped.payload) ++ (xor_of (unchecked_of wrapped) ∷ []))) size

  longer_refuted : NoPrefixOf no_tail → ⊥
  longer_refuted promise =
      let counts : ◌≡◌ {A = ℕ} (length rest) 0 = ap length (promise restart_frame wrapped rest wrapped_form) in
      omega (arith, counts)

pub no_tail_refuted : NoPrefixOf no_tail → ⊥
no_tail_refuted = longer_refuted (replicate 65534 0x00) (length-replicate {A = ℕ} 65534 0x00)
