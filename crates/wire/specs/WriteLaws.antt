-- What the writer's steps add up to: content built in place, and its wire form laid byte by byte.
use Rattle.std.specs.Prelude.{ℕ, ◌+◌, ◌≤◌, ◌<◌, true, false, List, [], ◌∷◌, ◌++◌, ◌≡◌, refl, length, get_or, take, drop, set}
use Rattle.std.proofs.Common.{append_assoc, sym, ap, ◌∙◌, add-one, arith, length-append, take-append-drop, take-suc, take_all}
use Rattle.std.proofs.lemmas.List.Edits.{sets}
use Rattle.std.specs.List.{sum_by}
use Rattle.std.proofs.lemmas.List.Recursion.{is_sum_by}
use Rattle.octets.specs.Octets.{spelled, xor_of, laid, over}
use borrow.Author.Tests.{lt-ltb, le-ltb}
use Rattle.octets.proofs.OctetsLaws.{over_nil, over_laid, over_put, over_sets, over_over, length_over, length_spelled}
use Rattle.wire.specs.Escape.{head_mark, escape_mark, tail_mark, is_mark, second_of, escape_of, escaped}
use Rattle.refusals.specs.Refusals.{payload_too_long, no_room}
use Rattle.wire.specs.Write.{write_of}
use Rattle.refusals.specs.Written.{refused, written}
use Rattle.wire.specs.EscapeLaws.{escape_mark_law, escape_plain, escaped_append, escaped_snoc, escaped_size}
use Rattle.wire.specs.FrameLaws.{length_unchecked, length_content}
use Rattle.wire.specs.Frame.{Frame, device, longest_payload, longest_content, unchecked_of, content_of, wire_form, wire_of}

-- Length, device, command and payload, each put at its place, are the content before its check.
pub unchecked_built : (f : Frame) (zeros : List ℕ) → length zeros ≡ longest_content → length f.payload ≤ longest_payload
    → laid (set (set (laid zeros 0 (spelled 2 (length f.payload + 3))) 2 device) 3 f.command) 4 f.payload
    ≡ over (unchecked_of f) zeros
unfolding unchecked_of
unchecked_built f zeros z h =
    let size : List ℕ = spelled 2 (length f.payload + 3) in
    let two : length size ≡ 2 = length_spelled 2 (length f.payload + 3) in
    let three : length (size ++ (device ∷ [])) ≡ 3 = simp (length-append, two) in
    let four : length (size ++ (device ∷ []) ++ (f.command ∷ [])) ≡ 4 = simp (length-append, two) in
    let a : laid zeros 0 size ≡ over size zeros = rw over_nil at (over_laid [] zeros size 0 refl (omega arith)) in
    let b = over_put size zeros 2 device two (omega arith) in
    let c = over_put (size ++ (device ∷ [])) zeros 3 f.command three (omega arith) in
    let d = over_laid (size ++ (device ∷ []) ++ (f.command ∷ [])) zeros f.payload 4 four (omega arith) in
    rw (a, b, c, d) (ap (λ (front : List ℕ). over front zeros) (simp append_assoc))

-- The check put behind it makes it the content.
pub content_built : (f : Frame) (zeros : List ℕ) → length zeros ≡ longest_content → length f.payload ≤ longest_payload
    → set (over (unchecked_of f) zeros) (length f.payload + 4) (xor_of (unchecked_of f)) ≡ over (content_of f) zeros
unfolding content_of
content_built f zeros z h =
    over_put (unchecked_of f) zeros (length f.payload + 4) (xor_of (unchecked_of f)) (length_unchecked f) (omega arith)

-- What the wire holds once the first i content bytes are written.
abbrev pub begun : List ℕ → ℕ → List ℕ
begun content i = head_mark ∷ escaped (take i content)

pub escaped_more : (s : List ℕ) (i : ℕ) → i < length s → escaped (take (i + 1) s) ≡ escaped (take i s) ++ escape_of (get_or s i 0)
escaped_more s i h = rw (add-one, take-suc s i 0) (escaped_snoc (take i s) (get_or s i 0))

begun_more : (s : List ℕ) (i : ℕ) → i < length s → begun s (i + 1) ≡ begun s i ++ escape_of (get_or s i 0)
begun_more s i h = ap (λ (l : List ℕ). head_mark ∷ l) (escaped_more s i h)

-- The bytes on the wire are those that each content byte takes.
pub widths : (s : List ℕ) → sum_by (λ b. length (escape_of b)) s ≡ length (escaped s)
unfolding escaped
widths s = sym (is_sum_by (λ l. length (escaped l)) (λ b. length (escape_of b)) refl (λ b l. length-append (escape_of b) (escaped l)) s)

-- The first bytes take no more than all of them.
escaped_prefix : (s : List ℕ) (i : ℕ) → length (escaped (take i s)) ≤ length (escaped s)
escaped_prefix s i =
    let whole : escaped s ≡ escaped (take i s) ++ escaped (drop i s) =
    ap escaped (sym (take-append-drop i s)) ∙ escaped_append (take i s) (drop i s) in
    let size : length (escaped s) ≡ length (escaped (take i s)) + length (escaped (drop i s)) =
    ap length whole ∙ length-append (escaped (take i s)) (escaped (drop i s)) in
    omega arith

pub wire_size : (s : List ℕ) → length (wire_form s) ≡ length (escaped s) + 2
unfolding wire_form
wire_size s = simp length-append (omega arith)

-- The wire form of a frame has at most twice the payload's bytes and twelve more.
pub wire_most : (f : Frame) → length (wire_of f) ≤ length f.payload + length f.payload + 12
unfolding wire_of
wire_most f = omega (arith, wire_size (content_of f), escaped_size (content_of f), length_content f)

-- With the tail behind all content bytes, the wire form stands there.
begun_all : (s : List ℕ) (i : ℕ) → length s ≤ i → begun s i ++ (tail_mark ∷ []) ≡ wire_form s
unfolding wire_form
begun_all s i h = rw (take_all i s h)

-- A mark takes two bytes on the wire, any other byte one.
pub width_mark : (b : ℕ) → is_mark b ≡ true → length (escape_of b) ≡ 2
width_mark b m = rw (escape_mark_law b m)

pub width_plain : (b : ℕ) → is_mark b ≡ false → length (escape_of b) ≡ 1
width_plain b m = rw (escape_plain b m)

-- The stores that lay a byte.
pub stores_mark : (d : List ℕ) (at b : ℕ) → is_mark b ≡ true → set (set d at escape_mark) (at + 1) (second_of b) ≡ sets d at (escape_of b)
stores_mark d at b m = rw (escape_mark_law b m, add-one)

pub stores_plain : (d : List ℕ) (at b : ℕ) → is_mark b ≡ false → set d at b ≡ sets d at (escape_of b)
stores_plain d at b m = rw (escape_plain b m)

pub begun_size : (s : List ℕ) (i : ℕ) → i < length s → length (begun s (i + 1)) ≡ length (begun s i) + length (escape_of (get_or s i 0))
begun_size s i h = ap length (begun_more s i h) ∙ length-append (begun s i) (escape_of (get_or s i 0))

-- Up to the tail there is always room.
pub room_tail : (s : List ℕ) (i : ℕ) → length (begun s i) < length (wire_form s)
room_tail s i = omega (arith, escaped_prefix s i, wire_size s)

-- The head is stored first.
pub head_first : (out : List ℕ) → 0 < length out → set out 0 head_mark ≡ over (head_mark ∷ []) out
head_first out h = rw over_nil at (over_put [] out 0 head_mark refl h)

pub head_kept : (front out : List ℕ) → 0 < length out → over (head_mark ∷ front) (set out 0 head_mark) ≡ over (head_mark ∷ front) out
head_kept front out h = ap (over (head_mark ∷ front)) (head_first out h) ∙ over_over (head_mark ∷ []) (head_mark ∷ front) out (omega arith)

module _ (s out : List ℕ) (fits : length (wire_form s) ≤ length out) where
  pub lay_size : (i : ℕ) → length (over (begun s i) out) ≡ length out
  lay_size i = length_over (begun s i) out (omega (arith, room_tail s i))

  -- The next content byte, stored at the next place.
  pub lay_more : (i : ℕ) → i < length s → sets (over (begun s i) out) (length (begun s i)) (escape_of (get_or s i 0)) ≡ over (begun s (i + 1)) out
  lay_more i h =
      let room = room_tail s (i + 1) in
      over_sets (begun s i) out (escape_of (get_or s i 0)) (length (begun s i)) refl (omega (arith, begun_size s i h))
      ∙ ap (λ (front : List ℕ). over front out) (sym (begun_more s i h))

  -- The tail, stored behind all content bytes.
  pub lay_tail : (i : ℕ) → length s ≤ i → set (over (begun s i) out) (length (begun s i)) tail_mark ≡ over (wire_form s) out
  lay_tail i h =
      over_put (begun s i) out (length (begun s i)) tail_mark refl (omega (arith, room_tail s i))
      ∙ ap (λ (front : List ℕ). over front out) (begun_all s i h)

-- The three answers of the writer.
pub write_too_long : (f : Frame) (out : List ℕ) → longest_payload < length f.payload → write_of f out ≡ refused payload_too_long out
unfolding write_of
write_too_long f out h = rw (lt-ltb longest_payload (length f.payload) h)

module _ (f : Frame) (out : List ℕ) (fits : length f.payload ≤ longest_payload) where
  pub write_no_room : length out < length (wire_of f) → write_of f out ≡ refused no_room out
  unfolding write_of
  write_no_room h = rw (le-ltb longest_payload (length f.payload) fits, lt-ltb (length out) (length (wire_of f)) h)

  pub write_done : length (wire_of f) ≤ length out → write_of f out ≡ written (wire_of f) out
  unfolding write_of
  write_done h = rw (le-ltb longest_payload (length f.payload) fits, le-ltb (length out) (length (wire_of f)) h)
