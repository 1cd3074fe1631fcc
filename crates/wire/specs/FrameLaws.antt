-- The laws of content: what is made of a frame is content, and content is made of its frame.
use Rattle.std.specs.Prelude.{ℕ, suc, ◌+◌, ◌-◌, ◌≤◌, ◌<◌, Bool, true, false, cond, List, [], ◌∷◌, ◌≡◌, refl, eqb, leb, length, get_or, take, drop}
use Rattle.std.proofs.lemmas.Bool.{false≢true}
use Rattle.std.proofs.Common.{sym, ap, ◌∙◌, arith, le-leb, leb-true, eq-eqb, eqb-true, length-append, length-take, length-drop, take_at, take-add, take-suc, take_all, drop-cons, length-take-le}
use Rattle.std.proofs.lemmas.List.{get_or_at}
use Rattle.octets.proofs.Lists.{bytes_take, bytes_drop, byte_at}
use Rattle.octets.specs.Octets.{Bytes, number_at, spelled, xor_of}
use Rattle.octets.proofs.OctetsLaws.{little_spelled, spelled_little}
use Rattle.wire.specs.Frame.{Frame, frame, Acceptable, device, longest_payload, shortest_content, longest_content}
use Rattle.wire.specs.Frame.{unchecked_of, content_of, is_content, frame_in}

-- ---- the lengths

-- Length, device and command are four bytes before the payload.
pub length_unchecked : (f : Frame) → length (unchecked_of f) ≡ length f.payload + 4
unfolding unchecked_of spelled
length_unchecked f = omega arith

-- The check is one byte more.
pub length_content : (f : Frame) → length (content_of f) ≡ length f.payload + 5
unfolding content_of
length_content f = simp (length-append, length_unchecked) (omega arith)

-- ---- the test of content and the facts that it stands for

-- The five facts that make bytes the content of a frame.
record Parts (c : List ℕ) : Type 0 where
  long : shortest_content ≤ length c
  short : length c ≤ longest_content
  counted : number_at 2 c 0 ≡ length c - 2
  ours : get_or c 2 0 ≡ device
  checked : get_or c (length c - 1) 0 ≡ xor_of (take (length c - 1) c)

-- Where the facts hold, the test does.
test_of_parts : (c : List ℕ) → Parts c → is_content c ≡ true
unfolding is_content
test_of_parts c p =
    rw (
      le-leb shortest_content (length c) p.long,
      le-leb (length c) longest_content p.short,
      eq-eqb (number_at 2 c 0) (length c - 2) p.counted,
      eq-eqb (get_or c 2 0) device p.ours,
      eq-eqb (get_or c (length c - 1) 0) (xor_of (take (length c - 1) c)) p.checked,
    )

-- A good verdict has passed each test on its way.
good_past : (t : Bool) (v : Bool) → cond t v false ≡ true → (t ≡ true) × (v ≡ true)
good_past true v h = (refl, h)
good_past false v h = absurd (false≢true h)

-- Where the test holds, the facts do.
parts_of_test : (c : List ℕ) → is_content c ≡ true → Parts c
unfolding is_content
parts_of_test c h =
    let size = good_past (leb shortest_content (length c)) _ h in
    let most = good_past (leb (length c) longest_content) _ size.1 in
    let count = good_past (eqb (number_at 2 c 0) (length c - 2)) _ most.1 in
    let ends = good_past (eqb (get_or c 2 0) device) _ count.1 in
    record {
      long = leb-true shortest_content (length c) size.0;
      short = leb-true (length c) longest_content most.0;
      counted = eqb-true (number_at 2 c 0) (length c - 2) count.0;
      ours = eqb-true (get_or c 2 0) device ends.0;
      checked = eqb-true (get_or c (length c - 1) 0) (xor_of (take (length c - 1) c)) ends.1;
    }

-- Content is never shorter than five bytes.
pub content_long : (c : List ℕ) → is_content c ≡ true → 5 ≤ length c
content_long c h = (parts_of_test c h).long

-- ---- from a frame to its content and back

-- The content of a frame passes the reader's test.
pub content_good : (f : Frame) → length f.payload ≤ longest_payload → is_content (content_of f) ≡ true
unfolding content_of unchecked_of spelled number_at
content_good f h =
    let size = length_content f in
    let before : length (unchecked_of f) ≡ length (content_of f) - 1 = omega (arith, length_unchecked f) in
    let check : ℕ = xor_of (unchecked_of f) in
    test_of_parts (content_of f) (record {
      long = omega arith;
      short = omega (arith, size);
      counted = little_spelled 2 (length f.payload + 3) (omega arith) ∙ omega arith;
      ours = refl;
      checked =
          get_or_at (unchecked_of f) check [] 0 (length (content_of f) - 1) before
          ∙ ap xor_of (sym (take_at (unchecked_of f) (check ∷ []) (length (content_of f) - 1) before));
    })

-- The content of a frame carries the frame.
pub frame_in_content : (f : Frame) → frame_in (content_of f) ≡ f
unfolding content_of unchecked_of spelled
frame_in_content f =
    let size : length f.payload ≡ length (content_of f) - 5 = omega (arith, length_content f) in
    ap (λ (p : List ℕ). frame f.command p)
    (take_at f.payload (xor_of (unchecked_of f) ∷ []) (length (content_of f) - 5) size)

-- ---- from content to its frame and back

-- The bytes before the check are those of the frame.
before_check : (c : List ℕ) → Bytes c → Parts c → unchecked_of (frame_in c) ≡ take (length c - 1) c
unfolding unchecked_of number_at
before_check c b p =
    let rest : ℕ = length c - 5 in
    let size : length (take rest (drop 4 c)) + 3 ≡ number_at 2 c 0 = simp (length-take, length-drop) (omega arith) in
    let two : length (take 2 c) ≡ 2 = length-take-le 2 c (omega arith) in
    let first : spelled 2 (number_at 2 c 0) ≡ take 2 c = rw two at (spelled_little (take 2 c) (bytes_take 2 c b)) in
    let third : drop 2 c ≡ get_or c 2 0 ∷ drop 3 c = drop-cons c 2 0 (omega arith) in
    let fourth : drop 3 c ≡ get_or c 3 0 ∷ drop 4 c = drop-cons c 3 0 (omega arith) in
    let all : length c - 1 ≡ 2 + suc (suc rest) = omega arith in
    rw (size, first, all, take-add 2 (suc (suc rest)) c, third, fourth, p.ours)

-- Content bytes that pass the test are the content of the frame that they carry.
pub content_of_frame : (c : List ℕ) → Bytes c → is_content c ≡ true → content_of (frame_in c) ≡ c
unfolding content_of
content_of_frame c b h =
    let p = parts_of_test c h in
    let last : length c - 1 < length c = omega arith in
    rw (before_check c b p, ← p.checked, ← take-suc c (length c - 1) 0 last) (take_all (suc (length c - 1)) c (omega arith))

-- The frame that content carries is acceptable.
pub content_acceptable : (c : List ℕ) → Bytes c → length c ≤ longest_content → Acceptable (frame_in c)
content_acceptable c b l = record {
  command_byte = byte_at c 3 b;
  payload_bytes = bytes_take (length c - 5) (drop 4 c) (bytes_drop 4 c b);
  payload_fits = simp (length-take, length-drop) (omega arith);
}
