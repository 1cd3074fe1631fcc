-- What a wire form brings from any state: the state that it leaves, and the one frame that it hands out.
use Rattle.std.specs.Prelude.{ℕ, suc, ◌+◌, ◌-◌, ◌≤◌, ◌<◌, Bool, true, false, List, [], ◌∷◌, ◌++◌, map, ◌≡◌, refl, ltb, length}
use Rattle.std.proofs.Common.{append-nil, ap, ◌∙◌, arith, lt-ltb, length-append}
use Rattle.std.proofs.Math.Seq.{append_snoc}
use Rattle.octets.proofs.Choice.{cond_yes}
use Rattle.wire.specs.Escape.{escape_mark, tail_mark, is_mark, second_of, may_follow, original_of, escape_of, escaped}
use Rattle.wire.specs.EscapeLaws.{mark_not_head, mark_not_escape, mark_not_tail, second_follows, original_second, follow_not_mark}
use Rattle.wire.specs.EscapeLaws.{escape_mark_law, escape_plain}
use Rattle.wire.specs.Frame.{Frame, longest_payload, longest_content, content_of, wire_form, wire_of, is_content, frame_in}
use Rattle.wire.specs.FrameLaws.{length_content, content_good, frame_in_content}
use Rattle.reader_promises.specs.Runs.{placed}
use Rattle.reader_promises.specs.Seen.{Seen, within, Sight, quiet, hands, seen_after, seen_handed}
use Rattle.reader_promises.specs.Seen.{content_sight, follow_sight, tail_sight, inside_sight, sight_of}
use Rattle.reader_promises.proofs.SeenLaws.{handed_append, after_append, handed_head}

-- ---- one byte

-- A byte that is no mark is a content byte.
plain_sight : (c : List ℕ) (b : ℕ) → is_mark b ≡ false → sight_of (within false c) b ≡ content_sight c b
unfolding sight_of inside_sight
plain_sight c b m = rw (mark_not_head b m, mark_not_tail b m, mark_not_escape b m)

-- The escape waits for the next byte.
escape_sight : (c : List ℕ) → sight_of (within false c) escape_mark ≡ quiet (within true c)
unfolding sight_of inside_sight
escape_sight c = refl

-- A byte that may follow the escape is the content byte that it stands for.
second_sight : (c : List ℕ) (b : ℕ) → may_follow b ≡ true → sight_of (within true c) b ≡ content_sight c (original_of b)
unfolding sight_of inside_sight follow_sight
second_sight c b m = rw (mark_not_head b (follow_not_mark b m), mark_not_tail b (follow_not_mark b m), m)

-- The tail behind content hands out the frame that it carries.
tail_sight_law : (c : List ℕ) → is_content c ≡ true → sight_of (within false c) tail_mark ≡ hands (frame_in c)
unfolding sight_of inside_sight tail_sight
tail_sight_law c g = rw g

-- What a byte brings decides the run from it on.
handed_by_law : (s : Seen) (b : ℕ) (x : Sight) → sight_of s b ≡ x → (k : ℕ) (bs : List ℕ)
    → seen_handed s k (b ∷ bs) ≡ map (placed k) x.frames ++ seen_handed x.seen (suc k) bs
unfolding seen_handed
handed_by_law s b x e k bs = ap (λ (y : Sight). map (placed k) y.frames ++ seen_handed y.seen (suc k) bs) e

-- ---- runs

-- A run that hands out nothing, and the state that it leaves.
record Silent (s : Seen) (bs : List ℕ) (t : Seen) : Type 0 where
  after : seen_after s bs ≡ t
  none : (k : ℕ) → seen_handed s k bs ≡ []

-- No bytes hand out nothing.
silent_nil : (s : Seen) → Silent s [] s
unfolding seen_after seen_handed
silent_nil s = record { after = refl; none = λ k. refl }

-- One byte that hands out nothing, before such a run.
silent_cons : (s t u : Seen) (b : ℕ) (bs : List ℕ) → sight_of s b ≡ quiet t → Silent t bs u → Silent s (b ∷ bs) u
unfolding seen_after seen_handed
silent_cons s t u b bs e q = record {
  after = ap (λ (x : Sight). seen_after x.seen bs) e ∙ q.after;
  none = λ k. handed_by_law s b (quiet t) e k bs ∙ q.none (suc k);
}

-- Two such runs, one behind the other.
silent_append : (s t u : Seen) (xs ys : List ℕ) → Silent s xs t → Silent t ys u → Silent s (xs ++ ys) u
silent_append s t u xs ys p q = record {
  after = rw (after_append s xs ys, p.after) q.after;
  none = λ k. rw (handed_append s k xs ys, p.none k, p.after) (q.none (k + length xs));
}

-- The wire form of a content byte brings that byte.
byte_silent : (c : List ℕ) (b : ℕ) → length c < longest_content
    → Silent (within false c) (escape_of b) (within false (c ++ (b ∷ [])))
unfolding content_sight
byte_silent c b l = go (is_mark b) refl
  where
    taken : (s : Seen) (a : ℕ) → sight_of s a ≡ content_sight c b → Silent s (a ∷ []) (within false (c ++ (b ∷ [])))
    taken s a e = silent_cons s _ _ a [] (e ∙ cond_yes (ltb (length c) longest_content) _ _ (lt-ltb (length c) longest_content l)) (silent_nil (within false (c ++ (b ∷ []))))

    go : (m : Bool) → is_mark b ≡ m → Silent (within false c) (escape_of b) (within false (c ++ (b ∷ [])))
    go true m =
        let second = second_sight c (second_of b) (second_follows b m) in
        rw (escape_mark_law b m) (silent_cons _ _ _ _ _ (escape_sight c)
        (taken (within true c) (second_of b) (second ∙ ap (content_sight c) (original_second b m))))
    go false m = rw (escape_plain b m) (taken (within false c) b (plain_sight c b m))

-- The wire form of content brings that content.
escaped_silent : (c bs : List ℕ) → length c + length bs ≤ longest_content
    → Silent (within false c) (escaped bs) (within false (c ++ bs))
unfolding escaped
escaped_silent c [] l = rw append-nil (silent_nil (within false c))
escaped_silent c (b ∷ bs) l =
    let more : length (c ++ (b ∷ [])) + length bs ≤ longest_content = rw length-append (omega arith) in
    let rest = escaped_silent (c ++ (b ∷ [])) bs more in
    silent_append _ _ _ (escape_of b) (escaped bs) (byte_silent c b (omega arith)) (rw append_snoc at rest)

-- The tail behind content hands out the frame, at its own place.
handed_tail : (c : List ℕ) (k : ℕ) → is_content c ≡ true
    → seen_handed (within false c) k (tail_mark ∷ []) ≡ placed k (frame_in c) ∷ []
unfolding seen_handed
handed_tail c k g = handed_by_law (within false c) tail_mark (hands (frame_in c)) (tail_sight_law c g) k []

-- From any state the wire form of a frame hands out exactly that frame, at its last byte.
pub handed_frame : (s : Seen) (k : ℕ) (f : Frame) → length f.payload ≤ longest_payload
    → seen_handed s k (wire_of f) ≡ placed (k + length (wire_of f) - 1) f ∷ []
unfolding wire_of wire_form
handed_frame s k f l =
    let c = content_of f in
    let body = escaped_silent [] c (omega (arith, length_content f)) in
    let end : List ℕ = tail_mark ∷ [] in
    let place : suc k + length (escaped c) ≡ k + suc (length (escaped c ++ end)) - 1 = rw length-append (omega arith) in
    rw (
      handed_head s k (escaped c ++ end),
      handed_append (within false []) (suc k) (escaped c) end,
      body.none (suc k),
      body.after,
      handed_tail c (suc k + length (escaped c)) (content_good f l),
      frame_in_content f,
      place,
    )
