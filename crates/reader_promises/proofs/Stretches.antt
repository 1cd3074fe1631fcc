-- W3: over any bytes a fresh reader hands out exactly the frames whose wire forms stand there.
use Rattle.std.specs.Prelude.{ℕ, suc, ◌+◌, ◌-◌, ◌≤◌, ◌<◌, Bool, cond, ◌≡◌, eqb, ltb, length}
use Rattle.std.proofs.Math.Bool.{true, false}
use mathlib.Core.List.{List, [], ◌∷◌, ◌++◌, map, append_assoc, append-nil}
use mathlib.Core.List.Memᴰ
use mathlib.Core.List.{Memᴰ}
use Rattle.std.proofs.Common.{⊎_elim, ap, ◌∙◌, zero-add, le_refl, arith}
use borrow.Author.Tests.{eqb-true, ltb-true}
use Rattle.std.proofs.Math.ListN.{length-append}
use Rattle.std.proofs.Math.Seq.{append_snoc}
use Rattle.octets.specs.Octets.{Bytes}
use Rattle.wire.specs.Escape.{head_mark, escape_mark, tail_mark, may_follow, original_of, escape_of, escaped}
use Rattle.wire.specs.EscapeLaws.{not_mark, original_mark, second_original, original_byte}
use Rattle.wire.specs.EscapeLaws.{escape_mark_law, escape_plain, escaped_snoc}
use Rattle.wire.specs.Frame.{Frame, Acceptable, longest_payload, longest_content, wire_form, wire_of, is_content, frame_in}
use Rattle.wire.specs.FrameLaws.{content_of_frame, content_acceptable}
use Rattle.reader_promises.specs.Runs.{Placed, placed, RisingFrom}
use Rattle.reader_promises.specs.Promises.{StandsIn, EveryStretch}
use Rattle.octets.proofs.Choice.{either_way}
use Rattle.octets.proofs.Lists.{bytes_snoc}
use Rattle.reader_promises.specs.Seen.{Seen, outside, within, Sight, quiet, seen_step, seen_frames, seen_handed}
use Rattle.reader_promises.specs.Seen.{content_sight, follow_sight, tail_sight, inside_sight, past_sight, sight_of}
use Rattle.reader_promises.proofs.SeenLaws.{handed_append, fresh_handed, each_sight}
use Rattle.reader_promises.proofs.Feed.{handed_frame}

-- ---- sound: an invariant on the bytes so far

-- What a pending escape has put on the wire.
abbrev waiting : Bool → List ℕ
waiting p = cond p (escape_mark ∷ []) []

-- The bytes so far end with the head and the content so far, as it stands on the wire.
record Holds (past : List ℕ) (p : Bool) (c : List ℕ) : Type 0 where
  before : List ℕ
  form : past ≡ before ++ (head_mark ∷ (escaped c ++ waiting p))
  bytes : Bytes c
  fits : length c ≤ longest_content

-- What the bytes so far hold of a state.
abbrev Read : List ℕ → Seen → Type 0
Read past outside = Unit
Read past (within p c) = Holds past p c

-- The bytes so far end with the wire form of an acceptable frame.
record Ends (past : List ℕ) (f : Frame) : Type 0 where
  before : List ℕ
  form : past ≡ before ++ wire_of f
  acceptable : Acceptable f

-- What a step brings is in the bytes so far.
record Traced (past : List ℕ) (x : Sight) : Type 0 where
  read : Read past x.seen
  ends : (f : Frame) → Memᴰ f x.frames → Ends past f

-- A step that hands out nothing.
quiet_traced : (past : List ℕ) (s : Seen) → Read past s → Traced past (quiet s)
quiet_traced past s h = record { read = h; ends = λ f m. absurd (Memᴰ.not-nil m) }

-- More bytes stand behind the content so far.
held_more : (past : List ℕ) (p : Bool) (c : List ℕ) (h : Holds past p c) (bs : List ℕ)
    → past ++ bs ≡ h.before ++ (head_mark ∷ (escaped c ++ (waiting p ++ bs)))
held_more past p c h bs = ap (λ (l : List ℕ). l ++ bs) h.form ∙ simp append_assoc

-- The escape and a byte that may follow it are the wire form of the byte that they stand for.
followed : (b : ℕ) → may_follow b ≡ true → escape_mark ∷ b ∷ [] ≡ escape_of (original_of b)
followed b m = rw (escape_mark_law (original_of b) (original_mark b m), second_original b m)

-- The bytes so far, the content so far, and the next byte.
module _ (past : List ℕ) (c : List ℕ) (b : ℕ) where
  -- The bytes so far with the next byte.
  abbrev more : List ℕ
  more = past ++ (b ∷ [])

  -- A content byte a, where the bytes so far end with its wire form.
  content_traced : (p : Bool) → Holds past p c → (a : ℕ) → a < 256 → waiting p ++ (b ∷ []) ≡ escape_of a
      → Traced more (content_sight c a)
  unfolding content_sight
  content_traced p h a l e =
      either_way (Traced more) (ltb (length c) longest_content)
      (λ t. quiet_traced more (within false (c ++ (a ∷ []))) (record {
        before = h.before;
        form = rw (escaped_snoc c a, append-nil, ← e) (held_more past p c h (b ∷ []));
        bytes = bytes_snoc c a h.bytes l;
        fits = rw length-append (omega (arith, ltb-true (length c) longest_content t));
      }))
      (λ t. quiet_traced more outside tt)

  -- The byte after the escape.
  follow_traced : Holds past true c → Traced more (follow_sight c b)
  unfolding follow_sight
  follow_traced h =
      either_way (Traced more) (may_follow b)
      (λ m. content_traced true h (original_of b) (original_byte b m) (followed b m))
      (λ m. quiet_traced more outside tt)

  -- Behind content the tail ends the wire form of the frame that it carries.
  tail_ends : Holds past false c → b ≡ tail_mark → is_content c ≡ true → Ends more (frame_in c)
  unfolding wire_of wire_form
  tail_ends h e g = record {
    before = h.before;
    form = rw (content_of_frame c h.bytes g, e) (held_more past false c h (tail_mark ∷ []));
    acceptable = content_acceptable c h.bytes h.fits;
  }

  -- The tail.
  tail_traced : (p : Bool) → Holds past p c → b ≡ tail_mark → Traced more (tail_sight p c)
  unfolding tail_sight
  tail_traced true h e = quiet_traced more outside tt
  tail_traced false h e =
      either_way (Traced more) (is_content c)
      (λ g. record {
        read = tt;
        ends = λ f m. let only : f ≡ frame_in c = Memᴰ.eq_of_singleton m in rw only (tail_ends h e g);
      })
      (λ g. quiet_traced more outside tt)

  -- The escape.
  escape_traced : Holds past false c → b ≡ escape_mark → Traced more (quiet (within true c))
  escape_traced h e = quiet_traced more (within true c) (record {
    before = h.before;
    form = rw e (held_more past false c h (escape_mark ∷ []));
    bytes = h.bytes;
    fits = h.fits;
  })

  -- Any byte inside a frame but the head.
  inside_traced : (p : Bool) → Holds past p c → b < 256 → eqb b head_mark ≡ false → Traced more (inside_sight p c b)
  unfolding inside_sight
  inside_traced p h l n =
      either_way (Traced more) (eqb b tail_mark) (λ t. tail_traced p h (eqb-true b tail_mark t)) (λ t.
      either_way (Traced more) p (λ w. follow_traced (rw w at h)) (λ w.
      either_way (Traced more) (eqb b escape_mark) (λ e. escape_traced (rw w at h) (eqb-true b escape_mark e)) (λ e.
      content_traced false (rw w at h) b l (rw (escape_plain b (not_mark b n e t))))))

-- Any byte but the head, inside a frame or not.
past_traced : (past : List ℕ) (s : Seen) (b : ℕ) → Read past s → b < 256 → eqb b head_mark ≡ false
    → Traced (past ++ (b ∷ [])) (past_sight s b)
past_traced past outside b h l n = quiet_traced (past ++ (b ∷ [])) outside tt
past_traced past (within p c) b h l n = inside_traced past c b p h l n

-- Any byte.
step_traced : (past : List ℕ) (s : Seen) (b : ℕ) → Read past s → b < 256 → Traced (past ++ (b ∷ [])) (sight_of s b)
unfolding sight_of escaped
step_traced past s b h l =
    either_way (Traced (past ++ (b ∷ []))) (eqb b head_mark)
    (λ e. quiet_traced (past ++ (b ∷ [])) (within false []) (record {
      before = past;
      form = rw (eqb-true b head_mark e);
      bytes = tt;
      fits = omega arith;
    }))
    (λ n. past_traced past s b h l n)

-- What soundness says of one frame handed out.
abbrev Sound : List ℕ → Placed → Type 0
Sound bytes p = Acceptable p.frame × StandsIn bytes (wire_of p.frame) p.place

-- A frame whose wire form ends with a byte stands in all bytes, its tail at the place of that byte.
ends_sound : (past : List ℕ) (b : ℕ) (bs : List ℕ) (f : Frame) → Ends (past ++ (b ∷ [])) f
    → Sound (past ++ (b ∷ bs)) (placed (length past) f)
ends_sound past b bs f h = (
  h.acceptable,
  record {
    before = h.before;
    after = bs;
    split = rw (← append_snoc past b bs, h.form, append_assoc);
    ends = omega (arith, simp length-append at (ap length h.form));
  },
)

-- So each frame that a byte hands out.
now_sound : (past : List ℕ) (b : ℕ) (bs : List ℕ) (x : Sight) → Traced (past ++ (b ∷ [])) x
    → (p : Placed) → Memᴰ p (map (placed (length past)) x.frames) → Sound (past ++ (b ∷ bs)) p
now_sound past b bs x h p m =
    let f = Memᴰ.of_map (placed (length past)) x.frames m in
    rw (← f.2) (ends_sound past b bs f.0 (h.ends f.0 f.1))

-- The frames handed out over bs, behind the bytes past, stand in both.
sound_from : (past bs : List ℕ) (s : Seen) → Read past s → Bytes bs
    → (p : Placed) → Memᴰ p (seen_handed s (length past) bs) → Sound (past ++ bs) p
unfolding seen_handed
sound_from past [] s h l p m = absurd (Memᴰ.not-nil m)
sound_from past (b ∷ bs) s h l p m =
    let now = step_traced past s b h l.0 in
    let size : length (past ++ (b ∷ [])) ≡ suc (length past) = rw length-append (omega arith) in
    ⊎_elim
    (λ here. now_sound past b bs (sight_of s b) now p here)
    (λ later. rw append_snoc at (sound_from (past ++ (b ∷ [])) bs (seen_step s b) now.read l.1 p (rw size later)))
    (Memᴰ.append_cases (map (placed (length past)) (seen_frames s b)) m)

-- ---- complete: a wire form brings its frame from any state

-- Where the wire form of a frame stands, the frame is handed out at the place of its tail.
complete_from : (s : Seen) (bytes : List ℕ) (f : Frame) (tail : ℕ) → length f.payload ≤ longest_payload
    → StandsIn bytes (wire_of f) tail → Memᴰ (placed tail f) (seen_handed s 0 bytes)
complete_from s bytes f tail l h =
    let place : tail ≡ length h.before + length (wire_of f) - 1 = omega arith in
    let here : placed tail f ≡ placed (length h.before + length (wire_of f) - 1) f = ap (λ (k : ℕ). placed k f) place in
    rw (
      h.split,
      handed_append s 0 h.before (wire_of f ++ h.after),
      zero-add,
      handed_append _ _ (wire_of f) h.after,
      handed_frame _ _ f l,
    )
    (Memᴰ.append_right (seen_handed s 0 h.before) (Memᴰ.head here))

-- ---- rising: each step hands out at most one frame, at its own place

-- Places that rise from one place on rise from the place before it.
rising_weak : (k : ℕ) (ps : List Placed) → RisingFrom (suc k) ps → RisingFrom k ps
rising_weak k [] h = tt
rising_weak k (p ∷ ps) h = (omega arith, h.1)

-- What a step hands out at its place stands before what is handed out later.
abbrev Rises : ℕ → Sight → Type 0
Rises k x = (rest : List Placed) → RisingFrom (suc k) rest → RisingFrom k (map (placed k) x.frames ++ rest)

-- The places of a run rise from its first place on.
rising_from : (s : Seen) (k : ℕ) (bs : List ℕ) → RisingFrom k (seen_handed s k bs)
unfolding seen_handed
rising_from s k [] = tt
rising_from s k (b ∷ bs) =
    each_sight (Rises k) (λ s rest h. rising_weak k rest h) (λ f rest h. (le_refl k, h)) s b
    (seen_handed (seen_step s b) (suc k) bs) (rising_from (seen_step s b) (suc k) bs)

-- The three parts, by the view of a fresh reader.
pub every_stretch : EveryStretch
every_stretch bytes l = record {
  sound = λ p m. sound_from [] bytes outside tt l p (rw (fresh_handed bytes) at m);
  complete = λ f tail a h. rw (fresh_handed bytes) (complete_from outside bytes f tail a.payload_fits h);
  rising = rw (fresh_handed bytes) (rising_from outside 0 bytes);
}
