-- The reader as its promises see it: what stands in the store behind the content so far is forgotten.
use Rattle.std.specs.Prelude.{ℕ, suc, Bool, true, false, cond, not, ◌&&◌, List, [], ◌∷◌, ◌++◌, map, eqb, ltb, length}
use Rattle.wire.specs.Escape.{head_mark, escape_mark, tail_mark, may_follow, original_of}
use Rattle.wire.specs.Frame.{Frame, longest_content, is_content, frame_in}
use Rattle.reader.specs.Reader.{known_of, held_of}
use Rattle.reader_promises.specs.Runs.{Placed, placed}
use Rattle.reader.specs.declared.steps.Reader.{Reader}

-- Outside a frame, or within one: whether an escape is pending, and the content so far.
pub data Seen : Type 0 where
  outside : Seen
  within : Bool → List ℕ → Seen

-- The view of a reader whose count is at most 1,035.
abbrev pub seen_in : Reader → Seen
seen_in r = cond r.opened (within r.pending (held_of r)) outside

-- The view of any reader.
unfoldable pub seen_of : Reader → Seen
seen_of r = seen_in (known_of r)

-- What a step brings: the state after it and the frames that it hands out.
pub record Sight : Type 0 where
  pub seen : Seen
  pub frames : List Frame

-- A step that hands out nothing.
abbrev pub quiet : Seen → Sight
quiet s = record { seen = s; frames = [] }

-- A step that hands out a frame and closes.
abbrev pub hands : Frame → Sight
hands f = record { seen = outside; frames = f ∷ [] }

-- A content byte is put behind the content so far. Content byte 1,036 closes.
unfoldable pub content_sight : List ℕ → ℕ → Sight
content_sight c b = cond (ltb (length c) longest_content) (quiet (within false (c ++ (b ∷ [])))) (quiet outside)

-- The byte after the escape stands for a content byte, or closes.
unfoldable pub follow_sight : List ℕ → ℕ → Sight
follow_sight c b = cond (may_follow b) (content_sight c (original_of b)) (quiet outside)

-- The tail closes, and hands out the frame that the content carries if no escape is pending.
unfoldable pub tail_sight : Bool → List ℕ → Sight
tail_sight p c = cond (not p && is_content c) (hands (frame_in c)) (quiet outside)

-- Inside a frame, any byte but the head.
unfoldable pub inside_sight : Bool → List ℕ → ℕ → Sight
inside_sight p c b =
    cond (eqb b tail_mark) (tail_sight p c)
    (cond p (follow_sight c b) (cond (eqb b escape_mark) (quiet (within true c)) (content_sight c b)))

-- Inside or outside, any byte but the head.
abbrev pub past_sight : Seen → ℕ → Sight
past_sight outside b = quiet outside
past_sight (within p c) b = inside_sight p c b

-- Any byte: the head always opens a frame.
unfoldable pub sight_of : Seen → ℕ → Sight
sight_of s b = cond (eqb b head_mark) (quiet (within false [])) (past_sight s b)

-- The state after one byte.
abbrev pub seen_step : Seen → ℕ → Seen
seen_step s b = (sight_of s b).seen

-- The frames that one byte hands out.
abbrev pub seen_frames : Seen → ℕ → List Frame
seen_frames s b = (sight_of s b).frames

-- The state after some bytes.
unfoldable pub seen_after : Seen → List ℕ → Seen
seen_after s [] = s
seen_after s (b ∷ bs) = seen_after (seen_step s b) bs

-- The frames that some bytes hand out, each with the place of its tail. The first byte has the place k.
unfoldable pub seen_handed : Seen → ℕ → List ℕ → List Placed
seen_handed s k [] = []
seen_handed s k (b ∷ bs) = map (placed k) (seen_frames s b) ++ seen_handed (seen_step s b) (suc k) bs
