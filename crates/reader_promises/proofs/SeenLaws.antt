-- The laws of Seen: the reader's steps and runs are those of its view.
use Rattle.std.specs.Prelude.{ℕ, suc, ◌+◌, ◌-◌, ◌≤◌, ◌<◌, Bool, cond, not, ◌&&◌, List, [], ◌∷◌, ◌++◌, map, ◌≡◌, eqb, leb, ltb, length, get_or, take, set}
use Rattle.std.proofs.Math.Bool.{true, false}
use Rattle.std.proofs.Common.{append_assoc, ◌∙◌, add-zero, add-one, length-take-le, take-suc-set}
use Rattle.std.proofs.lemmas.List.{map-append, length-replicate}
use Rattle.std.proofs.lemmas.Simd.{map-map}
use Rattle.std.proofs.Math.Path.{refl, ap}
use native.Mathlib.Omega.{arith}
use borrow.Author.Tests.{leb-true, le-leb, ltb-true}
use Rattle.std.proofs.Math.ListN.{length-set}
use Rattle.std.proofs.Math.Seq.{get_or-take}
use Rattle.octets.specs.Octets.{part_of}
use Rattle.wire.specs.Escape.{head_mark, escape_mark, tail_mark, may_follow, original_of}
use Rattle.wire.specs.Frame.{Frame, frame, shortest_content, longest_content, is_content, frame_in}
use Rattle.wire.specs.FrameLaws.{content_long}
use Rattle.reader.specs.Reader.{fresh, known_of, held_of, closed_of, opened_of, answers}
use Rattle.reader.specs.Reader.{payload_in, frames_in, frames_of}
use Rattle.reader.specs.Reader.{judged_by, moved_by, known_step, step_of}
use Rattle.reader.specs.Moves.{content_move, follow_move, tail_move, inside_move, move_of, Does, passes, begins, waits}
use Rattle.reader_promises.specs.Runs.{later, handed_by, handed_from, handed_of}
use Rattle.reader_promises.specs.Promises.{Made}
use Rattle.octets.proofs.Choice.{by_test, either_way}
use Rattle.octets.proofs.Lists.{part_take}
use Rattle.reader_promises.specs.Seen.{Seen, outside, within, seen_in, seen_of, Sight, quiet, hands}
use Rattle.reader_promises.specs.Seen.{seen_step, seen_frames, seen_after, seen_handed}
use Rattle.reader_promises.specs.Seen.{content_sight, follow_sight, tail_sight, inside_sight, past_sight, sight_of}
use Rattle.reader.specs.declared.steps.Reader.{Reader}
use Rattle.reader.specs.declared.steps.Stepped.{Stepped}
use Rattle.reader.specs.declared.steps.Heard.TheVariants.{Dropped, Nothing}

-- A reader with a whole store whose count is in it.
pub record Known (r : Reader) : Type 0 where
  pub size : length r.store ≡ longest_content
  pub low : r.count ≤ longest_content

-- A step is seen as this: the reader after it is known, and it is the view's step.
record SeenAs (step : Stepped) (sight : Sight) : Type 0 where
  known : Known step.reader
  after : seen_in step.reader ≡ sight.seen
  handed : frames_of step ≡ sight.frames

-- ---- one step

-- A reader by its parts.
abbrev reader_of : Bool → List ℕ → ℕ → Bool → Reader
reader_of o store count p = record { store = store; count = count; opened = o; pending = p }

-- A reader inside a frame.
abbrev inside_of : List ℕ → ℕ → Bool → Reader
inside_of store count p = reader_of true store count p

module _ (store : List ℕ) (count : ℕ) (size : length store ≡ longest_content) (low : count ≤ longest_content) where
  -- The content so far is as long as the count says.
  held_long : length (take count store) ≡ count
  held_long = length-take-le count store (omega arith)

  -- A reader with this store and count is known.
  still : (o p : Bool) → Known (reader_of o store count p)
  still o p = record { size = size; low = low }

  -- A frame that is dropped is closed, and nothing is handed out.
  dropped_seen : (p : Bool) → SeenAs (answers Dropped (closed_of (inside_of store count p))) (quiet outside)
  dropped_seen p = record { known = still false false; after = refl; handed = refl }

  -- A byte put at the count stands behind the content so far.
  put_held : (b : ℕ) → count < longest_content → take (count + 1) (set store count b) ≡ take count store ++ (b ∷ [])
  put_held b h = rw add-one (take-suc-set store count b (omega arith))

  -- A move of a reader inside a frame is seen as this.
  abbrev MoveAs : Bool → Does → Sight → Type 0
  MoveAs p move sight = SeenAs (moved_by move (inside_of store count p)) sight

  -- A content byte is put behind the content so far, or the frame is dropped.
  content_seen : (p : Bool) (b : ℕ) → MoveAs p (content_move count b) (content_sight (take count store) b)
  unfolding content_move content_sight held_of
  content_seen p b =
      rw held_long (by_test (MoveAs p) (ltb count longest_content)
      (λ e. let room : count < longest_content = ltb-true count longest_content e in record {
        known = record { size = length-set store count b ∙ size; low = omega arith };
        after = ap (within false) (put_held b room);
        handed = refl;
      })
      (λ e. dropped_seen p))

  -- The byte after the escape is the content byte that it stands for, or the frame is dropped.
  follow_seen : (p : Bool) (b : ℕ) → MoveAs p (follow_move count b) (follow_sight (take count store) b)
  unfolding follow_move follow_sight
  follow_seen p b = by_test (MoveAs p) (may_follow b) (λ e. content_seen p (original_of b)) (λ e. dropped_seen p)

  -- The frame that lies in the store is the one that the content so far carries.
  frame_held : shortest_content ≤ count
      → ◌≡◌ {A = Frame} (frame (get_or store 3 0) (payload_in store (count - shortest_content))) (frame_in (take count store))
  unfolding part_of
  frame_held h = rw (held_long, get_or-take count store 3 0 (omega arith), part_take (count - 5) 4 count store (omega arith))

  -- Where the content so far is judged good, its frame is handed out, else none.
  judged_seen : (p : Bool) (v : Bool) → is_content (take count store) ≡ v
      → SeenAs (judged_by v (inside_of store count p)) (cond v (hands (frame_in (take count store))) (quiet outside))
  unfolding is_content held_of
  judged_seen p true e =
      let long = content_long (take count store) e in
      record { known = still false false; after = refl; handed = ap (λ (f : Frame). f ∷ []) (frame_held (omega (arith, long, held_long))) }
  judged_seen p false e = dropped_seen p

  -- The tail hands out the frame that the content so far carries, or none.
  tail_seen : (p : Bool) → MoveAs p (tail_move p) (tail_sight p (take count store))
  unfolding tail_move tail_sight is_content held_of
  tail_seen true = dropped_seen true
  tail_seen false = judged_seen false (is_content (take count store)) refl

  -- The escape waits for the next byte.
  waiting_seen : (p : Bool) → MoveAs p waits (quiet (within true (take count store)))
  unfolding held_of
  waiting_seen p = record { known = still true true; after = refl; handed = refl }

  -- Every byte inside a frame but the head.
  inside_seen : (p : Bool) (b : ℕ) → MoveAs p (inside_move count p b) (inside_sight p (take count store) b)
  unfolding inside_move inside_sight
  inside_seen p b =
      by_test (MoveAs p) (eqb b tail_mark) (λ t. tail_seen p) (λ t.
      by_test (MoveAs p) p (λ w. follow_seen p b) (λ w.
      by_test (MoveAs p) (eqb b escape_mark) (λ e. waiting_seen p) (λ e. content_seen p b)))

  -- Any byte but the head, inside a frame or not.
  past_seen : (o p : Bool) (b : ℕ)
      → SeenAs (moved_by (cond o (inside_move count p b) passes) (reader_of o store count p))
      (past_sight (cond o (within p (take count store)) outside) b)
  past_seen true p b = inside_seen p b
  past_seen false p b = record { known = still false p; after = refl; handed = refl }

-- The head opens a frame, and hands out nothing.
head_seen : (r : Reader) → Known r → SeenAs (moved_by begins r) (quiet (within false []))
unfolding held_of
head_seen r k = record { known = record { size = k.size; low = omega arith }; after = refl; handed = none r.opened }
  where
    none : (o : Bool) → ◌≡◌ {A = List Frame} (frames_in (cond o Dropped Nothing) (opened_of r)) []
    none true = refl
    none false = refl

-- Every byte to a known reader.
known_seen : (r : Reader) → Known r → (b : ℕ) → SeenAs (known_step r b) (sight_of (seen_in r) b)
unfolding known_step move_of sight_of held_of
known_seen r k b =
    by_test (λ (move : Does) (sight : Sight). SeenAs (moved_by move r) sight) (eqb b head_mark) (λ h. head_seen r k)
    (λ h. past_seen r.store r.count k.size k.low r.opened r.pending b)

-- A fresh reader is known.
pub fresh_known : Known fresh
unfolding fresh
fresh_known = record { size = length-replicate {A = ℕ} longest_content 0; low = omega arith }

-- Any reader is known, as it is taken.
known_of_law : (r : Reader) → Made r → Known (known_of r)
unfolding known_of
known_of_law r a =
    either_way Known (leb r.count longest_content)
    (λ l. record { size = a; low = leb-true r.count longest_content l })
    (λ l. fresh_known)

-- A known reader is taken as it is.
known_same : (r : Reader) → Known r → known_of r ≡ r
unfolding known_of
known_same r k = rw (le-leb r.count longest_content k.low)

-- Every byte to any reader.
any_seen : (r : Reader) → Made r → (b : ℕ) → SeenAs (step_of r b) (sight_of (seen_of r) b)
unfolding step_of seen_of
any_seen r a b = known_seen (known_of r) (known_of_law r a) b

-- The reader after a step is known: the store keeps its size, and the count is in it.
pub step_known : (r : Reader) → Made r → (b : ℕ) → Known (step_of r b).reader
step_known r a b = (any_seen r a b).known

pub step_size : (r : Reader) → Made r → (b : ℕ) → Made (step_of r b).reader
step_size r a b = (step_known r a b).size

-- The view of the reader after a step is the view's step.
step_seen : (r : Reader) → Made r → (b : ℕ) → seen_of (step_of r b).reader ≡ seen_step (seen_of r) b
unfolding seen_of
step_seen r a b = ap seen_in (known_same (step_of r b).reader (any_seen r a b).known) ∙ (any_seen r a b).after

-- The frames that a step hands out are those of the view's step.
step_frames : (r : Reader) → Made r → (b : ℕ) → frames_of (step_of r b) ≡ seen_frames (seen_of r) b
step_frames r a b = (any_seen r a b).handed

-- ---- runs

-- A run of any reader hands out what the run of its view does.
pub handed_seen : (r : Reader) → Made r → (k : ℕ) (bs : List ℕ) → handed_from r k bs ≡ seen_handed (seen_of r) k bs
unfolding handed_by seen_handed
handed_seen r a k [] = refl
handed_seen r a k (b ∷ bs) =
    rw (step_frames r a b, handed_seen (step_of r b).reader (step_size r a b) (suc k) bs, step_seen r a b)

-- A run whose places are counted from further on hands out the same frames at later places.
pub handed_later : (s : Seen) (n k : ℕ) (bs : List ℕ) → seen_handed s (n + k) bs ≡ map (later n) (seen_handed s k bs)
unfolding seen_handed
handed_later s n k [] = refl
handed_later s n k (b ∷ bs) =
    let on : suc (n + k) ≡ n + suc k = omega arith in
    rw (on, handed_later (seen_step s b) n (suc k) bs, map-append, map-map)

-- A run over xs and then ys: the frames of xs, then those of ys from the state after xs, their places shifted.
pub handed_append : (s : Seen) (k : ℕ) (xs ys : List ℕ)
    → seen_handed s k (xs ++ ys) ≡ seen_handed s k xs ++ seen_handed (seen_after s xs) (k + length xs) ys
unfolding seen_handed seen_after
handed_append s k [] ys = rw add-zero
handed_append s k (x ∷ xs) ys =
    let shift : k + suc (length xs) ≡ suc k + length xs = omega arith in
    rw (shift, handed_append (seen_step s x) (suc k) xs ys, append_assoc)

-- The state after xs and then ys is the state after ys from the state after xs.
pub after_append : (s : Seen) (xs ys : List ℕ) → seen_after s (xs ++ ys) ≡ seen_after (seen_after s xs) ys
unfolding seen_after
after_append s [] ys = refl
after_append s (x ∷ xs) ys = after_append (seen_step s x) xs ys

-- The head opens a frame from every state, and hands out nothing.
pub handed_head : (s : Seen) (k : ℕ) (rest : List ℕ)
    → seen_handed s k (head_mark ∷ rest) ≡ seen_handed (within false []) (suc k) rest
unfolding seen_handed sight_of
handed_head s k rest = refl

-- A fresh reader is outside a frame.
fresh_seen : seen_of fresh ≡ outside
unfolding seen_of fresh known_of
fresh_seen = refl

-- What a fresh reader hands out, by its view.
pub fresh_handed : (bs : List ℕ) → handed_of fresh bs ≡ seen_handed outside 0 bs
fresh_handed bs = handed_seen fresh fresh_known.size 0 bs ∙ rw fresh_seen

-- A step hands out nothing, or one frame: what holds of both kinds of step holds of every step.
pub each_sight : (P : Sight → Type 0) → ((s : Seen) → P (quiet s)) → ((f : Frame) → P (hands f))
    → (s : Seen) (b : ℕ) → P (sight_of s b)
unfolding sight_of inside_sight tail_sight follow_sight content_sight
each_sight P q h outside b = either_way P (eqb b head_mark) (λ e. q _) (λ e. q _)
each_sight P q h (within p c) b =
    either_way P (eqb b head_mark) (λ e. q _) (λ e.
    either_way P (eqb b tail_mark) (λ e. either_way P (not p && is_content c) (λ e. h _) (λ e. q _)) (λ e.
    either_way P p (λ e. either_way P (may_follow b) (λ e. content (original_of b)) (λ e. q _)) (λ e.
    either_way P (eqb b escape_mark) (λ e. q _) (λ e. content b))))
  where
    content : (a : ℕ) → P (content_sight c a)
    content a = either_way P (ltb (length c) longest_content) (λ e. q _) (λ e. q _)
