-- Dropped is said where a frame that was open ends without being handed out, and nowhere else.
use Rattle.std.specs.Prelude.{ℕ, Bool, cond, List, eqb, ltb}
use Rattle.std.proofs.Math.Bool.{true, false}
use Rattle.std.proofs.Math.Path.{refl}
use Rattle.octets.proofs.Choice.{either_way}
use Rattle.wire.specs.Escape.{head_mark, escape_mark, tail_mark, may_follow, original_of}
use Rattle.wire.specs.Frame.{longest_content, is_content}
use Rattle.reader.specs.Moves.{content_move, follow_move, tail_move, inside_move, move_of, Does, passes, begins}
use Rattle.reader.specs.Reader.{known_of, held_of, judged_by, moved_by, known_step, step_of}
use Rattle.reader.specs.declared.steps.Reader.{Reader}
use Rattle.reader_promises.specs.Promises.{DroppedExactly, ToldRight}

module _ (store : List ℕ) (count : ℕ) where
  -- A reader inside a frame.
  abbrev inside : Bool → Reader
  inside p = record { store = store; count = count; opened = true; pending = p }

  -- What a move of it answers is right, where the byte is no head.
  abbrev MoveTold : Bool → Does → Type 0
  MoveTold p move = ToldRight true false (moved_by move (inside p))

  content_told : (p : Bool) (b : ℕ) → MoveTold p (content_move count b)
  unfolding content_move
  content_told p b = either_way (MoveTold p) (ltb count longest_content) (λ e. refl) (λ e. refl)

  follow_told : (p : Bool) (b : ℕ) → MoveTold p (follow_move count b)
  unfolding follow_move
  follow_told p b = either_way (MoveTold p) (may_follow b) (λ e. content_told p (original_of b)) (λ e. refl)

  judged_told : (p : Bool) (v : Bool) → ToldRight true false (judged_by v (inside p))
  judged_told p true = refl
  judged_told p false = refl

  tail_told : (p : Bool) → MoveTold p (tail_move p)
  unfolding tail_move
  tail_told true = refl
  tail_told false = judged_told false (is_content (held_of (inside false)))

  inside_told : (p : Bool) (b : ℕ) → MoveTold p (inside_move count p b)
  unfolding inside_move
  inside_told p b =
      either_way (MoveTold p) (eqb b tail_mark) (λ t. tail_told p) (λ t.
      either_way (MoveTold p) p (λ w. follow_told p b) (λ w.
      either_way (MoveTold p) (eqb b escape_mark) (λ e. refl) (λ e. content_told p b)))

  -- Inside a frame or not, by a head or another byte.
  any_told : (head o p : Bool) (b : ℕ)
      → ToldRight o head
      (moved_by (cond head begins (cond o (inside_move count p b) passes)) (record { store = store; count = count; opened = o; pending = p }))
  any_told true true p b = refl
  any_told true false p b = refl
  any_told false true p b = inside_told p b
  any_told false false p b = refl

pub dropped_exactly : DroppedExactly
unfolding step_of known_step move_of
dropped_exactly r b =
    let k = known_of r in
    any_told k.store k.count (eqb b head_mark) k.opened k.pending b
