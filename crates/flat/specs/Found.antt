-- Words that a record spells, found in it again.
use Rattle.std.specs.Prelude.{ℕ, ◌+◌, ◌*◌, ◌/◌, ◌≤◌, ◌<◌, true, List, [], ◌∷◌, ◌++◌, ◌≡◌, refl, ltb, length, take, drop, replicate}
use Rattle.std.proofs.Common.{append_assoc, ap, ◌∙◌, arith, le-ltb, take-append-drop, take_at, drop_at, drop-drop}
use Rattle.std.proofs.lemmas.List.{length-replicate}
use Rattle.octets.specs.Octets.{spelled, number_at, part_of, over}
use Rattle.octets.proofs.OctetsLaws.{length_spelled, number_four, same_refl, same_true, take_over, over_over, over_all, length_over}
use Rattle.octets.proofs.Choice.{either_way}
use Rattle.octets.proofs.PartLaws.{number_of_part}
use Rattle.flat.specs.Words.{spelled_all, recorded, stands_for, low_half, high_half}
use Rattle.flat.specs.WordsLaws.{length_spelled_all, number_eight}

-- Each number has room in a word.
abbrev pub Words : List ℕ → Type 0
Words [] = Unit
Words (w ∷ ws) = (w < 4294967296) × Words ws

-- From a place on, the words are read one behind the other.
abbrev pub ReadAt : List ℕ → ℕ → List ℕ → Type 0
ReadAt s at [] = Unit
ReadAt s at (w ∷ ws) = (number_at 4 s at ≡ w) × ReadAt s (at + 4) ws

-- Words spelled from a place on are read there, whatever follows.
pub read_all : (ws s rest : List ℕ) (at : ℕ) → Words ws → drop at s ≡ spelled_all ws ++ rest → ReadAt s at ws
unfolding spelled_all part_of
read_all [] s rest at small e = tt
read_all (w ∷ ws) s rest at small e =
    let behind : List ℕ = spelled_all ws ++ rest in
    let here : drop at s ≡ spelled 4 w ++ behind = e ∙ append_assoc (spelled 4 w) (spelled_all ws) rest in
    let next : drop (at + 4) s ≡ behind = rw (← drop-drop 4 at s, here) (drop_at (spelled 4 w) behind 4 (length_spelled 4 w)) in
    let part : part_of s at 4 ≡ spelled 4 w = ap (take 4) here ∙ take_at (spelled 4 w) behind 4 (length_spelled 4 w) in
    (number_of_part s at 4 w small.0 part, read_all ws s rest (at + 4) small.1 next)

-- ---- a record in a buffer with room for it

module _ (ws st : List ℕ) (room : length ws ≤ length st / 4) where
  -- It is written at the front,
  pub recorded_over : recorded ws st ≡ over (spelled_all ws) st
  unfolding recorded
  recorded_over = rw (le-ltb (length st / 4) (length ws) room)

  -- the buffer keeps its length,
  pub recorded_length : length (recorded ws st) ≡ length st
  recorded_length = rw recorded_over (length_over (spelled_all ws) st (rw length_spelled_all (omega arith)))

  -- its words are read again,
  pub recorded_read : Words ws → ReadAt (recorded ws st) 0 ws
  unfolding over
  recorded_read small = rw recorded_over (read_all ws _ (drop (length (spelled_all ws)) st) 0 small refl)

  -- and it stands.
  pub recorded_stands : stands_for ws (recorded ws st) ≡ true
  unfolding stands_for part_of
  recorded_stands = rw (recorded_over, take_over (spelled_all ws) st (length (spelled_all ws)) refl) (same_refl (spelled_all ws))

-- In bytes just as long the record is all.
pub recorded_alone : (ws st : List ℕ) → length st ≡ 4 * length ws → recorded ws st ≡ spelled_all ws
recorded_alone ws st e =
    recorded_over ws st (omega (arith, e)) ∙ over_all (spelled_all ws) st (rw (length_spelled_all ws) (omega (arith, e)))

-- So in as many zeros.
pub spelled_alone : (ws : List ℕ) (n : ℕ) → n ≡ 4 * length ws → recorded ws (replicate n 0) ≡ spelled_all ws
spelled_alone ws n e = recorded_alone ws (replicate n 0) (length-replicate n 0 ∙ e)

-- A record of as many words covers the one before.
pub recorded_again : (ws vs st : List ℕ) → length ws ≡ length vs → length ws ≤ length st / 4
    → recorded vs (recorded ws st) ≡ recorded vs st
recorded_again ws vs st same room =
    let size : length (spelled_all ws) ≡ length (spelled_all vs) = rw (length_spelled_all ws, length_spelled_all vs, same) in
    let kept : length (recorded ws st) ≡ length st = recorded_length ws st room in
    rw (recorded_over vs (recorded ws st) (omega (arith, kept)), recorded_over ws st room, recorded_over vs st (omega arith))
    (over_over (spelled_all ws) (spelled_all vs) st (omega (arith, size)))

-- A record that stands, written again, changes nothing.
pub recorded_same : (ws st : List ℕ) → stands_for ws st ≡ true → recorded ws st ≡ st
unfolding recorded stands_for part_of over
recorded_same ws st h =
    let n = length (spelled_all ws) in
    either_way (λ (l : List ℕ). l ≡ st) (ltb (length st / 4) (length ws)) (λ e. refl)
    (λ e. ap (λ (l : List ℕ). l ++ drop n st) (same_true (spelled_all ws) (take n st) h) ∙ take-append-drop n st)

-- ---- single numbers

-- A number of eight bytes, from its halves.
pub eight_back : (s : List ℕ) (at x : ℕ) → x < 18446744073709551616 → number_at 4 s at ≡ low_half x → number_at 4 s (at + 4) ≡ high_half x
    → number_at 8 s at ≡ x
eight_back s at x small low high = number_eight s at ∙ omega (arith, low, high)

-- A word of two bytes.
pub two_back : (s : List ℕ) (at x : ℕ) → x < 65536 → number_at 4 s at ≡ x → number_at 2 s at ≡ x
two_back s at x small e = omega (arith, number_four s at)
