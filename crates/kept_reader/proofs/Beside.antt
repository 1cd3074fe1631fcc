-- A reader's record at the front of a buffer, and other words beside it: all of it is read again.
use Prim.Native.Nat.{ℕ, ◌+◌, ◌*◌, ◌/◌, ◌≤◌}
use mathlib.Core.List.{List, ◌++◌, append_assoc}
use Rattle.std.specs.Prelude.{◌≡◌, refl}
use Rattle.std.proofs.Math.Path.{sym, ap}
use Rattle.std.proofs.Common.{◌∙◌, arith, length-drop, drop-drop}
use Rattle.std.proofs.Math.ListN.{length, drop, length-append}
use Rattle.std.proofs.Math.Seq.{drop_at}
use Rattle.octets.specs.Octets.{laid, over}
use Rattle.octets.proofs.OctetsLaws.{length_over, over_laid}
use Rattle.flat.specs.Words.{spelled_all, recorded}
use Rattle.flat.specs.WordsLaws.{length_spelled_all}
use Rattle.flat.specs.Found.{Words, ReadAt, read_all, recorded_over}
use Rattle.reader.specs.declared.steps.Reader.{Reader}
use Rattle.kept_reader.specs.Kept.{reader_bytes, bytes_of, reader_in, reader_kept}
use Rattle.kept_reader.proofs.KeptLaws.{kept_over}
use Rattle.kept_reader.specs.Promises.{Whole}
use Rattle.kept_reader.proofs.KeptRun.{kept_back, bytes_size}

-- The reader, some words behind it, and from a place n on further ones.
abbrev pub beside_of : Reader → List ℕ → ℕ → List ℕ → List ℕ → List ℕ
beside_of r ws n vs st = laid (laid (reader_kept r st) reader_bytes (spelled_all ws)) n (spelled_all vs)

-- What is found there again: the buffer has its length, the reader and the words are read, and from n on stands the record of the further ones.
pub record BesideBack (r : Reader) (ws vs st : List ℕ) (n : ℕ) : Type 0 where
  pub long : length (beside_of r ws n vs st) ≡ length st
  pub reader : reader_in (beside_of r ws n vs st) ≡ r
  pub words : ReadAt (beside_of r ws n vs st) reader_bytes ws
  pub behind : drop n (beside_of r ws n vs st) ≡ recorded vs (drop n st)
  pub room : 4 * length vs ≤ length (drop n st)

module _ (r : Reader) (ws vs st : List ℕ) (n : ℕ) (w : Whole r) (small : Words ws) (place : reader_bytes + 4 * length ws ≡ n)
    (room : n + 4 * length vs ≤ length st)
  where
    front : List ℕ
    front = bytes_of r

    mid : List ℕ
    mid = spelled_all ws

    last : List ℕ
    last = spelled_all vs

    front_size : length front ≡ reader_bytes
    unfolding front
    front_size = bytes_size r w

    mid_size : length mid ≡ 4 * length ws
    unfolding mid
    mid_size = length_spelled_all ws

    last_size : length last ≡ 4 * length vs
    unfolding last
    last_size = length_spelled_all vs

    both_size : length (front ++ mid) ≡ n
    both_size = length-append front mid ∙ rw (front_size, mid_size) place

    -- All of it stands at the front of the buffer.
    all_over : beside_of r ws n vs st ≡ over ((front ++ mid) ++ last) st
    unfolding front mid last
    all_over =
        ap (λ (l : List ℕ). laid (laid l reader_bytes mid) n last) (kept_over r st (omega (arith, place, room)))
        ∙ ap (λ (l : List ℕ). laid l n last) (over_laid front st mid reader_bytes front_size (omega (arith, mid_size, place, room)))
        ∙ over_laid (front ++ mid) st last n both_size (omega (arith, last_size, room))

    -- What follows the reader and the words.
    rest : List ℕ
    rest = last ++ drop (length ((front ++ mid) ++ last)) st

    all_parts : beside_of r ws n vs st ≡ (front ++ mid) ++ rest
    unfolding rest over
    all_parts = all_over ∙ append_assoc (front ++ mid) last _

    -- The buffer keeps its length,
    beside_length : length (beside_of r ws n vs st) ≡ length st
    beside_length =
        ap length all_over
        ∙ length_over ((front ++ mid) ++ last) st
        (rw (length-append (front ++ mid) last, both_size, last_size) room)

    -- the reader is read again,
    beside_reader : reader_in (beside_of r ws n vs st) ≡ r
    unfolding over front
    beside_reader =
        let x : List ℕ = front ++ (mid ++ rest) in
        let parts : beside_of r ws n vs st ≡ x = all_parts ∙ append_assoc front mid rest in
        let same : over front x ≡ x = ap (λ (l : List ℕ). front ++ l) (drop_at front (mid ++ rest) (length front) refl) in
        let long : length x ≡ length st = sym (ap length parts) ∙ beside_length in
        ap reader_in (parts ∙ sym same) ∙ kept_back r x w (omega (arith, long, place, room))

    -- so are the words,
    beside_words : ReadAt (beside_of r ws n vs st) reader_bytes ws
    unfolding mid
    beside_words =
        read_all ws (beside_of r ws n vs st) rest reader_bytes small
        (ap (drop reader_bytes) (all_parts ∙ append_assoc front mid rest) ∙ drop_at front (mid ++ rest) reader_bytes front_size)

    -- and from the place n on stands the record of the further ones.
    beside_record : drop n (beside_of r ws n vs st) ≡ recorded vs (drop n st)
    unfolding rest over last
    beside_record =
        let k : length ((front ++ mid) ++ last) ≡ n + length last = length-append (front ++ mid) last ∙ omega (arith, both_size) in
        let fits : length vs ≤ length (drop n st) / 4 = rw (length-drop n st) (omega (arith, room)) in
        ap (drop n) all_parts ∙ drop_at (front ++ mid) rest n both_size
        ∙ ap (λ (i : ℕ). last ++ drop i st) k
        ∙ ap (λ (l : List ℕ). last ++ l) (sym (drop-drop (length last) n st))
        ∙ sym (recorded_over vs (drop n st) fits)

    pub beside_back : BesideBack r ws vs st n
    beside_back = record {
      long = beside_length;
      reader = beside_reader;
      words = beside_words;
      behind = beside_record;
      room = rw (length-drop n st) (omega (arith, room));
    }
