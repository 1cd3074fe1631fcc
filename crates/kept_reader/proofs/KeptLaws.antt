-- The laws of readers as bytes.
use Rattle.std.specs.Prelude.{ℕ, ◌+◌, ◌-◌, ◌/◌, ◌≤◌, true, List, [], ◌++◌, ◌≡◌, length, take, drop, replicate}
use Rattle.std.proofs.Common.{append-nil, ap, ◌∙◌, arith, le-ltb, leb-true, length-drop, drop_of_length-le}
use Rattle.std.proofs.lemmas.List.{length-replicate}
use Rattle.octets.specs.Octets.{part_of, laid, over}
use Rattle.octets.proofs.OctetsLaws.{over_laid}
use Rattle.octets.proofs.Choice.{cond_no, both}
use Rattle.flat.specs.Words.{spelled_all, recorded}
use Rattle.flat.specs.WordsLaws.{length_spelled_all}
use Rattle.wire.specs.Frame.{longest_content}
use Rattle.reader.specs.declared.steps.Reader.{Reader}
use Rattle.kept_reader.specs.Kept.{reader_bytes, store_place, bytes_of, stands, reader_kept}

-- Three words written at the front and the store behind them.
pub words_and_store : (ws store state : List ℕ) → length ws ≡ 3 → store_place + length store ≤ length state
    → laid (recorded ws state) store_place store ≡ over (spelled_all ws ++ store) state
unfolding recorded
words_and_store ws store state three room =
    let size : length (spelled_all ws) ≡ store_place = length_spelled_all ws ∙ rw three in
    rw (cond_no _ state (over (spelled_all ws) state) (le-ltb (length state / 4) (length ws) (omega (arith, three))))
    (over_laid (spelled_all ws) state store store_place size room)

-- Bytes that stand for a reader have room for it,
pub stands_room : (state : List ℕ) → stands state ≡ true → reader_bytes ≤ length state
unfolding stands
stands_room state h = leb-true _ _ (both _ _ h).0

-- and where there is room a reader is put at the front.
pub kept_over : (r : Reader) (state : List ℕ) → reader_bytes ≤ length state → reader_kept r state ≡ over (bytes_of r) state
unfolding reader_kept
kept_over r state room = cond_no _ _ _ (le-ltb (length state) reader_bytes room)

-- A store that the bytes from its place on are copied into.
pub store_copied : (state : List ℕ) → reader_bytes ≤ length state
    → laid (replicate longest_content 0) 0 (drop store_place state) ≡ part_of state store_place longest_content
unfolding laid part_of
store_copied state h =
    let store : List ℕ = replicate longest_content 0 in
    let rest : List ℕ = drop store_place state in
    let size : length store ≡ longest_content = length-replicate {A = ℕ} longest_content 0 in
    let none : drop (0 + length rest) store ≡ [] =
    drop_of_length-le store {i = 0 + length rest} (rw (size, length-drop) (omega arith)) in
    ap (λ (l : List ℕ). take (length store - 0) rest ++ l) none
    ∙ append-nil (take (length store - 0) rest)
    ∙ ap (λ (n : ℕ). take (n - 0) rest) size
