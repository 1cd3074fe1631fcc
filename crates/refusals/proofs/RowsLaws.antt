-- What is found in the bytes of a table are the words of its row.
use Rattle.std.specs.Prelude.{ℕ, suc, ◌+◌, true, not, List, [], ◌∷◌, ◌++◌, ◌≡◌, refl, eqb, length, take, drop, get_or}
use Rattle.std.proofs.Common.{ap, arith, take_at, eq-eqb, ne_eqb}
use Rattle.std.proofs.lemmas.Bool.{not-true as not_of}
use Rattle.octets.proofs.Choice.{both}
use Rattle.octets.specs.Octets.{text_length}
use Rattle.refusals.specs.Refusals.{Row, words_in, words_of, table}
use Rattle.refusals.proofs.Rows.{table_bytes, row_of, plain, all_plain}

-- Words without a zero end at the zero behind them.
text_plain : (w rest : List ℕ) → plain w ≡ true → text_length (w ++ (0 ∷ rest)) ≡ length w
unfolding text_length
text_plain [] rest h = refl
text_plain (b ∷ w) rest h =
    let tests = both (not (eqb b 0)) (plain w) h in rw (not_of (eqb b 0) tests.0) (ap suc (text_plain w rest tests.1))

-- What stands behind words and their zero.
row_past : (w rest : List ℕ) → drop (length w + 1) (w ++ (0 ∷ rest)) ≡ rest
row_past [] rest = refl
row_past (b ∷ w) rest = let more : suc (length w) + 1 ≡ suc (length w + 1) = omega arith in rw more (row_past w rest)

-- A row that has the number, and one that has another.
pub row_here : (m n : ℕ) (t : List ℕ) → get_or t 0 0 ≡ n → row_of (suc m) n t ≡ take (text_length (drop 1 t)) (drop 1 t)
unfolding row_of
row_here m n t h = rw (eq-eqb (get_or t 0 0) n h)

pub row_next : (m n : ℕ) (t : List ℕ) → (get_or t 0 0 ≡ n → ⊥) → row_of (suc m) n t ≡ row_of m n (drop (text_length (drop 1 t) + 2) t)
unfolding row_of
row_next m n t h = rw (ne_eqb (get_or t 0 0) n h)

-- In the bytes of a table the words of a number are found.
row_words : (rs : List Row) (n : ℕ) → all_plain rs ≡ true → row_of (length rs) n (table_bytes rs) ≡ words_in rs n
unfolding row_of
row_words [] n h = refl
row_words (r ∷ rs) n h =
    let tests = both (plain r.words) (all_plain rs) h in
    let size = text_plain r.words (table_bytes rs) tests.0 in
    let more : length r.words + 2 ≡ suc (length r.words + 1) = omega arith in
    rw (size, take_at r.words (0 ∷ table_bytes rs) (length r.words) refl, more, row_past r.words (table_bytes rs), row_words rs n tests.1)

-- So in the bytes of the table of words.
pub words_found : (n : ℕ) → row_of (length table) n (table_bytes table) ≡ words_of n
unfolding words_of
words_found n = row_words table n refl
