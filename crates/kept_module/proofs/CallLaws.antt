-- The calls, put together from what each callee answers.
use Rattle.std.specs.Prelude.{ℕ, ◌≤◌, Bool, List, ◌≡◌, refl, length}
use Rattle.std.proofs.Common.{◌∙◌, le-ltb}
use Rattle.flat.specs.Words.{spelled_all, recorded, stands_for}
use Rattle.flat.specs.WordsLaws.{length_spelled_all}
use Rattle.flat.specs.Found.{recorded_alone}
use Rattle.octets.specs.Octets.{same_bytes, part_of}
use Rattle.module_model.specs.Answers.{numbered, number_in}
use Rattle.module.specs.Session.{opening_of}
use Rattle.module_model.specs.declared.phases.Phase.{Phase}
use Rattle.module_model.specs.declared.phases.Phase.TheVariants.{Closed, Ready, Begun, Loading, Done}
use Rattle.module.specs.declared.session.Session.{Session}
use Rattle.module.specs.declared.session.Stepped.{Stepped}
use Rattle.kept_module.specs.Record.{record_words, record_bytes}
use Rattle.kept_module.specs.Kept.{words_by, words_of, fields_in, stands, session_by, session_in, opened, kept_opening}

-- How many words a record has,
pub words_count : (s : Session) → length (words_of s) ≡ record_words
unfolding words_of
words_count s = go s.phase
  where
    go : (phase : Phase) → length (words_by s.flash s.idle phase) ≡ record_words
    go Closed = refl
    go Ready = refl
    go (Begun t) = refl
    go (Loading p number written) = refl
    go (Done p written) = refl

-- and how many bytes.
pub record_size : (s : Session) → length (spelled_all (words_of s)) ≡ record_bytes
record_size s = length_spelled_all (words_of s) ∙ rw (words_count s)

-- Compared with as many bytes, it tells whether these are the record.
pub stands_by : (s : Session) (st bytes : List ℕ) → length bytes ≡ record_bytes
    → same_bytes (recorded (words_of s) bytes) (part_of st 0 record_bytes) ≡ stands_for (words_of s) st
unfolding stands_for
stands_by s st bytes e = rw (recorded_alone (words_of s) bytes (e ∙ rw (words_count s)), record_size s)

-- The session read.
pub session_by_law : (st : List ℕ) (fields s : Session) (genuine : Bool) → fields ≡ fields_in st → genuine ≡ stands_for (words_of fields) st
    → s ≡ session_by genuine fields → s ≡ session_in st
unfolding session_in stands
session_by_law st fields s genuine f g e = rw (e, g, f)

-- An opening.
pub opening_by_law : (st flash after : List ℕ) (first : Stepped) (number : ℕ) → record_bytes ≤ length st → first ≡ opening_of flash
    → after ≡ recorded (words_of first.session) st → number ≡ number_in (numbered first.answer) → opened number after ≡ kept_opening st flash
unfolding kept_opening
opening_by_law st flash after first number room e k n = rw (k, n, e, le-ltb (length st) record_bytes room)
