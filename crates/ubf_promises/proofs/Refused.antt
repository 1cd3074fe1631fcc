-- What is refused, with which number, and what a refusal leaves.
use Rattle.kinds.specs.declared.Kind.{Kind}
use Rattle.refusals.specs.declared.Refusal.{Refusal}
use Rattle.ubf_model.specs.declared.block.Block.{Block}
use Rattle.std.specs.Prelude.{ℕ, Bool, List, [], ◌∷◌, ◌≡◌, refl, leb, length, None, Ok, Option, Result, Some}
use Rattle.std.proofs.Common.{ap, ◌∙◌}
use Rattle.octets.proofs.Choice.{by_test, either_way}
use Rattle.octets.specs.Octets.{same_bytes}
use Rattle.kinds.specs.Kinds.{kind_of}
use Rattle.refusals.specs.Refusals.{file_ends, wrong_mark}
use Rattle.refusals.specs.Written.{Out, bytes_written, numbered, number_in, written}
use Rattle.ubf_model.specs.Answers.{block_found, found_told}
use Rattle.ubf_model.specs.Block.{header_size, mark_in, mark, type_in, fields_of, unless, kind_block, known_block, block_of}
use Rattle.ubf_model.specs.Pack.{block_bytes, unless_out, pack_of}
use Rattle.ubf_promises.specs.Promises.{first_failing, type_checks, field_tests, ReadRefused, PackRefused}

-- Tests before the rest: each refuses with its number.
abbrev unless_all : List (Refusal × Bool) → Result Block Refusal → Result Block Refusal
unless_all [] rest = rest
unless_all (t ∷ ts) rest = unless t.1 t.0 (unless_all ts rest)

-- They give the number of the first that fails, or that of the rest.
all_told : (ts : List (Refusal × Bool)) (rest : Result Block Refusal) → (found_told (unless_all ts rest)).number ≡ first_failing ts (found_told rest).number
all_told [] rest = refl
all_told (t ∷ ts) rest = by_test (λ (x : Result Block Refusal) (n : ℕ). (found_told x).number ≡ n) t.1 (λ _. all_told ts rest) (λ _. refl)

-- Behind the mark.
type_told : (type : Option Kind) (s : List ℕ) → (found_told (known_block type s)).number ≡ first_failing (type_checks type s) block_found
unfolding kind_block
type_told (Some k) s = all_told (type_checks (Some k) s) (Ok (fields_of k s))
type_told None s = refl

-- The reader's refusals.
pub read_refused : ReadRefused
unfolding block_of
read_refused s =
    let front : List (Refusal × Bool) = (file_ends, leb header_size (length s)) ∷ (wrong_mark, same_bytes (mark_in s) mark) ∷ [] in
    all_told front (known_block (kind_of (type_in s)) s) ∙ ap (first_failing front) (type_told (kind_of (type_in s)) s)

-- Tests of the writer before the rest.
abbrev unless_all_out : List (Refusal × Bool) → List ℕ → Out → Out
unless_all_out [] output rest = rest
unless_all_out (t ∷ ts) output rest = unless_out t.1 t.0 output (unless_all_out ts output rest)

-- They give the number of the first that fails, or that of the rest.
all_numbered : (ts : List (Refusal × Bool)) (output : List ℕ) (rest : Out)
    → number_in (numbered (unless_all_out ts output rest).answer) ≡ first_failing ts (number_in (numbered rest.answer))
all_numbered [] output rest = refl
all_numbered (t ∷ ts) output rest =
    by_test (λ (o : Out) (n : ℕ). number_in (numbered o.answer) ≡ n) t.1 (λ _. all_numbered ts output rest) (λ _. refl)

-- One that fails leaves the output as lent.
all_lent : (ts : List (Refusal × Bool)) (output : List ℕ) (rest : Out) → number_in (numbered rest.answer) ≡ bytes_written
    → (number_in (numbered (unless_all_out ts output rest).answer) ≡ bytes_written → ⊥) → (unless_all_out ts output rest).output ≡ output
all_lent [] output rest h = λ no. absurd (no h)
all_lent (t ∷ ts) output rest h = either_way Lent t.1 (λ _. all_lent ts output rest h) (λ _ _. refl)
  where
    Lent : Out → Type 0
    Lent o = (number_in (numbered o.answer) ≡ bytes_written → ⊥) → o.output ≡ output

-- The writer's refusals.
pub pack_refused : PackRefused
unfolding pack_of
pack_refused f output =
    let rest : Out = written (block_bytes f) output in
    (all_numbered (field_tests f output) output rest, all_lent (field_tests f output) output rest refl)
