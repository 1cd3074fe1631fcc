-- `octets::xor_words`: the whole words come one by one.
use Rattle.std.proofs.Common.{ℕ, ◌≡◌, ◌∙◌, ap, rules, arith, refl}
use Rattle.std.specs.List.{fold}
use Rattle.std.specs.Int.Bits.{bit_xor}
use Rattle.std.specs.Slice.Iter.{chunks_exact_steps, chunks_exact_rest, chunks_exact_size}
use Rattle.std.proofs.lemmas.List.Sums.{fold_push}
use Rattle.std.proofs.lemmas.Fn.{fold_over}
use Rattle.std.proofs.lemmas.Iterator.Splits.{YieldsList-from_shown_while}
use Rattle.octets.specs.Octets.{number_at}
use Rattle.octets.proofs.Words.{fours, fours_end, fours_more, words_fold}
use Rattle.octets.proofs.runs.xor_words.Goals as goal

pub returns : goal.returns
returns c =
    let words = YieldsList-from_shown_while chunks_exact_steps (λ x. x.now) (λ s. fours (chunks_exact_rest s)) (λ s. chunks_exact_size s ≡ 4)
    (λ s t p k. fours_end _ (omega arith)) (λ s x t p k. (search rules, ap fours k.1.0 ∙ fours_more _ _ (omega arith))) c.chunks_exact.result c.chunks_exact.ensures.size in
    fold_over (chunks_exact_steps {A = ℕ}) (λ x. x.now) _ (λ ys n. n ≡ fold (λ x w. bit_xor x (number_at 4 w 0)) 0 ys) _ (λ ys a x b f' j k. (search (rules, fold_push), search rules)) c.chunks_exact.result _ _ _ words.runs refl c.fold.ensures.ran
    ∙ ap (λ l. fold (λ x w. bit_xor x (number_at 4 w 0)) 0 (fours l)) c.chunks_exact.ensures.rest
    ∙ words_fold 0 c.args.s.now
