-- `octets::text_length`: the place of the first zero, or the length.
use Rattle.std.proofs.Common.{eqb, rules, tests, ◌∙◌, ap, length}
use Rattle.std.specs.Option.{unwrap_or}
use Rattle.std.proofs.lemmas.Iterator.{YieldsList-from_slice}
use Rattle.std.proofs.lemmas.Iterator.Search.{position_from_yields_List}
use Rattle.octets.proofs.Words.{text_found}
use Rattle.octets.proofs.parts.text_length.Goals as goal

pub returns : goal.returns
returns c =
    let s = c.args.s.now in
    let found = position_from_yields_List (λ b. eqb b 0) _ _ c.position.result c.position.ensures.ran (YieldsList-from_slice s cc) (λ x b q k. search (rules, tests)) in
    c.unwrap_or.ensures ∙ ap (λ r. unwrap_or r (length s)) found ∙ text_found s
