-- `text_move`: the line is compared with the answer to the start text.
use Rattle.std.proofs.Common.{rules, sym, ◌≡◌, ◌∙◌}
use Rattle.std.specs.Prelude.{eqb}
use Rattle.std.specs.Cmp.Lexicographic.{pointwise}
use Rattle.octets.proofs.Words.{same_pointwise}
use Rattle.octets.specs.Octets.{same_bytes}
use Rattle.commands.specs.Commands.{start_answer}
use Rattle.host_model.proofs.AnswersLaws.{text_same, text_other}
use Rattle.stages.proofs.answers.text_move.Goals as goal

pub returns-then-eq : goal.returns-then-eq
unfolding same_bytes
returns-then-eq c =
    let read : pointwise eqb c.args.line.now start_answer ≡ c.eq.result = search rules in
    sym (text_same _ _ (sym (same_pointwise c.args.line.now start_answer) ∙ read ∙ c.if-eq.true))

pub returns : goal.returns
unfolding same_bytes
returns c =
    let read : pointwise eqb c.args.line.now start_answer ≡ c.eq.result = search rules in
    sym (text_other _ _ (sym (same_pointwise c.args.line.now start_answer) ∙ read ∙ c.if-eq.false))
