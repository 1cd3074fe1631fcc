-- `stage`: the number that the record of its stage has.
use mathlib.Core.Path.{sym, ap, ◌∙◌}
use borrow.Author.Rules.{rules}
use Rattle.host.specs.declared.session.Session.{Session}
use Rattle.kept_host.specs.Kept.{stage_number}
use Rattle.kept_host.specs.declared.words.Staged.{Staged}
use Rattle.kept_host.proofs.calls.stage.Goals as goal

pub returns-in-Ended : goal.returns-in-Ended
returns-in-Ended c = rw (← c.session_in.ensures) (search rules)

pub returns-in-Waiting : goal.returns-in-Waiting
returns-in-Waiting c =
    ap (λ (s : Staged). s.stage) c.stage_words.ensures ∙ sym (ap stage_number (ap (λ (s : Session). s.phase) (sym c.session_in.ensures) ∙ c.in-Waiting.is))
