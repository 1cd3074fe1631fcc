-- `number_of`: digits are a text, and where std does not read them they are no number.
use Rattle.std.proofs.Common.{rules, ◌≡◌}
use Rattle.console.proofs.Numbers.{digits_text, digits_parsed, unread}
use Rattle.console.proofs.startup.number_of.Goals as goal

pub returns-in_err-ok : goal.returns-in_err-ok
returns-in_err-ok c = search (rules, digits_text c.args.text.now (search rules))

pub returns-in_err-value : goal.returns-in_err-value
returns-in_err-value c =
    let s = c.in_ok-ok.field-0.now in
    let e : s ≡ c.args.text.now = search rules in
    search (rules, e, unread s (search (rules, digits_parsed s _ c.parse.ensures.value.0 (search rules))))
