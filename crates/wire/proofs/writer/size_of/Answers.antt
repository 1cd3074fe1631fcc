-- `wire::writer::size_of`: head, tail and what each content byte takes.
use Rattle.std.proofs.Common.{◌≡◌, arith, rules, length}
use Rattle.std.specs.List.{sum_by}
use Rattle.wire.specs.Escape.{escape_of}
use Rattle.wire.specs.WriteLaws.{widths, wire_size}
use Rattle.wire.specs.EscapeLaws.{escaped_size}
use Rattle.wire.proofs.writer.size_of.Goals as goal

pub overflow_add-result : goal.overflow_add-result
overflow_add-result c =
    let s = c.args.content.now in
    let all : c.sum.result ≡ sum_by (λ b. length (escape_of b)) s = search rules in
    omega (arith, all, widths s, escaped_size s)

pub returns : goal.returns
returns c =
    let s = c.args.content.now in
    let all : c.sum.result ≡ sum_by (λ b. length (escape_of b)) s = search rules in
    omega (arith, all, widths s, wire_size s)
