-- `step`: read, stepped, kept, told.
use Rattle.std.proofs.Common.{ap, ◌∙◌}
use Rattle.kept_host.specs.Kept.{told_of}
use Rattle.kept_host.proofs.KeptLaws.{step_kept}
use Rattle.kept_host.proofs.calls.step.Goals as goal

pub returns : goal.returns
returns c =
    let a = c.args in
    step_kept a.state.now a.event a.bytes.now a.image.now a.out.now _ _ _ _ _ c.session_in.ensures
    c.step-stepped.ensures c.keep.ensures (c.told_of-says.ensures ∙ ap told_of c.numbered.ensures)
