-- `store_in`: the bytes from its place on, as many as a store has.
use Rattle.std.proofs.Common.{◌∙◌}
use Rattle.octets.proofs.PartLaws.{length_part}
use Rattle.octets.proofs.Words.{whole_read}
use Rattle.wire.specs.Frame.{longest_content}
use Rattle.kept_reader.specs.Kept.{store_place}
use Rattle.kept_reader.proofs.store_in.Goals as goal

pub returns : goal.returns
returns c = c.bytes_at.ensures ∙ whole_read longest_content _ (length_part c.args.state.now store_place longest_content c.requires)
