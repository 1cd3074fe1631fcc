-- `wait_words`: each word at its place.
use Rattle.kept_host.proofs.words.wait_words.Goals as goal

pub returns : goal.returns
returns c =
    rw (
      c.same_number.ensures,
      c.start_number.ensures,
      c.from-3.ensures,
      c.rate_number.ensures,
      c.from-2.ensures,
      c.number_of.ensures,
      c.from.ensures,
      c.high-2.ensures,
      c.low-2.ensures,
      c.high.ensures,
      c.low.ensures,
    )
