-- W2: after any bytes, from the next head on, the reader is as good as a fresh one.
use Rattle.std.specs.Prelude.{false, List, [], ◌∷◌, ◌++◌, length}
use Rattle.std.proofs.Common.{ap, zero-add, add-one}
use Rattle.wire.specs.Escape.{head_mark}
use Rattle.reader_promises.specs.Runs.{Placed}
use Rattle.reader_promises.specs.Promises.{Resync}
use Rattle.reader_promises.specs.Seen.{outside, within, seen_of, seen_handed}
use Rattle.reader_promises.proofs.SeenLaws.{handed_seen, handed_append, handed_head, handed_later, fresh_handed}

-- The bytes before the head, then the run from the head on, which is the same from every state.
pub resync : Resync
resync r noise rest a =
    rw (
      handed_seen r a 0 (noise ++ (head_mark ∷ rest)),
      handed_seen r a 0 noise,
      handed_append,
      handed_head,
      zero-add,
      fresh_handed (head_mark ∷ rest),
      handed_head outside 0 rest,
    )
    (ap (λ (l : List Placed). seen_handed (seen_of r) 0 noise ++ l) (rw add-one at (handed_later (within false []) (length noise) 1 rest)))
