-- Document 01's bench example of piece counts, by computation.
use Rattle.std.specs.Prelude.{refl}
use Rattle.pieces.specs.Pieces.{count_of}
use Rattle.host_model.specs.Answers.{size_move}
use Rattle.host_promises.specs.Promises.{PieceCounts}

pub piece_counts : PieceCounts
unfolding count_of size_move
piece_counts rate = (refl, refl, refl)
