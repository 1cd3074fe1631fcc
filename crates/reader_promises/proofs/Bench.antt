-- W4: the bench table, by computation.
use Rattle.std.specs.Prelude.{ℕ, ◌-◌, List, [], ◌∷◌, map, ◌≡◌, refl, length}
use Rattle.std.proofs.Common.{◌∙◌}
use Rattle.octets.specs.Octets.{little, spelled, number_at, xor_from}
use Rattle.wire.specs.Escape.{is_mark, second_of, may_follow, original_of, escape_of, escaped}
use Rattle.wire.specs.Frame.{unchecked_of, content_of, wire_form, wire_of, is_content}
use Rattle.reader_promises.specs.Runs.{Placed, placed}
use Rattle.reader_promises.specs.Table.{Row, bench_table, printed_row}
use Rattle.reader_promises.specs.Promises.{BenchTable, PrintedRow, BenchFrames}
use Rattle.octets.proofs.Lists.{same_each}
use Rattle.reader_promises.specs.Seen.{outside, seen_handed, sight_of, inside_sight, tail_sight, follow_sight, content_sight}
use Rattle.reader_promises.proofs.SeenLaws.{fresh_handed}

-- What a row's frame is written as.
abbrev written_of : Row → List ℕ
written_of row = wire_of row.frame

-- A row's bytes.
abbrev bytes_of : Row → List ℕ
bytes_of row = row.bytes

-- What a row's bytes are read as.
abbrev read_of : Row → List Placed
read_of row = seen_handed outside 0 row.bytes

-- What a row's bytes should be read as: its frame, at the last byte.
abbrev frame_of : Row → List Placed
frame_of row = placed (length row.bytes - 1) row.frame ∷ []

-- Every row's frame is written as the row's bytes.
all_written : map written_of bench_table ≡ map bytes_of bench_table
unfolding wire_of wire_form content_of unchecked_of spelled xor_from escaped escape_of is_mark second_of
all_written = refl

-- Every row's bytes are read as the row's frame, and the printed row as none.
all_read : (map read_of bench_table ≡ map frame_of bench_table) × (seen_handed outside 0 printed_row ≡ [])
unfolding seen_handed sight_of inside_sight tail_sight follow_sight content_sight may_follow original_of is_content number_at little xor_from
all_read = (refl, refl)

-- The bench table, row by row.
pub bench_table_law : BenchTable
bench_table_law row m = (
  same_each written_of bytes_of bench_table all_written row m,
  fresh_handed row.bytes ∙ same_each read_of frame_of bench_table all_read.0 row m,
)

-- The row as the papers print it.
pub printed_row_law : PrintedRow
printed_row_law = fresh_handed printed_row ∙ all_read.1

-- The frames that the rules build.
pub bench_frames : BenchFrames
unfolding spelled
bench_frames = refl
