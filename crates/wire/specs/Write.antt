-- What writing a frame answers and leaves.
use Rattle.std.specs.Prelude.{ℕ, cond, List, ltb, length}
use Rattle.refusals.specs.Refusals.{payload_too_long, no_room}
use Rattle.refusals.specs.Written.{Out, refused, written}
use Rattle.wire.specs.Frame.{Frame, longest_payload, wire_of}

-- 1 for a payload over 1,030; then 2 for an output shorter than the wire form. Else the wire form is written.
unfoldable pub write_of : Frame → List ℕ → Out
write_of f output =
    cond (ltb longest_payload (length f.payload)) (refused payload_too_long output)
    (cond (ltb (length output) (length (wire_of f))) (refused no_room output)
    (written (wire_of f) output))
