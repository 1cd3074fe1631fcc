-- W1: a frame written is read again, and a frame read is written again as it stood.
use Rattle.std.specs.Prelude.{ℕ, ◌+◌, ◌-◌, Bool, true, false, cond, List, ◌++◌, ◌≡◌, refl, ltb, length, Err}
use Rattle.std.proofs.Common.{zero-add, arith, drop_at}
use Rattle.std.proofs.Math.Seq.{take-append_seam}
use Rattle.refusals.specs.Refusals.{payload_too_long, no_room}
use Rattle.refusals.specs.Written.{Out, refused, written}
use Rattle.wire.specs.Frame.{longest_payload, wire_of}
use Rattle.wire.specs.Write.{write_of}
use Rattle.wire.specs.WriteLaws.{write_done}
use Rattle.reader_promises.specs.Promises.{RoundTrip, ReadBack, RefusedAsLent, StandsIn, up_to}
use Rattle.reader_promises.specs.Seen.{seen_of}
use Rattle.reader_promises.proofs.SeenLaws.{handed_seen}
use Rattle.reader_promises.proofs.Feed.{handed_frame}
use Rattle.reader_promises.proofs.Stretches.{every_stretch}

-- From any reader, by its view.
pub round_trip : RoundTrip
round_trip r f a l = rw (handed_seen r a 0 (wire_of f), handed_frame (seen_of r) 0 f l, zero-add)

-- The bytes up to the place where a stretch ends are that stretch.
stands_up_to : (bytes stretch : List ℕ) (tail : ℕ) → StandsIn bytes stretch tail → up_to tail (length stretch) bytes ≡ stretch
stands_up_to bytes stretch tail h =
    let start : length h.before ≡ tail + 1 - length stretch = omega arith in
    rw (h.split, drop_at h.before (stretch ++ h.after) (tail + 1 - length stretch) start)
    (take-append_seam stretch h.after)

-- A frame that was handed out stands in the bytes, and is written as it stands there.
pub read_back : ReadBack
read_back bytes l p m output room =
    let found = (every_stretch bytes l).sound p m in
    rw (stands_up_to bytes (wire_of p.frame) p.place found.1)
    (write_done p.frame output found.0.payload_fits room)

-- Of the three answers only the last writes, and it is no refusal.
pub refused_as_lent : RefusedAsLent
unfolding write_of
refused_as_lent f output n = go (ltb longest_payload (length f.payload)) (ltb (length output) (length (wire_of f)))
  where
    answers : Bool → Bool → Out
    answers long short = cond long (refused payload_too_long output) (cond short (refused no_room output) (written (wire_of f) output))

    go : (long short : Bool) → (answers long short).answer ≡ Err n → (answers long short).output ≡ output
    go true short h = refl
    go false true h = refl
    go false false h = cc h
