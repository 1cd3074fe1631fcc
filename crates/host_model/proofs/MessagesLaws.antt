-- The laws of Messages: a message sent or not.
use Rattle.std.specs.Prelude.{ℕ, ◌≤◌, ◌<◌, List, [], ◌≡◌, refl, length}
use Rattle.std.proofs.Common.{arith, lt-ltb, le-ltb}
use Rattle.octets.specs.Octets.{laid, over}
use Rattle.octets.proofs.OctetsLaws.{over_nil, over_laid}
use Rattle.refusals.specs.Refusals.{no_room}
use Rattle.refusals.specs.Written.{refused, written}
use Rattle.wire.specs.Frame.{Frame, longest_payload}
use Rattle.wire.specs.Write.{write_of}
use Rattle.commands.specs.Commands.{packet_frame}
use Rattle.commands.specs.CommandsLaws.{length_packet, piece_most}
use Rattle.host_model.specs.Messages.{goes_out, sent_of}

-- A frame of at most 1,030 payload bytes is written as a message is sent.
pub sent_frame : (f : Frame) (output : List ℕ) → length f.payload ≤ longest_payload → write_of f output ≡ sent_of (goes_out f) output
unfolding write_of sent_of
sent_frame f output h = rw (le-ltb longest_payload (length f.payload) h)

-- Without room nothing is written.
pub sent_none : (message output : List ℕ) → length output < length message → refused no_room output ≡ sent_of message output
unfolding sent_of
sent_none message output h = rw (lt-ltb (length output) (length message) h)

-- With room the message laid at the front is sent.
pub sent_laid : (message output : List ℕ) → length message ≤ length output
    → record { answer = (written message output).answer; output = laid output 0 message } ≡ sent_of message output
unfolding sent_of
sent_laid message output h =
    let front : laid output 0 message ≡ over message output = rw over_nil at (over_laid [] output message 0 refl (omega arith)) in
    rw (le-ltb (length output) (length message) h, front)

-- So is a packet whose size is not over 1,024.
pub sent_packet : (image : List ℕ) (size k : ℕ) (output : List ℕ) → size ≤ 1024
    → write_of (packet_frame image size k) output ≡ sent_of (goes_out (packet_frame image size k)) output
sent_packet image size k output h =
    sent_frame (packet_frame image size k) output (omega (arith, h, length_packet image size k, piece_most image size k))
