-- The laws of the piece for a rate.
use Rattle.std.specs.Prelude.{◌≡◌, ℕ, ◌+◌, ◌*◌, ◌<◌, ◌≤◌, List, length}
use Rattle.std.proofs.Common.{div-mul-le_self, arith, le-leb}
use Rattle.std.proofs.Math.Nat.{lt-div-mul-add}
use Rattle.std.proofs.Math.Decide.{dec_le}
use Rattle.std.proofs.lemmas.Bool.{lt-leb}
use Rattle.pieces.specs.Pieces.{piece_of}
use Rattle.wire.specs.Frame.{content_of}
use Rattle.wire.specs.FrameLaws.{length_content}
use Rattle.commands.specs.Commands.{largest_packet, packet_frame}
use Rattle.commands.specs.CommandsLaws.{length_packet}
use Rattle.host_model.specs.Waits.{answer_limit}
use Rattle.posts.specs.Piece.{packet_beside, in_half, piece_for}

-- A packet is its content between two marks: so many bytes beside its piece.
pub packet_beside_law : (image : List ℕ) (size k : ℕ)
    → 1 + (length (content_of (packet_frame image size k)) + 1) ≡ length (piece_of image size k) + packet_beside
packet_beside_law image size k = omega (arith, length_content (packet_frame image size k), length_packet image size k)

-- Which piece it is: one byte where not even that leaves in half the time; else the largest up to 1,024 bytes that does.
pub record Fitting (baud piece : ℕ) : Type 0 where
  pub some : 1 ≤ piece
  pub most : piece ≤ largest_packet
  pub leaves : 1 < piece → (piece + packet_beside) * (10 * 1000) * 2 ≤ baud * answer_limit
  pub largest : (more : ℕ) → piece < more → more ≤ largest_packet → baud * answer_limit < (more + packet_beside) * (10 * 1000) * 2

pub fitting : (baud : ℕ) → Fitting baud (piece_for baud)
unfolding piece_for
fitting baud = go (dec_le (in_half baud) packet_beside) (dec_le (largest_packet + packet_beside) (in_half baud))
  where
    under : in_half baud * 10000 ≤ baud * 500
    under = div-mul-le_self (baud * 500) 10000

    over : baud * 500 < in_half baud * 10000 + 10000
    over = lt-div-mul-add {a = baud * 500} {b = 10000} (omega arith)

    go : Dec (in_half baud ≤ packet_beside) → Dec (largest_packet + packet_beside ≤ in_half baud) → Fitting baud (piece_for baud)
    go (yes few) _ =
        rw (le-leb (in_half baud) packet_beside few)
        (record { some = omega arith; most = omega arith; leaves = λ h. omega arith; largest = λ more h k. omega (arith, over) })
    go (no some) (yes many) =
        rw (lt-leb (in_half baud) packet_beside (omega arith), le-leb (largest_packet + packet_beside) (in_half baud) many)
        (record { some = omega arith; most = omega arith; leaves = λ h. omega (arith, under); largest = λ more h k. omega arith })
    go (no some) (no few) =
        rw (lt-leb (in_half baud) packet_beside (omega arith), lt-leb (largest_packet + packet_beside) (in_half baud) (omega arith))
        (record { some = omega arith; most = omega arith; leaves = λ h. omega (arith, under); largest = λ more h k. omega (arith, over) })
