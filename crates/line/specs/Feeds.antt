-- A board fed bytes one behind the other, and the bytes of a clean transfer.
use Rattle.std.specs.Prelude.{ℕ, ◌≤◌, List, [], ◌∷◌, ◌++◌, map, length}
use Rattle.kinds.specs.declared.Kind.{Kind}
use Rattle.pieces.specs.Pieces.{count_of}
use Rattle.wire.specs.Frame.{wire_of}
use Rattle.commands.specs.Commands.{parameters_frame}
use Rattle.module.specs.Step.{smallest_reply}
use Rattle.host_promises.specs.Promises.{packets_sent}
use Rattle.board_end.specs.Board.{BoardLeft, board_hears}
use Rattle.board_end.specs.declared.board.Board.{Board}

-- One byte, and the reply buffer lent with it.
pub record Fed : Type 0 where
  pub byte : ℕ
  pub reply : List ℕ

-- The bytes alone.
abbrev pub bytes_of : List Fed → List ℕ
bytes_of xs = map (λ (x : Fed). x.byte) xs

-- Every reply buffer has room for any reply: at least 64 bytes.
abbrev pub Roomy : List Fed → Type 0
Roomy [] = Unit
Roomy (x ∷ xs) = (smallest_reply ≤ length x.reply) × Roomy xs

-- What one byte leaves.
abbrev pub hears_fed : Board → List ℕ → Fed → BoardLeft
hears_fed b flash x = board_hears b x.byte flash x.reply

-- Board and flash after some bytes; the flash is lent with each byte as the byte before it left it.
pub record BoardAfter : Type 0 where
  pub board : Board
  pub flash : List ℕ

unfoldable pub board_after : Board → List ℕ → List Fed → BoardAfter
board_after b flash [] = record { board = b; flash = flash }
board_after b flash (x ∷ xs) = board_after (hears_fed b flash x).board (hears_fed b flash x).flash xs

-- What each byte leaves.
unfoldable pub fed_of : Board → List ℕ → List Fed → List BoardLeft
fed_of b flash [] = []
fed_of b flash (x ∷ xs) = hears_fed b flash x ∷ fed_of (hears_fed b flash x).board (hears_fed b flash x).flash xs

-- The bytes of a clean transfer: the parameters, then packets 1 to Total, each once.
abbrev pub clean_bytes : Kind → List ℕ → ℕ → List ℕ
clean_bytes kind image size =
    wire_of (parameters_frame kind (length image)) ++ packets_sent image size (count_of (length image) size) 1
