-- A frame, its content and its wire form.
use Rattle.std.specs.Prelude.{ℕ, ◌+◌, ◌-◌, ◌≤◌, ◌<◌, Bool, false, cond, List, [], ◌∷◌, ◌++◌, eqb, leb, length, get_or, take, drop}
use Rattle.octets.specs.Octets.{Bytes, number_at, spelled, xor_of}
use Rattle.wire.specs.Escape.{head_mark, tail_mark, escaped}

-- What a frame says: its command and its payload.
pub record Frame : Type 0 where
  pub command : ℕ
  pub payload : List ℕ

-- Every frame is built here.
abbrev pub frame : ℕ → List ℕ → Frame
frame command payload = record { command = command; payload = payload }

-- The device number that every content carries.
abbrev pub device : ℕ
device = 0x01

-- The longest payload, the shortest and the longest content: Length runs from 3 to 1,033.
abbrev pub longest_payload : ℕ
longest_payload = 1030

abbrev pub shortest_content : ℕ
shortest_content = 5

abbrev pub longest_content : ℕ
longest_content = 1035

-- A frame that may go on the wire: a command byte and at most 1,030 payload bytes.
pub record Acceptable (f : Frame) : Type 0 where
  pub command_byte : f.command < 256
  pub payload_bytes : Bytes f.payload
  pub payload_fits : length f.payload ≤ longest_payload

-- Length (two bytes, N + 3, counted before escaping), device, command, payload.
unfoldable pub unchecked_of : Frame → List ℕ
unchecked_of f = spelled 2 (length f.payload + 3) ++ (device ∷ f.command ∷ f.payload)

-- The content: the same with the check behind it, the xor of all content bytes before it.
unfoldable pub content_of : Frame → List ℕ
content_of f = unchecked_of f ++ (xor_of (unchecked_of f) ∷ [])

-- The wire form of content: head, escaped content, tail.
unfoldable pub wire_form : List ℕ → List ℕ
wire_form content = head_mark ∷ (escaped content ++ (tail_mark ∷ []))

-- The wire form of a frame.
unfoldable pub wire_of : Frame → List ℕ
wire_of f = wire_form (content_of f)

-- Content is that of a frame for our device if it has 5 to 1,035 bytes, Length equal to content minus 2, our device
-- and the check right, in this order.
unfoldable pub is_content : List ℕ → Bool
is_content c =
    cond (leb shortest_content (length c))
    (cond (leb (length c) longest_content)
    (cond (eqb (number_at 2 c 0) (length c - 2))
    (cond (eqb (get_or c 2 0) device)
    (eqb (get_or c (length c - 1) 0) (xor_of (take (length c - 1) c)))
    false)
    false)
    false)
    false

-- The frame that content carries.
abbrev pub frame_in : List ℕ → Frame
frame_in c = frame (get_or c 3 0) (take (length c - shortest_content) (drop 4 c))
