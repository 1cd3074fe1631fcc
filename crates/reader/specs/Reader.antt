-- The reader, a byte at a time: what a step answers and the reader after it.
use Rattle.std.specs.Prelude.{ℕ, ◌+◌, ◌-◌, Bool, true, false, cond, List, [], ◌∷◌, leb, get_or, take, set, replicate}
use Rattle.octets.specs.Octets.{part_of}
use Rattle.wire.specs.Frame.{Frame, frame, shortest_content, longest_content, is_content}
use Rattle.reader.specs.Moves.{move_of}
use Rattle.reader.specs.declared.moves.Move.{Move}
use Rattle.reader.specs.declared.moves.Move.TheVariants.{Pass, Begin, Wait, Put, Drop, End}
use Rattle.reader.specs.declared.steps.Reader.{Reader}
use Rattle.reader.specs.declared.steps.Heard.{Heard}
use Rattle.reader.specs.declared.steps.Heard.TheVariants.{Nothing, Frame as Whole, Dropped}
use Rattle.reader.specs.declared.steps.Stepped.{Stepped}

-- A reader at the start: its store of 1,035 bytes all zero, no frame open.
unfoldable pub fresh : Reader
fresh = record { store = replicate longest_content 0; count = 0; opened = false; pending = false }

-- A reader with a count over 1,035 is taken as a fresh one.
unfoldable pub known_of : Reader → Reader
known_of r = cond (leb r.count longest_content) r fresh

-- The content so far.
unfoldable pub held_of : Reader → List ℕ
held_of r = take r.count r.store

-- Opening sets the count to 0 and ends a pending escape.
abbrev pub opened_of : Reader → Reader
opened_of r = record { store = r.store; count = 0; opened = true; pending = false }

-- Closing ends a pending escape; count and store stay.
abbrev pub closed_of : Reader → Reader
closed_of r = record { store = r.store; count = r.count; opened = false; pending = false }

-- The escape was read: the next byte has to follow it.
abbrev pub waiting_of : Reader → Reader
waiting_of r = record { store = r.store; count = r.count; opened = r.opened; pending = true }

-- A content byte is put at the count.
abbrev pub put_of : Reader → ℕ → Reader
put_of r b = record { store = set r.store r.count b; count = r.count + 1; opened = r.opened; pending = false }

abbrev pub answers : Heard → Reader → Stepped
answers heard r = record { reader = r; heard = heard }

-- The content is judged at its tail: the frame is handed out, or dropped; both close.
abbrev pub judged_by : Bool → Reader → Stepped
judged_by true r = answers (Whole (get_or r.store 3 0) (r.count - shortest_content)) (closed_of r)
judged_by false r = answers Dropped (closed_of r)

-- What a move answers and leaves. Where a head opens a frame inside another, that one is dropped.
abbrev pub moved_by : Move → Reader → Stepped
moved_by Pass r = answers Nothing r
moved_by Begin r = answers (cond r.opened Dropped Nothing) (opened_of r)
moved_by Wait r = answers Nothing (waiting_of r)
moved_by (Put b) r = answers Nothing (put_of r b)
moved_by Drop r = answers Dropped (closed_of r)
moved_by End r = judged_by (is_content (held_of r)) r

-- One step of a reader whose count is at most 1,035.
unfoldable pub known_step : Reader → ℕ → Stepped
known_step r b = moved_by (move_of r.count r.opened r.pending b) r

-- One step of any reader.
unfoldable pub step_of : Reader → ℕ → Stepped
step_of r b = known_step (known_of r) b

-- The payload of a handed-out frame: so many bytes of the store, from the fifth on.
abbrev pub payload_in : List ℕ → ℕ → List ℕ
payload_in store n = part_of store 4 n

-- What an answer says: the frames that it hands out, one or none.
abbrev pub frames_in : Heard → Reader → List Frame
frames_in Nothing r = []
frames_in (Whole command n) r = frame command (payload_in r.store n) ∷ []
frames_in Dropped r = []

abbrev pub frames_of : Stepped → List Frame
frames_of s = frames_in s.heard s.reader

-- What each case says in numbers: its own, none of which document 01 has, as C is given it, nothing 0; the frame's command and count.
abbrev pub frame_heard : ℕ
frame_heard = 101

abbrev pub frame_dropped : ℕ
frame_dropped = 102

abbrev pub number_in : Heard → ℕ
number_in Nothing = 0
number_in (Whole command n) = frame_heard
number_in Dropped = frame_dropped

abbrev pub command_in : Heard → ℕ
command_in Nothing = 0
command_in (Whole command n) = command
command_in Dropped = 0

abbrev pub count_in : Heard → ℕ
count_in Nothing = 0
count_in (Whole command n) = n
count_in Dropped = 0

-- Whether an answer says dropped.
abbrev pub dropped_in : Heard → Bool
dropped_in Nothing = false
dropped_in (Whole command n) = false
dropped_in Dropped = true
