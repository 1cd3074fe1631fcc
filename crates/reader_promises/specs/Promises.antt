-- What the reader and the writer promise, to be read without the proofs. Each statement is of a step, a wire form or a writer, and then
-- of ours; of ours it is proved in the file named beside it, and for wrong ones refuted in Wrong.
use Rattle.refusals.specs.declared.Refusal.{Refusal}
use Rattle.std.specs.Prelude.{ℕ, ◌+◌, ◌-◌, ◌≤◌, Bool, not, ◌&&◌, ◌||◌, ◌≡◌, eqb, length, take, drop, Err}
use mathlib.Core.List.{List, [], ◌∷◌, ◌++◌, map, Memᴰ}
use Rattle.octets.specs.Octets.{Bytes}
use Rattle.wire.specs.Escape.{head_mark}
use Rattle.wire.specs.Frame.{Frame, frame, Acceptable, wire_of, longest_payload, longest_content}
use Rattle.wire.specs.Marks.{Form}
use Rattle.wire.specs.Write.{write_of}
use Rattle.refusals.specs.Written.{Out, written}
use Rattle.reader.specs.Reader.{fresh, known_of, step_of, frames_of, dropped_in}
use Rattle.commands.specs.Commands.{rate_frame, rate_reply, parameters_command, parameters_for, parameters_reply}
use Rattle.commands.specs.Commands.{packet_reply, restart_frame, notice, accepted}
use Rattle.kinds.specs.declared.Kind.{Kind}
use Rattle.kinds.specs.declared.Kind.TheVariants.{Navigation}
use Rattle.reader_promises.specs.Table.{Row, bench_table, printed_row}
use Rattle.reader_promises.specs.Runs.{Step, Placed, placed, later, handed_by, RisingFrom}
use Rattle.reader.specs.declared.steps.Reader.{Reader}
use Rattle.reader.specs.declared.steps.Stepped.{Stepped}

-- A reader as the language makes one: its store has 1,035 bytes. Count and flags are any.
abbrev pub Made : Reader → Type 0
Made r = length r.store ≡ longest_content

-- What a writer answers and leaves of a frame and an output.
abbrev pub Writer : Type 0
Writer = Frame → List ℕ → Out

-- A stretch of bytes: it stands behind `before`, and `after` follows.
pub record StandsIn (bytes stretch : List ℕ) (tail : ℕ) : Type 0 where
  pub before : List ℕ
  pub after : List ℕ
  pub split : bytes ≡ before ++ (stretch ++ after)
  pub ends : tail + 1 ≡ length before + length stretch

-- The n bytes that end at a place.
abbrev pub up_to : ℕ → ℕ → List ℕ → List ℕ
up_to tail n bytes = take n (drop (tail + 1 - n) bytes)

-- W1, round trip (RoundTrip.antt). From any reader the wire form of a frame hands out exactly that frame, at its last byte.
abbrev pub RoundTripOf : Step → Form → Type 0
RoundTripOf step form =
    (r : Reader) (f : Frame) → Made r → length f.payload ≤ longest_payload
    → handed_by step r 0 (form f) ≡ placed (length (form f) - 1) f ∷ []

abbrev pub RoundTrip : Type 0
RoundTrip = RoundTripOf step_of wire_of

-- W1, the way back (RoundTrip.antt). Writing a frame that was handed out gives the stretch that it was read from, wherever the
-- output has room for it.
abbrev pub ReadBackOf : Step → Writer → Type 0
ReadBackOf step write =
    (bytes : List ℕ) → Bytes bytes → (p : Placed) → Memᴰ p (handed_by step fresh 0 bytes)
    → (output : List ℕ) → length (wire_of p.frame) ≤ length output
    → write p.frame output ≡ written (up_to p.place (length (wire_of p.frame)) bytes) output

abbrev pub ReadBack : Type 0
ReadBack = ReadBackOf step_of write_of

-- A frame that the writer refuses leaves the output as lent (RoundTrip.antt).
abbrev pub RefusedAsLentOf : Writer → Type 0
RefusedAsLentOf write = (f : Frame) (output : List ℕ) (n : Refusal) → (write f output).answer ≡ Err n → (write f output).output ≡ output

abbrev pub RefusedAsLent : Type 0
RefusedAsLent = RefusedAsLentOf write_of

-- W2, resynchronisation (Resync.antt). After any bytes to any reader, from the next head on the frames handed out are those that
-- a fresh reader hands out, their places counted on. (EveryStretch says which those are.)
abbrev pub ResyncOf : Step → Type 0
ResyncOf step =
    (r : Reader) (noise rest : List ℕ) → Made r
    → handed_by step r 0 (noise ++ (head_mark ∷ rest))
    ≡ handed_by step r 0 noise ++ map (later (length noise)) (handed_by step fresh 0 (head_mark ∷ rest))

abbrev pub Resync : Type 0
Resync = ResyncOf step_of

-- W3, stretches (Stretches.antt). Over any bytes, from a fresh reader:
pub record Stretches (step : Step) (bytes : List ℕ) : Type 0 where
  -- each frame handed out is acceptable, and its wire form ends at its place;
  pub sound : (p : Placed) → Memᴰ p (handed_by step fresh 0 bytes)
      → Acceptable p.frame × StandsIn bytes (wire_of p.frame) p.place
  -- wherever the wire form of an acceptable frame stands, that frame is handed out at the place of its tail;
  pub complete : (f : Frame) (tail : ℕ) → Acceptable f → StandsIn bytes (wire_of f) tail
      → Memᴰ (placed tail f) (handed_by step fresh 0 bytes)
  -- and the places rise strictly, so each is handed out once, in order.
  pub rising : RisingFrom 0 (handed_by step fresh 0 bytes)

abbrev pub EveryStretchOf : Step → Type 0
EveryStretchOf step = (bytes : List ℕ) → Bytes bytes → Stretches step bytes

abbrev pub EveryStretch : Type 0
EveryStretch = EveryStretchOf step_of

-- Frames that are not handed out (Dropped.antt). A step of a reader that was opened or not, by a head or another byte, says dropped
-- exactly where a frame was open, is over with this byte, by the head or closed, and none is handed out.
abbrev pub ToldRight : Bool → Bool → Stepped → Type 0
ToldRight opened head s =
    dropped_in s.heard ≡ (opened && ((head || not s.reader.opened) && eqb (length (frames_of s)) 0))

abbrev pub DroppedExactlyOf : Step → Type 0
DroppedExactlyOf step = (r : Reader) (b : ℕ) → ToldRight (known_of r).opened (eqb b head_mark) (step r b)

abbrev pub DroppedExactly : Type 0
DroppedExactly = DroppedExactlyOf step_of

-- W4, the bench table (Bench.antt): each row's frame is written as the row's bytes, and those are read as the frame.
abbrev pub BenchTableOf : Step → Form → Type 0
BenchTableOf step form =
    (row : Row) → Memᴰ row bench_table
    → (form row.frame ≡ row.bytes) × (handed_by step fresh 0 row.bytes ≡ placed (length row.bytes - 1) row.frame ∷ [])

abbrev pub BenchTable : Type 0
BenchTable = BenchTableOf step_of wire_of

-- W4, the third row as the papers print it, one byte short, hands out nothing.
abbrev pub PrintedRowOf : Step → Type 0
PrintedRowOf step = handed_by step fresh 0 printed_row ≡ []

abbrev pub PrintedRow : Type 0
PrintedRow = PrintedRowOf step_of

-- W4, the frames (Bench.antt): the rows are frames as the rules build them, in the order of the table. Of what builds the payload of
-- 0x02 for a type and an image's length.
abbrev pub BenchFramesOf : (Kind → ℕ → List ℕ) → Type 0
BenchFramesOf parameters =
    map (λ (row : Row). row.frame) bench_table
    -- rate 115200, which has number 5, and its answer
    ≡ rate_frame 5
    ∷ rate_reply 5 accepted
    -- type 1, length 0x1F7E0, and an answer with MaxPk 0x2000
    ∷ frame parameters_command (parameters Navigation 0x1F7E0)
    ∷ parameters_reply 0x2000 accepted
    -- packet 3 accepted
    ∷ packet_reply 3 accepted
    -- restart, and the notice of success
    ∷ restart_frame
    ∷ notice 0
    -- command 01 with the payloads DB and DA
    ∷ rate_frame 0xDB
    ∷ rate_frame 0xDA
    ∷ []

abbrev pub BenchFrames : Type 0
BenchFrames = BenchFramesOf parameters_for
