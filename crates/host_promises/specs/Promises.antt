-- What the host promises, to be read without the proofs. Each statement is proved in the file named beside it.
use Rattle.refusals.specs.declared.Refusal.{Refusal}
use Rattle.std.specs.Prelude.{ℕ, zero, suc, ◌+◌, ◌^◌, ◌≤◌, ◌<◌, true, List, [], ◌∷◌, ◌++◌, ◌≡◌, length, take}
use Rattle.octets.specs.Octets.{Bytes, over}
use Rattle.kinds.specs.Kinds.{number_of, fits_file}
use Rattle.kinds.specs.declared.Kind.{Kind}
use Rattle.pieces.specs.Pieces.{count_of, piece_of}
use Rattle.wire.specs.Frame.{Frame, wire_of}
use Rattle.commands.specs.Commands.{accepted, wrong_first, wrong_second, not_understood, largest_total}
use Rattle.commands.specs.Commands.{rate_reply, parameters_reply, packet_reply, restart_reply, notice}
use Rattle.commands.specs.Commands.{rate_frame, parameters_frame, packet_frame, restart_frame}
use Rattle.refusals.specs.Refusals.{no_room, wrong_pieces, no_answer, module_refused, bad_notice}
use Rattle.host_model.specs.Stages.{number_of_rate}
use Rattle.host_model.specs.Views.{stage_rate, ended_at_rate}
use Rattle.host_model.specs.Waits.{limit_of}
use Rattle.host.specs.Session.{session, stepped, arises}
use Rattle.commands.specs.Commands.{start_text, start_answer}
use Rattle.host_model.specs.Messages.{message_of}
use Rattle.host_model.specs.Answers.{piece_size, size_move}
use Rattle.host.specs.Step.{Left, left, Wishes, waiting_of, ended_of, opening_of}
use Rattle.host_promises.specs.Runs.{Given, leaves, after_of, sent_by, sent_over, answers_of}
use Rattle.host_model.specs.declared.plan.Rate.{Rate}
use Rattle.host_model.specs.declared.plan.Rate.TheVariants.{R9600}
use Rattle.host_model.specs.declared.plan.Start.{Start}
use Rattle.host_model.specs.declared.plan.Start.TheVariants.{WithText, AtOnce}
use Rattle.host_model.specs.declared.plan.Same.TheVariants.{GoOn, Stop}
use Rattle.host_model.specs.declared.plan.Plan.{Plan}
use Rattle.host_model.specs.declared.plan.Stage.{Stage}
use Rattle.host_model.specs.declared.plan.Stage.TheVariants.{Text, Asking, Declaring, Sending, Noticing, Restarting}
use Rattle.host_model.specs.declared.waits.Wait.{Wait}
use Rattle.host_model.specs.declared.waits.Phase.TheVariants.{Waiting}
use Rattle.host.specs.declared.session.Session.{Session}
use Rattle.host_model.specs.declared.events.Event.{Event}
use Rattle.host_model.specs.declared.events.Event.TheVariants.{Line, Elapsed}
use Rattle.host_model.specs.declared.events.Event.TheVariants as event
use Rattle.host_model.specs.declared.answers.Move.TheVariants.{Enter, TooMany}
use Rattle.host_model.specs.Events.{Answer}
use Rattle.host_model.specs.declared.events.Answer.TheVariants.{Nothing, Sent, Done, Refused, Failed}

-- ---- what is heard

-- A step hears a frame.
pub record Hears (g : Given) (f : Frame) : Type 0 where
  pub count : ℕ
  pub event_is : g.event ≡ event.Frame f.command count
  pub payload_is : take count g.bytes ≡ f.payload

-- A step hears a line of text.
pub record HearsLine (g : Given) (line : List ℕ) : Type 0 where
  pub count : ℕ
  pub event_is : g.event ≡ Line count
  pub line_is : take count g.bytes ≡ line

-- A packet is accepted: with ACK 00, or with ACK 02 where the caller wants to go on at the same version.
pub data PacketAccepted (plan : Plan) (number : ℕ) (g : Given) : Type 0 where
  accepts : Hears g (packet_reply number accepted) → PacketAccepted plan number g
  same : plan.same ≡ GoOn → Hears g (packet_reply number wrong_second) → PacketAccepted plan number g

-- No message has more bytes on the wire: 1,030 of payload, each escaped, and twelve about them.
abbrev pub largest_message : ℕ
largest_message = 2072

-- ---- H1, what is sent

-- Which message follows which, and on which answer: the order of document 001.
pub data Follows (plan : Plan) (image : ℕ) (g : Given) (stage next : Stage) : Type 0 where
  started : stage ≡ Text → HearsLine g start_answer → next ≡ Asking plan.first → Follows plan image g stage next
  agreed : (rate : Rate) → stage ≡ Asking rate → Hears g (rate_reply (number_of_rate rate) accepted) → next ≡ Declaring rate
      → Follows plan image g stage next
  lowered : (rate lower : Rate) → stage ≡ Asking rate → Hears g (rate_reply (number_of_rate rate) wrong_first)
      → number_of_rate lower + 1 ≡ number_of_rate rate → next ≡ Asking lower → Follows plan image g stage next
  declared : (rate : Rate) (most : ℕ) → stage ≡ Declaring rate → most < 256 ^ 2 → Hears g (parameters_reply most accepted)
      → 1 ≤ piece_size most plan.wish → count_of image (piece_size most plan.wish) ≤ largest_total
      → next ≡ Sending rate (piece_size most plan.wish) 1 → Follows plan image g stage next
  continued : (rate : Rate) (size number : ℕ) → stage ≡ Sending rate size number → number < count_of image size
      → PacketAccepted plan number g → next ≡ Sending rate size (number + 1) → Follows plan image g stage next
  noticed : (rate : Rate) (size : ℕ) → stage ≡ Noticing rate size → Hears g (notice 0) → next ≡ Restarting rate size
      → Follows plan image g stage next

-- Why a message is sent again: the time is up, or ACK 10.
pub data Due (w : Wait) (g : Given) : Type 0 where
  late : (ms : ℕ) → g.event ≡ Elapsed ms → limit_of w.stage ≤ w.waited + ms → Due w g
  rate_again : (rate : Rate) → w.stage ≡ Asking rate → Hears g (rate_reply (number_of_rate rate) not_understood) → Due w g
  rate_0_again : (rate : Rate) → w.stage ≡ Asking rate → Hears g (rate_reply 0 not_understood) → Due w g
  parameters_again : (rate : Rate) (most : ℕ) → w.stage ≡ Declaring rate → Hears g (parameters_reply most not_understood) → Due w g
  packet_again : (rate : Rate) (size number : ℕ) → w.stage ≡ Sending rate size number → Hears g (packet_reply number not_understood)
      → Due w g
  packet_0_again : (rate : Rate) (size number : ℕ) → w.stage ≡ Sending rate size number → Hears g (packet_reply 0 not_understood)
      → Due w g
  restart_again : (rate : Rate) (size : ℕ) → w.stage ≡ Restarting rate size → Hears g (restart_reply not_understood) → Due w g

-- Why the module's byte is passed on: with 21 a refusal, with 22 a notice other than 0.
pub data RefusedBy (w : Wait) (g : Given) (refusal : Refusal) (passed : ℕ) : Type 0 where
  lowest : w.stage ≡ Asking R9600 → Hears g (rate_reply 1 wrong_first) → refusal ≡ module_refused → passed ≡ wrong_first
      → RefusedBy w g refusal passed
  parameters : (rate : Rate) (most : ℕ) → w.stage ≡ Declaring rate → 1 ≤ passed → passed ≤ 2 → Hears g (parameters_reply most passed)
      → refusal ≡ module_refused → RefusedBy w g refusal passed
  packet : (rate : Rate) (size k : ℕ) → w.stage ≡ Sending rate size k → Hears g (packet_reply k wrong_first)
      → refusal ≡ module_refused → passed ≡ wrong_first → RefusedBy w g refusal passed
  packet_0 : (rate : Rate) (size k : ℕ) → w.stage ≡ Sending rate size k → Hears g (packet_reply 0 wrong_first)
      → refusal ≡ module_refused → passed ≡ wrong_first → RefusedBy w g refusal passed
  same_version : (rate : Rate) (size k : ℕ) → w.stage ≡ Sending rate size k → w.plan.same ≡ Stop
      → Hears g (packet_reply k wrong_second) → refusal ≡ module_refused → passed ≡ wrong_second → RefusedBy w g refusal passed
  failure : (rate : Rate) (size : ℕ) → w.stage ≡ Noticing rate size → 1 ≤ passed → Hears g (notice passed)
      → refusal ≡ bad_notice → RefusedBy w g refusal passed

-- The parameters are accepted with a MaxPk that leaves no piece size, or too many pieces.
pub record NoPieces (w : Wait) (g : Given) : Type 0 where
  pub rate : Rate
  pub most : ℕ
  pub stage_is : w.stage ≡ Declaring rate
  pub most_fits : most < 256 ^ 2
  pub hears : Hears g (parameters_reply most accepted)
  pub none : 1 ≤ piece_size most w.plan.wish → largest_total < count_of (length g.image) (piece_size most w.plan.wish)

-- The last packet is accepted.
pub record AllAccepted (w : Wait) (g : Given) (rate : Rate) (size : ℕ) : Type 0 where
  pub stage_is : w.stage ≡ Sending rate size (count_of (length g.image) size)
  pub accepts : PacketAccepted w.plan (count_of (length g.image) size) g

-- The restart is acknowledged.
pub record Restarted (w : Wait) (g : Given) : Type 0 where
  pub rate : Rate
  pub size : ℕ
  pub stage_is : w.stage ≡ Restarting rate size
  pub hears : Hears g (restart_reply accepted)

-- A session that waits for an answer, its numbers such as can arise, and what its next step is given: the image of the opening's
-- length, and bytes.
pub record Awaits (s : Session) (w : Wait) (g : Given) : Type 0 where
  pub phase_is : s.phase ≡ Waiting w
  pub sound : arises s ≡ true
  pub same_length : length g.image ≡ s.image
  pub all_bytes_law : Bytes g.bytes

-- What a step sends, and the session after it: the message again, the next message, or the restart frame of a load that failed; that
-- one has ended, and keeps the rate at which this frame goes out.
pub data Message (w : Wait) (g : Given) (message : List ℕ) (next : Session) (answer : Answer) : Type 0 where
  again : Due w g → w.repeats < 3 → message ≡ message_of w.plan g.image w.stage
      → next ≡ waiting_of (length g.image) w.plan w.stage 0 (w.repeats + 1) → answer ≡ Sent (length message)
      → Message w g message next answer
  onward : (stage : Stage) → Follows w.plan (length g.image) g w.stage stage → message ≡ message_of w.plan g.image stage
      → next ≡ waiting_of (length g.image) w.plan stage 0 0 → answer ≡ Sent (length message) → Message w g message next answer
  restart : (refusal : Refusal) (passed : ℕ) → RefusedBy w g refusal passed → message ≡ wire_of restart_frame
      → next ≡ session (length g.image) (ended_at_rate w.plan.kind (stage_rate w.stage)) → answer ≡ Failed refusal passed (length message) → Message w g message next answer

-- What a step is.
pub data Turn (s : Session) (w : Wait) (g : Given) (x : Left) : Type 0 where
  -- a message is sent, where there is room;
  sends : (message : List ℕ) (next : Session) (answer : Answer) → Message w g message next answer
      → length message ≤ length g.output → x ≡ left (stepped next answer) (over message g.output) → Turn s w g x
  -- 2: there is a message and no room, and all stays as lent;
  no_room_law : (message : List ℕ) (next : Session) (answer : Answer) → Message w g message next answer
      → length g.output < length message → x ≡ left (stepped s (Refused no_room)) g.output → Turn s w g x
  -- 20: the message is due again and was resent 3 times; the session ends;
  gives_up : Due w g → 3 ≤ w.repeats → x ≡ left (stepped (ended_of (length g.image)) (Refused no_answer)) g.output
      → Turn s w g x
  -- 11: no piece size, or too many pieces; the session ends;
  too_many : NoPieces w g → x ≡ left (stepped (ended_of (length g.image)) (Refused wrong_pieces)) g.output → Turn s w g x
  -- the last packet is accepted and the notice awaited, the last packet's repeats counted on;
  awaits : (rate : Rate) (size : ℕ) → AllAccepted w g rate size
      → x ≡ left (stepped (waiting_of (length g.image) w.plan (Noticing rate size) 0 w.repeats) Nothing) g.output → Turn s w g x
  -- the restart is acknowledged: done;
  finishes : Restarted w g → x ≡ left (stepped (ended_of (length g.image)) Done) g.output → Turn s w g x
  -- time passes that is not up;
  waits : (ms : ℕ) → g.event ≡ Elapsed ms → w.waited + ms < limit_of w.stage
      → x ≡ left (stepped (waiting_of (length g.image) w.plan w.stage (w.waited + ms) w.repeats) Nothing) g.output → Turn s w g x
  -- anything else is passed over.
  passed_over : x ≡ left (stepped s Nothing) g.output → Turn s w g x

-- H1 and H2, every step is one of these (Turns.antt). So each message sent is one that document 001 allows at that point, built from
-- the plan and the lent image; one message is resent at most 3 times; and 20, 21, 22, 11 and 2 come only when the table says, with
-- what they leave.
abbrev pub EveryTurn : Type 0
EveryTurn = (s : Session) (w : Wait) (g : Given) → Awaits s w g → Turn s w g (leaves s g)

-- H2, and each comes where its reason holds (Turns.antt).
pub record Reasons (s : Session) (w : Wait) (g : Given) : Type 0 where
  pub sent : (message : List ℕ) (next : Session) (answer : Answer) → Message w g message next answer
      → length message ≤ length g.output → leaves s g ≡ left (stepped next answer) (over message g.output)
  pub unsent : (message : List ℕ) (next : Session) (answer : Answer) → Message w g message next answer
      → length g.output < length message → leaves s g ≡ left (stepped s (Refused no_room)) g.output
  pub gave_up : Due w g → 3 ≤ w.repeats
      → leaves s g ≡ left (stepped (ended_of (length g.image)) (Refused no_answer)) g.output
  pub no_pieces : NoPieces w g → leaves s g ≡ left (stepped (ended_of (length g.image)) (Refused wrong_pieces)) g.output
  pub awaited : (rate : Rate) (size : ℕ) → AllAccepted w g rate size
      → leaves s g ≡ left (stepped (waiting_of (length g.image) w.plan (Noticing rate size) 0 w.repeats) Nothing) g.output
  pub waited : (ms : ℕ) → g.event ≡ Elapsed ms → w.waited + ms < limit_of w.stage
      → leaves s g ≡ left (stepped (waiting_of (length g.image) w.plan w.stage (w.waited + ms) w.repeats) Nothing) g.output
  pub finished : Restarted w g → leaves s g ≡ left (stepped (ended_of (length g.image)) Done) g.output

abbrev pub EveryReason : Type 0
EveryReason = (s : Session) (w : Wait) (g : Given) → Awaits s w g → Reasons s w g

-- H1, the pieces in order are the image (Load.antt).
abbrev pub pieces_from : List ℕ → ℕ → ℕ → ℕ → List ℕ
pieces_from image size zero k = []
pieces_from image size (suc n) k = piece_of image size k ++ pieces_from image size n (k + 1)

abbrev pub PiecesAreImage : Type 0
PiecesAreImage = (image : List ℕ) (size : ℕ) → 1 ≤ length image → 1 ≤ size → pieces_from image size (count_of (length image) size) 1 ≡ image

-- Document 01's bench example (Bench.antt): a length of 262,140 is 65,535 pieces of 4, which may be sent; in pieces of 3 it is too many.
abbrev pub PieceCounts : Type 0
PieceCounts =
    (rate : Rate)
    → (count_of 262140 4 ≡ 65535) × (size_move rate 262140 4 ≡ Enter (Sending rate 4 1)) × (size_move rate 262140 3 ≡ TooMany)

-- ---- H4, a load that gets good answers

-- What is heard in a good load: the answer to the start text where it is sent, the rate accepted, the parameters accepted with a
-- MaxPk, each packet accepted, the notice of State 0, the restart accepted.
pub data Heard : Type 0 where
  line : List ℕ → Heard
  frame : Frame → Heard

abbrev pub packets_heard : ℕ → ℕ → List Heard → List Heard
packets_heard zero k rest = rest
packets_heard (suc n) k rest = frame (packet_reply k accepted) ∷ packets_heard n (k + 1) rest

abbrev pub frames_heard : Rate → ℕ → ℕ → List Heard
frames_heard first most total =
    frame (rate_reply (number_of_rate first) accepted)
    ∷ frame (parameters_reply most accepted)
    ∷ packets_heard total 1 (frame (notice 0) ∷ frame (restart_reply accepted) ∷ [])

abbrev pub start_heard : Start → List Heard → List Heard
start_heard WithText rest = line start_answer ∷ rest
start_heard AtOnce rest = rest

-- One step hears this, is lent the image, and has room for any message.
abbrev pub HearsThis : Given → Heard → Type 0
HearsThis g (line l) = HearsLine g l
HearsThis g (frame f) = Hears g f

pub record GoodStep (image : List ℕ) (h : Heard) (g : Given) : Type 0 where
  pub hears : HearsThis g h
  pub image_is : g.image ≡ image
  pub room : largest_message ≤ length g.output

abbrev pub GoodSteps : List ℕ → List Heard → List Given → Type 0
GoodSteps image [] gs = gs ≡ []
GoodSteps image (h ∷ hs) [] = ⊥
GoodSteps image (h ∷ hs) (g ∷ gs) = GoodStep image h g × GoodSteps image hs gs

-- What such a load sends: the start text if asked for, the first rate, the parameters, each packet, the restart; each once.
abbrev pub packets_sent : List ℕ → ℕ → ℕ → ℕ → List ℕ
packets_sent image size zero k = []
packets_sent image size (suc n) k = wire_of (packet_frame image size k) ++ packets_sent image size n (k + 1)

abbrev pub start_sent : Start → List ℕ
start_sent WithText = start_text
start_sent AtOnce = []

abbrev pub load_sent : Kind → Wishes → List ℕ → ℕ → List ℕ
load_sent kind w image size =
    start_sent w.start
    ++ (wire_of (rate_frame (number_of_rate w.first))
    ++ (wire_of (parameters_frame kind (length image))
    ++ (packets_sent image size (count_of (length image) size) 1 ++ wire_of restart_frame)))

-- How a good load ends.
pub record GoodLoad (opening : Left) (gs : List Given) (sent : List ℕ) : Type 0 where
  pub all_sent : sent_by opening ++ sent_over opening.session gs ≡ sent
  pub before : List Answer
  pub done_last : answers_of opening.session gs ≡ before ++ (Done ∷ [])

-- H4 (Load.antt). A host that gets these answers sends each message of the load once, in order, and is done with the last answer: as
-- many frames as packets and three more, besides the start text.
abbrev pub GoodEnds : Type 0
GoodEnds =
    (kind : Kind) (w : Wishes) (image output : List ℕ) (most : ℕ) (gs : List Given) → fits_file kind (length image) ≡ true
    → most < 256 ^ 2 → 1 ≤ piece_size most w.wish → count_of (length image) (piece_size most w.wish) ≤ largest_total
    → largest_message ≤ length output
    → GoodSteps image (start_heard w.start (frames_heard w.first most (count_of (length image) (piece_size most w.wish)))) gs
    → GoodLoad (opening_of (number_of kind) w image output) gs (load_sent kind w image (piece_size most w.wish))

-- ---- H3, which sessions arise

-- H3 (Arises.antt). Every session that an opening and any run of steps leads to passes the test.
abbrev pub ReachedArises : Type 0
ReachedArises =
    (number : ℕ) (w : Wishes) (image output : List ℕ) (gs : List Given) → arises (after_of (opening_of number w image output).session gs) ≡ true

-- What the types of the calls let through.
abbrev pub RealEvent : Event → Type 0
RealEvent (event.Frame command count) = command < 256
RealEvent (Line count) = Unit
RealEvent (Elapsed ms) = ms < 2 ^ 32

pub record Real (g : Given) : Type 0 where
  pub event_real : RealEvent g.event
  pub bytes_real : Bytes g.bytes
  pub image_real : Bytes g.image
  pub output_real : Bytes g.output

abbrev pub AllReal : List Given → Type 0
AllReal [] = Unit
AllReal (g ∷ gs) = Real g × AllReal gs

-- An opening and a run of steps that lead to a session.
pub record Reached (s : Session) : Type 0 where
  pub number : ℕ
  pub number_real : number < 256 ^ 2
  pub wishes : Wishes
  pub image : List ℕ
  pub image_real : Bytes image
  pub output : List ℕ
  pub output_real : Bytes output
  pub steps : List Given
  pub steps_real : AllReal steps
  pub leads : after_of (opening_of number wishes image output).session steps ≡ s

-- H3, the other way (Reach.antt). Every session that passes the test is reached by some opening and some run.
abbrev pub ArisesReached : Type 0
ArisesReached = (s : Session) → arises s ≡ true → Reached s
