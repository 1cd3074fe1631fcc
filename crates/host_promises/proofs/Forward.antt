-- The steps of a load, forward: what each good answer leads to, and the message that goes with it.
use Rattle.std.specs.Prelude.{ℕ, ◌+◌, ◌^◌, ◌≤◌, ◌<◌, true, List, [], ◌≡◌, length}
use Rattle.std.proofs.Math.Path.{refl, ap}
use Rattle.std.proofs.Common.{◌∙◌, arith}
use Rattle.octets.specs.Octets.{spelled, number_at, over}
use Rattle.octets.proofs.OctetsLaws.{little_spelled, same_refl, take_over}
use Rattle.kinds.specs.Kinds.{number_of, fits_file}
use Rattle.kinds.specs.KindsLaws.{file_some, kind_of_number}
use Rattle.kinds.specs.declared.Kind.{Kind}
use Rattle.refusals.specs.Refusals.{module_refused}
use Rattle.pieces.specs.Pieces.{count_of}
use Rattle.wire.specs.Frame.{Frame, wire_of}
use Rattle.wire.specs.WriteLaws.{wire_most}
use Rattle.commands.specs.Commands.{accepted, wrong_first, wrong_second}
use Rattle.commands.specs.Commands.{rate_command, parameters_command, packet_command, restart_command, notice_command}
use Rattle.commands.specs.Commands.{rate_reply, parameters_reply, packet_reply, restart_reply, notice}
use Rattle.commands.specs.Commands.{rate_frame, parameters_frame, packet_frame, restart_frame}
use Rattle.host_model.specs.Stages.{number_of_rate, stage_fits}
use Rattle.host_model.specs.Waits.{most_repeats, limit_of, wait, first_stage}
use Rattle.host_model.specs.Nexts.{plan_next}
use Rattle.host.specs.Session.{session, stepped}
use Rattle.host_model.proofs.WaitsLaws.{WaitOf}
use Rattle.host_model.proofs.StagesLaws.{stage_small, sending_facts}
use Rattle.commands.specs.Commands.{start_answer}
use Rattle.host_model.specs.Messages.{message_of}
use Rattle.host_model.specs.Answers.{by_ack, lower_move, piece_size, size_move, parameters_move, accepted_move, same_move, notice_move}
use Rattle.host_model.specs.Answers.{fitting, frame_move, line_move}
use Rattle.host_model.proofs.AnswersLaws.{ack_accepted, rate_asked, Carried, size_begins, parameters_ack, packet_this, text_same}
use Rattle.host_model.proofs.AnswersLaws.{accepted_last, accepted_before}
use Rattle.host.specs.Step.{Left, left, Wishes, waiting_of, ended_of, enters, moved, event_step}
use Rattle.host.specs.Step.{plan_of, opening_of}
use Rattle.commands.specs.CommandsLaws.{piece_most, length_packet, length_parameters}
use Rattle.host_model.specs.Small.{Small}
use Rattle.host.specs.StepLaws.{step_phase, sends_fits}
use Rattle.host_promises.specs.Runs.{Given, leaves, sent_by}
use Rattle.host_promises.specs.Promises.{largest_message, Hears, HearsLine, line, frame, GoodStep}
use Rattle.host_model.proofs.Moves.{FitsMove, fits_frame, fits_line}
use Rattle.host_promises.proofs.Arises.{wait_arises}
use Rattle.host_model.proofs.WaitsLaws.{limit_within, first_fits}
use Rattle.host_model.specs.declared.plan.Rate.{Rate}
use Rattle.host_model.specs.declared.plan.Start.{Start}
use Rattle.host_model.specs.declared.plan.Plan.{Plan}
use Rattle.host_model.specs.declared.plan.Stage.{Stage}
use Rattle.host_model.specs.declared.plan.Stage.TheVariants.{Text, Asking, Declaring, Sending, Noticing, Restarting}
use Rattle.host_model.specs.declared.waits.Wait.{Wait}
use Rattle.host_model.specs.declared.waits.Phase.TheVariants.{Waiting}
use Rattle.host.specs.declared.session.Session.{Session}
use Rattle.host_model.specs.declared.events.Event.{Event}
use Rattle.host_model.specs.declared.events.Answer.TheVariants.{Sent, Done}
use Rattle.host_model.specs.declared.answers.Move.{Move}
use Rattle.host_model.specs.declared.answers.Move.TheVariants.{Stay, Enter, Await, Refuse, Finish}

-- ---- how long a message is

-- A packet of at most 1,024 bytes has at most 2,072 on the wire.
packet_short : (image : List ℕ) (size k : ℕ) → size ≤ 1024 → length (wire_of (packet_frame image size k)) ≤ largest_message
packet_short image size k h =
    omega (arith, wire_most (packet_frame image size k), length_packet image size k, piece_most image size k)

-- No message is longer, where the packets of its stage are small.
pub message_short : (plan : Plan) (image : List ℕ) (stage : Stage) → Small stage → length (message_of plan image stage) ≤ largest_message
message_short plan image Text h = omega arith
message_short plan image (Asking rate) h = omega (arith, wire_most (rate_frame (number_of_rate rate)))
message_short plan image (Declaring rate) h =
    omega (arith, wire_most (parameters_frame plan.kind (length image)), length_parameters plan.kind (length image))
message_short plan image (Sending rate size number) h = packet_short image size number h.0
message_short plan image (Noticing rate size) h = packet_short image size (count_of (length image) size) h
message_short plan image (Restarting rate size) h = omega (arith, wire_most restart_frame)

-- ---- what each answer leads to

module _ (plan : Plan) (image : ℕ) where
  -- The answer to the start text leads to the first rate.
  pub text_answered : line_move plan Text start_answer ≡ Enter (Asking plan.first)
  text_answered = text_same plan.first start_answer (same_refl start_answer)

  -- A frame that answers a stage is decided by its ACK, the notice by its State.
  pub rate_answered : (rate : Rate) (ack : ℕ)
      → frame_move plan image (Asking rate) rate_command (rate_reply (number_of_rate rate) ack).payload
      ≡ by_ack ack (Enter (Declaring rate)) (lower_move rate) Stay
  unfolding fitting
  rate_answered rate ack = rate_asked rate (number_of_rate rate) ack refl

  pub parameters_answered : (rate : Rate) (most ack : ℕ) → most < 256 ^ 2
      → frame_move plan image (Declaring rate) parameters_command (parameters_reply most ack).payload
      ≡ by_ack ack (size_move rate image (piece_size most plan.wish)) (Refuse module_refused wrong_first)
      (Refuse module_refused wrong_second)
  unfolding fitting spelled number_at
  parameters_answered rate most ack h =
      ap (λ (x : ℕ). parameters_move plan image rate x ack) (little_spelled 2 most h) ∙ parameters_ack plan image rate most ack

  pub packet_answered : (rate : Rate) (size number ack : ℕ) → number < 256 ^ 2
      → frame_move plan image (Sending rate size number) packet_command (packet_reply number ack).payload
      ≡ by_ack ack (accepted_move image rate size number) (Refuse module_refused wrong_first)
      (same_move plan.same (accepted_move image rate size number))
  unfolding fitting spelled number_at
  packet_answered rate size number ack h = packet_this plan image rate size number _ ack (little_spelled 2 number h)

  pub notice_answered : (rate : Rate) (size : ℕ)
      → frame_move plan image (Noticing rate size) notice_command (notice 0).payload ≡ Enter (Restarting rate size)
  unfolding fitting notice_move
  notice_answered rate size = refl

  pub restart_answered : (rate : Rate) (size : ℕ)
      → frame_move plan image (Restarting rate size) restart_command (restart_reply accepted).payload ≡ Finish
  unfolding fitting by_ack
  restart_answered rate size = refl

-- ---- one step of a session that waits

module _ (image : List ℕ) (w : Wait) (g : Given) (f : WaitOf (length image) w) (lent : g.image ≡ image) where
  -- It takes the event.
  pub event_taken : leaves (session (length image) (Waiting w)) g
      ≡ event_step (session (length image) (Waiting w)) w g.event g.bytes image g.output
  event_taken =
      let s = session (length image) (Waiting w) in
      rw lent (step_phase s g.event g.bytes image g.output refl (wait_arises (length image) w f) (Waiting w) refl)

  -- A frame is answered by its move, and so is a line.
  pub frame_heard_law : (x : Frame) → Hears g x → leaves (session (length image) (Waiting w)) g
      ≡ moved (session (length image) (Waiting w)) w (frame_move w.plan (length image) w.stage x.command x.payload) image
      g.output
  frame_heard_law x h =
      let s = session (length image) (Waiting w) in
      event_taken
      ∙ ap (λ (e : Event). event_step s w e g.bytes image g.output) h.event_is
      ∙ ap (λ (p : List ℕ). moved s w (frame_move w.plan (length image) w.stage x.command p) image g.output) h.payload_is

  pub line_heard_law : (l : List ℕ) → HearsLine g l → leaves (session (length image) (Waiting w)) g
      ≡ moved (session (length image) (Waiting w)) w (line_move w.plan w.stage l) image g.output
  line_heard_law l h =
      let s = session (length image) (Waiting w) in
      event_taken
      ∙ ap (λ (e : Event). event_step s w e g.bytes image g.output) h.event_is
      ∙ ap (λ (p : List ℕ). moved s w (line_move w.plan w.stage p) image g.output) h.line_is

-- ---- a stage behind another

-- A session that has come to a stage: nothing waited, nothing resent.
abbrev pub arrived : Plan → List ℕ → Stage → Session
arrived plan image stage = waiting_of (length image) plan stage 0 0

-- Its image fits a file, and its stage fits.
pub record Fits (plan : Plan) (image : List ℕ) (stage : Stage) : Type 0 where
  pub fitting : fits_file plan.kind (length image) ≡ true
  pub staged : stage_fits plan (length image) stage ≡ true

-- So it waits with numbers that could arise, however often it has resent.
pub fits_wait : (plan : Plan) (image : List ℕ) (stage : Stage) (waited repeats : ℕ) → Fits plan image stage → waited < limit_of stage
    → repeats ≤ most_repeats → WaitOf (length image) (wait plan stage waited repeats)
fits_wait plan image stage waited repeats f short few =
    record { fitting = f.fitting; short = short; few = few; staged = f.staged }

-- A step leads to a stage and sends this.
pub record Leads (plan : Plan) (image message : List ℕ) (stage next : Stage) (g : Given) : Type 0 where
  pub session_is : (leaves (arrived plan image stage) g).session ≡ arrived plan image next
  pub sent_is : sent_by (leaves (arrived plan image stage) g) ≡ message
  pub fits : Fits plan image next

-- With room a stage is entered.
pub enters_room : (s : Session) (plan : Plan) (stage : Stage) (image output : List ℕ) → stage_fits plan (length image) stage ≡ true
    → largest_message ≤ length output
    → enters s plan stage image output
    ≡ left (stepped (arrived plan image stage) (Sent (length (message_of plan image stage)))) (over (message_of plan image stage) output)
enters_room s plan stage image output h room =
    sends_fits s _ (message_of plan image stage) output
    (omega (arith, room, message_short plan image stage (stage_small plan (length image) stage h)))

-- A move to a stage leads there: with its message where it is entered, with nothing where it is awaited.
module _ (plan : Plan) (image : List ℕ) (stage next : Stage) (g : Given) (f : Fits plan image stage) (room : largest_message ≤ length g.output)
    (move : Move) (goes : FitsMove plan (length image) move)
    (answered : leaves (arrived plan image stage) g
    ≡ moved (arrived plan image stage) (wait plan stage 0 0) move image g.output) where
  enter_leads : move ≡ Enter next → Leads plan image (message_of plan image next) stage next g
  enter_leads e =
      let staged : stage_fits plan (length image) next ≡ true = rw e at goes in
      let s = arrived plan image stage in
      let message : List ℕ = message_of plan image next in
      let all = answered
      ∙ ap (λ (m : Move). moved s (wait plan stage 0 0) m image g.output) e
      ∙ enters_room s plan next image g.output staged room in
      record {
        session_is = ap (λ (l : Left). l.session) all;
        sent_is = ap sent_by all ∙ take_over message g.output (length message) refl;
        fits = record { fitting = f.fitting; staged = staged };
      }

  await_leads : move ≡ Await next → Leads plan image [] stage next g
  await_leads e =
      let staged : stage_fits plan (length image) next ≡ true = rw e at goes in
      let all = answered ∙ ap (λ (m : Move). moved (arrived plan image stage) (wait plan stage 0 0) m image g.output) e in
      record {
        session_is = ap (λ (l : Left). l.session) all;
        sent_is = ap sent_by all;
        fits = record { fitting = f.fitting; staged = staged };
      }

-- A frame heard at a stage leads where its move says.
module _ (plan : Plan) (image : List ℕ) (stage next : Stage) (x : Frame) (g : Given) (f : Fits plan image stage)
    (good : GoodStep image (frame x) g) where
  goes : FitsMove plan (length image) (frame_move plan (length image) stage x.command x.payload)
  goes =
      fits_frame plan (length image) stage x.command x.payload (file_some plan.kind (length image) f.fitting) f.staged

  pub frame_answered : leaves (arrived plan image stage) g
      ≡ moved (arrived plan image stage) (wait plan stage 0 0) (frame_move plan (length image) stage x.command x.payload) image
      g.output
  frame_answered =
      frame_heard_law image (wait plan stage 0 0) g (fits_wait plan image stage 0 0 f (limit_within stage).0 (omega arith)) good.image_is x
      good.hears

  pub frame_enters : frame_move plan (length image) stage x.command x.payload ≡ Enter next
      → Leads plan image (message_of plan image next) stage next g
  frame_enters e = enter_leads plan image stage next g f good.room _ goes frame_answered e

  pub frame_awaits : frame_move plan (length image) stage x.command x.payload ≡ Await next → Leads plan image [] stage next g
  frame_awaits e = await_leads plan image stage next g f good.room _ goes frame_answered e

-- ---- the stages in their order

module _ (plan : Plan) (image : List ℕ) (g : Given) where
  -- The start text is answered.
  pub text_step : Fits plan image Text → GoodStep image (line start_answer) g
      → Leads plan image (message_of plan image (Asking plan.first)) Text (Asking plan.first) g
  text_step f good =
      enter_leads plan image Text (Asking plan.first) g f good.room _ (fits_line plan (length image) Text start_answer)
      (line_heard_law image (wait plan Text 0 0) g (fits_wait plan image Text 0 0 f (omega arith) (omega arith)) good.image_is start_answer
      good.hears)
      (text_answered plan (length image))

  -- The rate is accepted.
  pub rate_step : (rate : Rate) → Fits plan image (Asking rate) → GoodStep image (frame (rate_reply (number_of_rate rate) accepted)) g
      → Leads plan image (message_of plan image (Declaring rate)) (Asking rate) (Declaring rate) g
  rate_step rate f good =
      frame_enters plan image (Asking rate) (Declaring rate) _ g f good
      (rate_answered plan (length image) rate accepted ∙ ack_accepted _ _ _)

  -- The parameters are accepted with a MaxPk that leaves a piece size, and not too many pieces.
  pub parameters_step : (rate : Rate) (most size : ℕ) → most < 256 ^ 2 → piece_size most plan.wish ≡ size
      → Carried (length image) size → Fits plan image (Declaring rate) → GoodStep image (frame (parameters_reply most accepted)) g
      → Leads plan image (message_of plan image (Sending rate size 1)) (Declaring rate) (Sending rate size 1) g
  parameters_step rate most size short e c f good =
      frame_enters plan image (Declaring rate) (Sending rate size 1) _ g f good
      (parameters_answered plan (length image) rate most accepted short
      ∙ ack_accepted _ _ _
      ∙ ap (size_move rate (length image)) e
      ∙ size_begins rate (length image) size c)

  -- A packet is accepted: the next one follows, or the notice is awaited.
  packet_accepted : (rate : Rate) (size number : ℕ) → Fits plan image (Sending rate size number)
      → frame_move plan (length image) (Sending rate size number) packet_command (packet_reply number accepted).payload
      ≡ accepted_move (length image) rate size number
  packet_accepted rate size number f =
      let s = sending_facts plan (length image) rate size number f.staged in
      packet_answered plan (length image) rate size number accepted (omega (arith, s.this.most, s.cut.carried))
      ∙ ack_accepted _ _ _

  pub packet_step : (rate : Rate) (size number : ℕ) → number < count_of (length image) size → Fits plan image (Sending rate size number)
      → GoodStep image (frame (packet_reply number accepted)) g
      → Leads plan image (message_of plan image (Sending rate size (number + 1)))
      (Sending rate size number) (Sending rate size (number + 1)) g
  packet_step rate size number less f good =
      frame_enters plan image (Sending rate size number) (Sending rate size (number + 1)) _ g f good
      (packet_accepted rate size number f ∙ accepted_before (length image) rate size number less)

  pub last_step : (rate : Rate) (size number : ℕ) → number ≡ count_of (length image) size → Fits plan image (Sending rate size number)
      → GoodStep image (frame (packet_reply number accepted)) g
      → Leads plan image [] (Sending rate size number) (Noticing rate size) g
  last_step rate size number last f good =
      frame_awaits plan image (Sending rate size number) (Noticing rate size) _ g f good
      (packet_accepted rate size number f ∙ accepted_last (length image) rate size number (omega (arith, last)))

  -- The notice has State 0.
  pub notice_step : (rate : Rate) (size : ℕ) → Fits plan image (Noticing rate size) → GoodStep image (frame (notice 0)) g
      → Leads plan image (message_of plan image (Restarting rate size)) (Noticing rate size) (Restarting rate size) g
  notice_step rate size f good =
      frame_enters plan image (Noticing rate size) (Restarting rate size) _ g f good (notice_answered plan (length image) rate size)

  -- The restart is accepted: done.
  pub restart_step : (rate : Rate) (size : ℕ) → Fits plan image (Restarting rate size) → GoodStep image (frame (restart_reply accepted)) g
      → leaves (arrived plan image (Restarting rate size)) g ≡ left (stepped (ended_of (length image)) Done) g.output
  restart_step rate size f good =
      frame_answered plan image (Restarting rate size) (Restarting rate size) _ g f good
      ∙ ap (λ (m : Move). moved (arrived plan image (Restarting rate size)) (wait plan (Restarting rate size) 0 0) m image g.output)
      (restart_answered plan (length image) rate size)

-- ---- the opening

-- An opening that fits comes to its first stage and sends its message.
pub opening_sends : (kind : Kind) (w : Wishes) (image output : List ℕ) (start : Start) → w.start ≡ start
    → fits_file kind (length image) ≡ true → largest_message ≤ length output
    → opening_of (number_of kind) w image output
    ≡ left
    (stepped (arrived (plan_of kind w) image (first_stage start w.first))
    (Sent (length (message_of (plan_of kind w) image (first_stage start w.first)))))
    (over (message_of (plan_of kind w) image (first_stage start w.first)) output)
unfolding opening_of plan_next
opening_sends kind w image output start e fits room =
    let plan = plan_of kind w in
    rw (kind_of_number kind, fits)
    (ap (λ (x : Start). enters (ended_of (length image)) plan (first_stage x w.first) image output) e
    ∙ enters_room (ended_of (length image)) plan (first_stage start w.first) image output (first_fits plan (length image) start e) room)
