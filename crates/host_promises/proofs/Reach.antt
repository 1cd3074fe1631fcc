-- H3, the other way: every session that passes the test of arises is reached by an opening and a run.
use Rattle.std.specs.Prelude.{ℕ, zero, suc, ◌+◌, ◌-◌, ◌≤◌, ◌<◌, true, cond, List, [], ◌∷◌, ◌++◌, ◌≡◌, refl, eqb, length, replicate}
use Rattle.std.proofs.lemmas.Bool.{false≢true}
use Rattle.std.proofs.Common.{sym, ◌∙◌, add-one, arith}
use Rattle.std.proofs.Math.Path.{ap}
use Rattle.std.proofs.Math.Nat.{zero-add, min-eq_left}
use borrow.Author.Tests.{lt-ltb, le-ltb}
use Rattle.std.proofs.lemmas.List.{length-replicate}
use Rattle.std.proofs.Math.Seq.{take-length}
use Rattle.octets.specs.Octets.{Bytes, spelled}
use Rattle.octets.proofs.Lists.{bytes_append, bytes_replicate, bytes_spelled}
use Rattle.kinds.specs.Kinds.{kind_of, number_of, fits_file}
use Rattle.kinds.specs.KindsLaws.{file_some, kind_spelled}
use Rattle.kinds.specs.declared.Kind.{Kind}
use Rattle.refusals.specs.Refusals.{module_refused}
use Rattle.pieces.specs.Pieces.{count_of}
use Rattle.pieces.specs.PiecesLaws.{count_some}
use Rattle.wire.specs.Frame.{Frame, wire_of}
use Rattle.wire.specs.WriteLaws.{wire_most}
use Rattle.commands.specs.Commands.{accepted, wrong_first, rate_reply, parameters_reply, packet_reply, notice, restart_frame}
use Rattle.host_model.specs.Stages.{number_of_rate, text_fits, stage_fits}
use Rattle.host_model.specs.Waits.{most_repeats, limit_of, wait, first_stage}
use Rattle.host_model.specs.Nexts.{resend_next, time_next}
use Rattle.host.specs.Session.{session, arises}
use Rattle.host_model.proofs.StagesLaws.{rate_facts, facts_rate, SentOf, sent_facts, facts_sent, sending_facts, facts_sending}
use Rattle.host_model.proofs.StagesLaws.{stage_small}
use Rattle.host_model.proofs.WaitsLaws.{WaitOf}
use Rattle.commands.specs.Commands.{start_answer}
use Rattle.host_model.specs.Messages.{message_of}
use Rattle.host_model.specs.Answers.{lower_move, piece_size}
use Rattle.host_model.proofs.AnswersLaws.{ack_first}
use Rattle.host.specs.Step.{Left, Wishes, waiting_of, ended_of, time_step, opening_of}
use Rattle.host_promises.specs.Runs.{Given, leaves, after_of}
use Rattle.host_promises.specs.Promises.{largest_message, line, frame, GoodStep, RealEvent, Real, AllReal, Reached, ArisesReached}
use Rattle.host_model.proofs.WaitsLaws.{first_fits, limit_within}
use Rattle.host_promises.specs.Promises.{Awaits, restart, parameters}
use Rattle.host_promises.proofs.Arises.{arises_wait, wait_arises}
use Rattle.host_promises.proofs.Turns.{every_reason}
use Rattle.host_promises.proofs.Forward.{message_short, rate_answered, event_taken, arrived, Fits, fits_wait, Leads, frame_enters}
use Rattle.host.specs.StepLaws.{sends_fits}
use Rattle.host_promises.proofs.Forward.{text_step, rate_step, parameters_step, packet_step, last_step, notice_step, opening_sends}
use Rattle.host_model.specs.declared.plan.Rate.{Rate}
use Rattle.host_model.specs.declared.plan.Rate.TheVariants.{R9600, R19200, R38400, R57600, R115200}
use Rattle.host_model.specs.declared.plan.Start.{Start}
use Rattle.host_model.specs.declared.plan.Start.TheVariants.{WithText, AtOnce}
use Rattle.host_model.specs.declared.plan.Same.TheVariants.{GoOn}
use Rattle.host_model.specs.declared.plan.Plan.{Plan}
use Rattle.host_model.specs.declared.plan.Stage.{Stage}
use Rattle.host_model.specs.declared.plan.Stage.TheVariants.{Text, Asking, Declaring, Sending, Noticing, Restarting}
use Rattle.host_model.specs.declared.waits.Wait.{Wait}
use Rattle.host_model.specs.declared.waits.Phase.{Phase}
use Rattle.host_model.specs.declared.waits.Phase.TheVariants.{Ended, EndedAt, Waiting}
use Rattle.host.specs.declared.session.Session.{Session}
use Rattle.host_model.specs.declared.events.Event.{Event}
use Rattle.host_model.specs.declared.events.Event.TheVariants.{Line, Elapsed}
use Rattle.host_model.specs.declared.events.Event.TheVariants as event
use Rattle.host_model.specs.declared.answers.Move.TheVariants.{Enter}

-- What holds at 0 and goes from each number below a total to the next holds up to the total.
up_to : (P : ℕ → Type 0) (total : ℕ) → P 0 → ((k : ℕ) → k < total → P k → P (k + 1)) → (k : ℕ) → k ≤ total → P k
up_to P total first next zero h = first
up_to P total first next (suc k) h =
    rw (add-one k) at (next k (omega (arith, h)) (up_to P total first next k (omega (arith, h))))

-- ---- one step more

-- A run behind another.
after_append : (s : Session) (gs hs : List Given) → after_of s (gs ++ hs) ≡ after_of (after_of s gs) hs
unfolding after_of
after_append s [] hs = refl
after_append s (g ∷ gs) hs = after_append (leaves s g).session gs hs

-- A real step behind a real run.
all_real_next : (gs : List Given) (g : Given) → AllReal gs → Real g → AllReal (gs ++ (g ∷ []))
all_real_next [] g h r = (r, tt)
all_real_next (x ∷ gs) g h r = (h.0, all_real_next gs g h.1 r)

-- What a step from a session that is reached leads to is reached.
reach_next : (s t : Session) (g : Given) → Real g → (leaves s g).session ≡ t → Reached s → Reached t
unfolding after_of
reach_next s t g r e h =
    record {
      number = h.number;
      number_real = h.number_real;
      wishes = h.wishes;
      image = h.image;
      image_real = h.image_real;
      output = h.output;
      output_real = h.output_real;
      steps = h.steps ++ (g ∷ []);
      steps_real = all_real_next h.steps g h.steps_real r;
      leads = after_append (opening_of h.number h.wishes h.image h.output).session h.steps (g ∷ []) ∙ rw h.leads e;
    }

-- Every step is lent an image of zeros and an output of 2,072 zeros.
abbrev zeros : ℕ → List ℕ
zeros n = replicate n 0

zeros_long : (n : ℕ) → length (zeros n) ≡ n
zeros_long n = length-replicate n 0

zeros_real : (n : ℕ) → Bytes (zeros n)
zeros_real n = bytes_replicate n 0 (omega arith)

abbrev room : List ℕ
room = zeros largest_message

abbrev step_given : List ℕ → Event → List ℕ → Given
step_given image e bytes = record { event = e; bytes = bytes; image = image; output = room }

-- ---- the rates

-- The rate one higher, whose refusal leads to this one.
record Higher (rate : Rate) : Type 0 where
  higher : Rate
  above : number_of_rate higher ≡ number_of_rate rate + 1
  lowers : lower_move higher ≡ Enter (Asking rate)

-- Every rate but the highest has one.
higher_than : (rate : Rate) → number_of_rate rate < 5 → Higher rate
higher_than R9600 h = record { higher = R19200; above = refl; lowers = refl }
higher_than R19200 h = record { higher = R38400; above = refl; lowers = refl }
higher_than R38400 h = record { higher = R57600; above = refl; lowers = refl }
higher_than R57600 h = record { higher = R115200; above = refl; lowers = refl }
higher_than R115200 h = absurd (omega (arith, h))

-- No rate has a number over 5.
rate_most : (rate : Rate) → number_of_rate rate ≤ 5
rate_most R9600 = omega arith
rate_most R19200 = omega arith
rate_most R38400 = omega arith
rate_most R57600 = omega arith
rate_most R115200 = omega arith

-- The rate of a number, so that two rates of one number are the same.
abbrev rate_at : ℕ → Rate
rate_at n = cond (eqb n 1) R9600 (cond (eqb n 2) R19200 (cond (eqb n 3) R38400 (cond (eqb n 4) R57600 R115200)))

rate_at_law : (rate : Rate) → rate_at (number_of_rate rate) ≡ rate
rate_at_law R9600 = refl
rate_at_law R19200 = refl
rate_at_law R38400 = refl
rate_at_law R57600 = refl
rate_at_law R115200 = refl

same_rate : (a b : Rate) → number_of_rate a ≡ number_of_rate b → a ≡ b
same_rate a b e = sym (rate_at_law a) ∙ ap rate_at e ∙ rate_at_law b

-- ---- a session that loads

-- An image of bytes and the plan of a session that loads it.
module _ (plan : Plan) (image : List ℕ) (real : Bytes image) (fits : fits_file plan.kind (length image) ≡ true) where
  -- Such a step is real.
  step_real : (e : Event) (bytes : List ℕ) → RealEvent e → Bytes bytes → Real (step_given image e bytes)
  step_real e bytes r b = record { event_real = r; bytes_real = b; image_real = real; output_real = zeros_real largest_message }

  -- What is given where a frame is heard, or a line.
  abbrev frame_given : Frame → Given
  frame_given f = step_given image (event.Frame f.command (length f.payload)) f.payload

  frame_good : (f : Frame) → GoodStep image (frame f) (frame_given f)
  frame_good f =
      record {
        hears = record { count = length f.payload; event_is = refl; payload_is = take-length f.payload };
        image_is = refl;
        room = omega (arith, zeros_long largest_message);
      }

  abbrev line_given : List ℕ → Given
  line_given l = step_given image (Line (length l)) l

  line_good : (l : List ℕ) → GoodStep image (line l) (line_given l)
  line_good l =
      record {
        hears = record { count = length l; event_is = refl; line_is = take-length l };
        image_is = refl;
        room = omega (arith, zeros_long largest_message);
      }

  -- A stage that is reached.
  abbrev At : Stage → Type 0
  At stage = Reached (arrived plan image stage)

  -- A frame that leads to a stage reaches it.
  reach_frame : (message : List ℕ) (stage next : Stage) (f : Frame) → f.command < 256 → Bytes f.payload
      → Leads plan image message stage next (frame_given f) → At stage → At next
  reach_frame message stage next f byte b l h =
      reach_next (arrived plan image stage) (arrived plan image next) (frame_given f)
      (step_real (event.Frame f.command (length f.payload)) f.payload byte b)
      l.session_is h

  -- A stage that fits the plan.
  stage_fits_law : (stage : Stage) → stage_fits plan (length image) stage ≡ true → Fits plan image stage
  stage_fits_law stage h = record { fitting = fits; staged = h }

  -- ---- the opening and the rates

  -- The wishes of the plan: opened with them, the session comes to its first stage.
  abbrev wishes_of : Wishes
  wishes_of = record { first = plan.first; wish = plan.wish; start = plan.start; same = plan.same }

  reach_first : (start : Start) → plan.start ≡ start → At (first_stage start plan.first)
  unfolding after_of
  reach_first start e =
      record {
        number = number_of plan.kind;
        number_real = (kind_spelled plan.kind).0;
        wishes = wishes_of;
        image = image;
        image_real = real;
        output = room;
        output_real = zeros_real largest_message;
        steps = [];
        steps_real = tt;
        leads =
            ap (λ (l : Left). l.session)
            (opening_sends plan.kind wishes_of image room start e fits (omega (arith, zeros_long largest_message)));
      }

  -- The first rate is reached at once, or by the answer to the start text.
  reach_asked : (start : Start) → plan.start ≡ start → At (Asking plan.first)
  reach_asked AtOnce e = reach_first AtOnce e
  reach_asked WithText e =
      let f : Fits plan image Text = stage_fits_law Text (first_fits plan (length image) WithText e) in
      reach_next (arrived plan image Text) (arrived plan image (Asking plan.first)) (line_given start_answer)
      (step_real (Line (length start_answer)) start_answer tt answer_bytes)
      (text_step plan image (line_given start_answer) f (line_good start_answer)).session_is (reach_first WithText e)
    where
      answer_bytes : Bytes start_answer
      answer_bytes = omega arith

  -- Every rate is reached, refusal by refusal, and then accepted.
  reach_asking : (k : ℕ) (rate : Rate) → number_of_rate rate + k ≡ number_of_rate plan.first → At (Asking rate)
  reach_asking zero rate e =
      rw (same_rate rate plan.first (omega (arith, e))) (reach_asked plan.start refl)
  reach_asking (suc k) rate e =
      let up = higher_than rate (omega (arith, e, rate_most plan.first)) in
      let f : Fits plan image (Asking up.higher) =
      stage_fits_law (Asking up.higher) (facts_rate plan.first up.higher (omega (arith, e, up.above))) in
      let x = rate_reply (number_of_rate up.higher) wrong_first in
      let b : Bytes x.payload = (omega (arith, rate_most up.higher), (omega arith, tt)) in
      reach_frame _ (Asking up.higher) (Asking rate) x (omega arith) b
      (frame_enters plan image (Asking up.higher) (Asking rate) x (frame_given x) f (frame_good x)
      (rate_answered plan (length image) up.higher wrong_first ∙ ack_first _ _ _ ∙ up.lowers))
      (reach_asking k up.higher (omega (arith, e, up.above)))

  reach_rate : (rate : Rate) → number_of_rate rate ≤ number_of_rate plan.first → At (Asking rate)
  reach_rate rate h = reach_asking (number_of_rate plan.first - number_of_rate rate) rate (omega (arith, h))

  reach_declaring : (rate : Rate) → number_of_rate rate ≤ number_of_rate plan.first → At (Declaring rate)
  reach_declaring rate h =
      let f : Fits plan image (Asking rate) = stage_fits_law (Asking rate) (facts_rate plan.first rate h) in
      let x = rate_reply (number_of_rate rate) accepted in
      let b : Bytes x.payload = (omega (arith, rate_most rate), (omega arith, tt)) in
      reach_frame _ (Asking rate) (Declaring rate) x (omega arith) b (rate_step plan image (frame_given x) rate f (frame_good x))
      (reach_rate rate h)

  -- A number of two bytes with an ACK behind it is bytes.
  reply_bytes : (number ack : ℕ) → ack < 256 → Bytes (spelled 2 number ++ (ack ∷ []))
  reply_bytes number ack h = bytes_append (spelled 2 number) (ack ∷ []) (bytes_spelled 2 number) (h, tt)

  -- The module refuses the parameters: the load ends at that rate.
  reach_failed : (rate : Rate) → number_of_rate rate ≤ number_of_rate plan.first
      → Reached (session (length image) (EndedAt plan.kind rate))
  reach_failed rate h =
      let s = arrived plan image (Declaring rate) in
      let w = wait plan (Declaring rate) 0 0 in
      let f : Fits plan image (Declaring rate) = stage_fits_law (Declaring rate) (facts_rate plan.first rate h) in
      let x = parameters_reply 0 wrong_first in
      let b : Bytes x.payload = reply_bytes 0 wrong_first (omega arith) in
      let waits : Awaits s w (frame_given x) =
      record {
        phase_is = refl;
        sound = wait_arises (length image) w (fits_wait plan image (Declaring rate) 0 0 f (omega arith) (omega arith));
        same_length = refl;
        all_bytes_law = b;
      } in
      let left_is =
      (every_reason s w (frame_given x) waits).sent (wire_of restart_frame) _ _
      (restart module_refused wrong_first (parameters rate 0 refl (omega arith) (omega arith) (frame_good x).hears refl) refl refl refl)
      (omega (arith, wire_most restart_frame, zeros_long largest_message)) in
      reach_next s (session (length image) (EndedAt plan.kind rate)) (frame_given x)
      (step_real (event.Frame x.command (length x.payload)) x.payload (omega arith) b)
      (ap (λ (l : Left). l.session) left_is) (reach_declaring rate h)

  -- ---- the packets

  -- A size that fits, and its rate.
  module _ (rate : Rate) (size : ℕ) (s : SentOf plan (length image) rate size) where
    number_fits : (number : ℕ) → 1 ≤ number → number ≤ count_of (length image) size → Fits plan image (Sending rate size number)
    number_fits number one most =
        stage_fits_law (Sending rate size number)
        (facts_sending plan (length image) rate size number (record {
          asked = s.asked;
          cut = s.cut;
          this = record { one = one; most = most };
        }))

    -- With MaxPk the size itself, packet 1 is sent.
    reach_packet_1 : At (Sending rate size 1)
    reach_packet_1 =
        let f : Fits plan image (Declaring rate) = stage_fits_law (Declaring rate) (facts_rate plan.first rate s.asked) in
        let x = parameters_reply size accepted in
        let same : piece_size size plan.wish ≡ size =
        rw (min-eq_left s.cut.small) (min-eq_left s.cut.wished) in
        reach_frame _ (Declaring rate) (Sending rate size 1) x (omega arith) (reply_bytes size accepted (omega arith))
        (parameters_step plan image (frame_given x) rate size size (omega (arith, s.cut.small)) same
        (record { some = s.cut.some; few = s.cut.carried }) f (frame_good x))
        (reach_declaring rate s.asked)

    -- Every packet is reached, acknowledgement by acknowledgement.
    reach_behind : (number : ℕ) → 1 ≤ number → number < count_of (length image) size → At (Sending rate size number)
        → At (Sending rate size (number + 1))
    reach_behind number one less h =
        let x = packet_reply number accepted in
        let f : Fits plan image (Sending rate size number) = number_fits number one (omega (arith, less)) in
        reach_frame _ (Sending rate size number) (Sending rate size (number + 1)) x (omega arith)
        (reply_bytes number accepted (omega arith)) (packet_step plan image (frame_given x) rate size number less f (frame_good x)) h

    reach_number : (number : ℕ) → 1 ≤ number → number ≤ count_of (length image) size → At (Sending rate size number)
    reach_number number one most =
        let same : number - 1 + 1 ≡ number = omega (arith, one) in
        rw same at
        (up_to (λ (k : ℕ). At (Sending rate size (k + 1))) (number - 1) reach_packet_1
        (λ k less. reach_behind (k + 1) (omega arith) (omega (arith, less, most))) (number - 1) (omega arith))

    -- Behind the last packet the notice is awaited, behind the notice the restart.
    reach_noticing : At (Noticing rate size)
    reach_noticing =
        let total : ℕ = count_of (length image) size in
        let one : 1 ≤ total = count_some (length image) size (file_some plan.kind (length image) fits) s.cut.some in
        let x = packet_reply total accepted in
        reach_frame _ (Sending rate size total) (Noticing rate size) x (omega arith) (reply_bytes total accepted (omega arith))
        (last_step plan image (frame_given x) rate size total refl (number_fits total one (omega arith)) (frame_good x))
        (reach_number total one (omega arith))

    reach_restarting : At (Restarting rate size)
    reach_restarting =
        let f : Fits plan image (Noticing rate size) = stage_fits_law (Noticing rate size) (facts_sent plan (length image) rate size s) in
        let x = notice 0 in
        reach_frame _ (Noticing rate size) (Restarting rate size) x (omega arith) (omega arith, tt)
        (notice_step plan image (frame_given x) rate size f (frame_good x)) reach_noticing

  -- Every stage that fits.
  reach_stage : (stage : Stage) → stage_fits plan (length image) stage ≡ true → At stage
  reach_stage Text h = reach_text plan.start refl h
    where
      reach_text : (start : Start) → plan.start ≡ start → text_fits start ≡ true → At Text
      reach_text WithText e t = reach_first WithText e
      reach_text AtOnce e t = absurd (false≢true t)
  reach_stage (Asking rate) h = reach_rate rate (rate_facts plan.first rate h)
  reach_stage (Declaring rate) h = reach_declaring rate (rate_facts plan.first rate h)
  reach_stage (Sending rate size number) h =
      let s = sending_facts plan (length image) rate size number h in
      reach_number rate size (record { asked = s.asked; cut = s.cut }) number s.this.one s.this.most
  reach_stage (Noticing rate size) h = reach_noticing rate size (sent_facts plan (length image) rate size h)
  reach_stage (Restarting rate size) h = reach_restarting rate size (sent_facts plan (length image) rate size h)

  -- ---- repeats and time

  module _ (stage : Stage) (staged : stage_fits plan (length image) stage ≡ true) where
    -- What a step of time leaves, where nothing was waited yet.
    time_taken : (repeats ms : ℕ) → repeats ≤ most_repeats
        → leaves (waiting_of (length image) plan stage 0 repeats) (step_given image (Elapsed ms) [])
        ≡ time_step (waiting_of (length image) plan stage 0 repeats) (wait plan stage 0 repeats) ms image room
    time_taken repeats ms few =
        event_taken image (wait plan stage 0 repeats) (step_given image (Elapsed ms) [])
        (fits_wait plan image stage 0 repeats (stage_fits_law stage staged) (limit_within stage).0 few) refl

    -- Time that reaches the limit resends, less is counted.
    late_resends : (repeats : ℕ) → repeats < most_repeats
        → (leaves (waiting_of (length image) plan stage 0 repeats) (step_given image (Elapsed (limit_of stage)) [])).session
        ≡ waiting_of (length image) plan stage 0 (repeats + 1)
    unfolding time_next resend_next
    late_resends repeats few =
        let short = message_short plan image stage (stage_small plan (length image) stage staged) in
        ap (λ (l : Left). l.session) (time_taken repeats (limit_of stage) (omega (arith, few)))
        ∙ rw (le-ltb (limit_of stage) (limit_of stage - 0) (omega arith), lt-ltb repeats most_repeats few)
        (ap (λ (l : Left). l.session) (sends_fits _ _ (message_of plan image stage) room (omega (arith, short, zeros_long largest_message))))

    early_waits : (repeats ms : ℕ) → repeats ≤ most_repeats → ms < limit_of stage
        → (leaves (waiting_of (length image) plan stage 0 repeats) (step_given image (Elapsed ms) [])).session
        ≡ waiting_of (length image) plan stage ms repeats
    unfolding time_next
    early_waits repeats ms few less =
        ap (λ (l : Left). l.session) (time_taken repeats ms few)
        ∙ rw (lt-ltb ms (limit_of stage - 0) (omega (arith, less)), zero-add ms)

    -- Every number of repeats, and then every time.
    reach_repeats : (repeats : ℕ) → repeats ≤ most_repeats → Reached (waiting_of (length image) plan stage 0 repeats)
    reach_repeats =
        up_to (λ (r : ℕ). Reached (waiting_of (length image) plan stage 0 r)) most_repeats (reach_stage stage staged)
        (λ r less. reach_next (waiting_of (length image) plan stage 0 r) (waiting_of (length image) plan stage 0 (r + 1)) _
        (step_real (Elapsed (limit_of stage)) [] (omega (arith, (limit_within stage).1)) tt) (late_resends r less))

    reach_waited : (waited repeats : ℕ) → waited < limit_of stage → repeats ≤ most_repeats
        → Reached (waiting_of (length image) plan stage waited repeats)
    reach_waited waited repeats short few =
        reach_next (waiting_of (length image) plan stage 0 repeats) (waiting_of (length image) plan stage waited repeats) _
        (step_real (Elapsed waited) [] (omega (arith, short, (limit_within stage).1)) tt) (early_waits repeats waited few short)
        (reach_repeats repeats few)

-- ---- every session

-- An ended one: an opening with a type that is not known.
reach_ended : (n : ℕ) → Reached (ended_of n)
unfolding after_of opening_of kind_of
reach_ended n =
    record {
      number = 0;
      number_real = omega arith;
      wishes = record { first = R9600; wish = 0; start = AtOnce; same = GoOn };
      image = zeros n;
      image_real = zeros_real n;
      output = [];
      output_real = tt;
      steps = [];
      steps_real = tt;
      leads = ap ended_of (zeros_long n);
    }

-- One that waits: over an image of zeros.
reach_waiting : (n : ℕ) (w : Wait) → arises (session n (Waiting w)) ≡ true → Reached (session n (Waiting w))
reach_waiting n w h = rw (zeros_long n) at (go (arises_wait (length (zeros n)) w (rw (zeros_long n) h)))
  where
    go : WaitOf (length (zeros n)) w → Reached (session (length (zeros n)) (Waiting w))
    go f =
        reach_waited w.plan (zeros n) (zeros_real n) f.fitting w.stage f.staged w.waited w.repeats f.short f.few

-- One that failed: its parameters were refused at the agreed rate.
reach_failure : (n : ℕ) (kind : Kind) (rate : Rate) → arises (session n (EndedAt kind rate)) ≡ true → Reached (session n (EndedAt kind rate))
unfolding arises
reach_failure n kind rate h =
    rw (zeros_long n)
    at (reach_failed (record { kind = kind; first = rate; wish = 0; start = AtOnce; same = GoOn }) (zeros n) (zeros_real n)
    (rw (zeros_long n) h) rate (omega arith))

-- One in any phase.
reach_phase : (n : ℕ) (phase : Phase) → arises (session n phase) ≡ true → Reached (session n phase)
reach_phase n Ended h = reach_ended n
reach_phase n (EndedAt kind rate) h = reach_failure n kind rate h
reach_phase n (Waiting w) h = reach_waiting n w h

pub arises_reached : ArisesReached
arises_reached s h = reach_phase s.image s.phase h
