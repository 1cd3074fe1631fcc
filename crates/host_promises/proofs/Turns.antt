-- H1 and H2: every step of a waiting host is one of the turns, and each turn with a reason comes where its reason holds.
use Rattle.refusals.specs.declared.Refusal.{Refusal}
use Prim.Native.Nat.{ℕ, zero, suc, ◌+◌, ◌^◌, ◌≤◌, ◌<◌}
use Rattle.std.specs.Prelude.{true, ◌&&◌, List, [], ◌∷◌, ◌++◌, ◌≡◌, eqb, ltb, length, take, get_or}
use Rattle.std.proofs.Math.Path.{refl, ap}
use Rattle.std.proofs.Common.{sym, ap₂, ◌∙◌, arith, take_at}
use Rattle.std.proofs.Math.Decide.{dec_le, dec_lt, ℕ_discrete}
use borrow.Author.Tests.{ltb-true, ltb-false, eqb-true, eqb-false, le-leb, leb-true, leb-false}
use Rattle.std.proofs.Math.Dec.{leb}
use Rattle.octets.specs.Octets.{Bytes, little, spelled, number_at, same_bytes}
use Rattle.octets.proofs.OctetsLaws.{little_spelled, spelled_little, length_spelled, same_true, same_refl}
use Rattle.octets.proofs.PartLaws.{number_short}
use Rattle.octets.proofs.Lists.{bytes_take}
use Rattle.octets.proofs.Choice.{either_way, both}
use Rattle.refusals.specs.Refusals.{no_answer, module_refused}
use Rattle.pieces.specs.Pieces.{count_of}
use Rattle.wire.specs.Frame.{Frame, wire_of}
use Rattle.commands.specs.Commands.{accepted, wrong_first, wrong_second, not_understood, largest_total}
use Rattle.commands.specs.Commands.{rate_reply, parameters_reply, packet_reply, restart_reply, notice, restart_frame}
use Rattle.host_model.specs.Stages.{number_of_rate, stage_fits}
use Rattle.host_model.specs.Views.{failed_phase}
use Rattle.host_model.specs.Waits.{limit_of, most_repeats, phase_arises}
use Rattle.host.specs.Session.{session, stepped, arises}
use Rattle.host_model.proofs.StagesLaws.{sending_facts}
use Rattle.host_model.proofs.WaitsLaws.{WaitOf, wait_facts}
use Rattle.commands.specs.Commands.{start_answer}
use Rattle.host_model.specs.Messages.{message_of}
use Rattle.host_model.specs.Answers.{by_ack, lower_move, rate_move, piece_size, size_move, parameters_move, accepted_move, same_move, packet_move}
use Rattle.host_model.specs.Answers.{notice_move, fitting, where_fitting, frame_move, text_move, line_move}
use Rattle.host_model.proofs.AnswersLaws.{ack_cases, accepted_last, fitting_facts, ack_accepted, ack_first, ack_second, ack_again}
use Rattle.host_model.proofs.AnswersLaws.{rate_asked, rate_none, size_begins, size_stops, parameters_ack}
use Rattle.host_model.proofs.AnswersLaws.{accepted_before, packet_this, packet_none, notice_good, notice_bad, text_same}
use Rattle.host.specs.Step.{left, waiting_of, ended_of, sends, performs, resends, moved, time_step, event_step}
use Rattle.host_model.proofs.NextsLaws.{resend_more, resend_enough, time_short, time_up}
use Rattle.host.specs.StepLaws.{step_phase, sends_fits, sends_short}
use Rattle.host_promises.specs.Runs.{Given, leaves}
use Rattle.host_promises.specs.Promises.{Hears, HearsLine, PacketAccepted, accepts, same, Follows, started, agreed, lowered, declared}
use Rattle.host_promises.specs.Promises.{continued, noticed, Due, late, rate_again, rate_0_again, parameters_again, packet_again}
use Rattle.host_promises.specs.Promises.{packet_0_again, restart_again, RefusedBy, lowest, parameters, packet, packet_0, same_version}
use Rattle.host_promises.specs.Promises.{failure, NoPieces, AllAccepted, Restarted, Awaits, Message, again, onward, restart, Turn}
use Rattle.host_promises.specs.Promises.{no_room_law, gives_up, too_many, awaits, finishes, waits, passed_over, EveryTurn, EveryReason}
use Rattle.host_promises.specs.Promises as promise
use Rattle.host_model.specs.declared.plan.Rate.{Rate}
use Rattle.host_model.specs.declared.plan.Rate.TheVariants.{R9600, R19200, R38400, R57600, R115200}
use Rattle.host_model.specs.declared.plan.Same.{Same}
use Rattle.host_model.specs.declared.plan.Same.TheVariants.{GoOn, Stop}
use Rattle.host_model.specs.declared.plan.Stage.{Stage}
use Rattle.host_model.specs.declared.plan.Stage.TheVariants.{Text, Asking, Declaring, Sending, Noticing, Restarting}
use Rattle.host_model.specs.declared.waits.Wait.{Wait}
use Rattle.host_model.specs.declared.waits.Phase.{Phase}
use Rattle.host_model.specs.declared.waits.Phase.TheVariants.{Waiting}
use Rattle.host.specs.declared.session.Session.{Session}
use Rattle.host_model.specs.declared.events.Event.{Event}
use Rattle.host_model.specs.declared.events.Event.TheVariants.{Line, Elapsed}
use Rattle.host_model.specs.declared.events.Event.TheVariants as event
use Rattle.host_model.specs.Events.{Answer}
use Rattle.host_model.specs.declared.events.Answer.TheVariants.{Nothing, Sent, Refused, Failed}
use Rattle.host_model.specs.declared.nexts.Next.{Next}
use Rattle.host_model.specs.declared.answers.Move.{Move}
use Rattle.host_model.specs.declared.answers.Move.TheVariants.{Stay, Enter, Await, Resend, Refuse, TooMany, Finish}

-- ---- payloads of one, two and three bytes

-- A payload of one byte, and one of two, are their bytes.
one_byte : (payload : List ℕ) → length payload ≡ 1 → payload ≡ get_or payload 0 0 ∷ []
one_byte [] h = absurd (omega arith)
one_byte (a ∷ []) h = refl
one_byte (a ∷ b ∷ rest) h = absurd (omega arith)

two_bytes : (payload : List ℕ) → length payload ≡ 2 → payload ≡ get_or payload 0 0 ∷ get_or payload 1 0 ∷ []
two_bytes [] h = absurd (omega arith)
two_bytes (a ∷ []) h = absurd (omega arith)
two_bytes (a ∷ b ∷ []) h = refl
two_bytes (a ∷ b ∷ c ∷ rest) h = absurd (omega arith)

-- A payload of three bytes is the number that the first two spell, and the third.
three_bytes : (payload : List ℕ) → Bytes payload → length payload ≡ 3
    → payload ≡ spelled 2 (number_at 2 payload 0) ++ (get_or payload 2 0 ∷ [])
unfolding number_at
three_bytes [] bytes h = absurd (omega arith)
three_bytes (a ∷ []) bytes h = absurd (omega arith)
three_bytes (a ∷ b ∷ []) bytes h = absurd (omega arith)
three_bytes (a ∷ b ∷ c ∷ []) bytes h =
    ap (λ (l : List ℕ). l ++ (c ∷ [])) (sym (spelled_little (a ∷ b ∷ []) (bytes.0, (bytes.1.0, tt))))
three_bytes (a ∷ b ∷ c ∷ d ∷ rest) bytes h = absurd (omega arith)

-- A number below 65,536 with a byte behind it is read as it was spelled.
number_read : (x ack : ℕ) → x < 256 ^ 2 → number_at 2 (spelled 2 x ++ (ack ∷ [])) 0 ≡ x
unfolding number_at
number_read x ack h = ap little (take_at (spelled 2 x) (ack ∷ []) 2 (length_spelled 2 x)) ∙ little_spelled 2 x h

-- ---- where an answer leads, and why

-- The reason for a move: none for passing over.
abbrev Reason : Wait → Given → Move → Type 0
Reason w g Stay = Unit
Reason w g (Enter next) = Follows w.plan (length g.image) g w.stage next
Reason w g (Await next) = (rate : Rate) × (size : ℕ) × AllAccepted w g rate size × (next ≡ Noticing rate size)
Reason w g Resend = Due w g
Reason w g (Refuse refusal passed) = RefusedBy w g refusal passed
Reason w g TooMany = NoPieces w g
Reason w g Finish = Restarted w g

-- What is heard, said of an equal frame.
hears_same : {g : Given} (f e : Frame) → f ≡ e → Hears g f → Hears g e
hears_same f e p h = rw p at h

module _ (w : Wait) (g : Given) where
  -- A rate refused leads one lower, or gives up.
  lower_reason : (rate : Rate) → w.stage ≡ Asking rate → Hears g (rate_reply (number_of_rate rate) wrong_first)
      → Reason w g (lower_move rate)
  lower_reason R9600 e h = lowest e h refl refl
  lower_reason R19200 e h = lowered R19200 R9600 e h refl refl
  lower_reason R38400 e h = lowered R38400 R19200 e h refl refl
  lower_reason R57600 e h = lowered R57600 R38400 e h refl refl
  lower_reason R115200 e h = lowered R115200 R57600 e h refl refl

  -- An answer to 0x01.
  rate_reason : (asked : Rate) (rate ack : ℕ) → w.stage ≡ Asking asked → Hears g (rate_reply rate ack)
      → Reason w g (rate_move asked rate ack)
  unfolding rate_move
  rate_reason asked rate ack e h =
      let this : (r a : ℕ) → rate ≡ r → ack ≡ a → Hears g (rate_reply r a) =
      λ r a p q. hears_same (rate_reply rate ack) (rate_reply r a) (ap₂ rate_reply p q) h in
      either_way (Reason w g) (eqb rate (number_of_rate asked))
      (λ t.
      let rate_is = eqb-true rate (number_of_rate asked) t in
      ack_cases (Reason w g) ack (λ a. agreed asked e (this (number_of_rate asked) accepted rate_is a) refl)
      (λ a. lower_reason asked e (this (number_of_rate asked) wrong_first rate_is a)) (λ a. tt)
      (λ a. rate_again asked e (this (number_of_rate asked) not_understood rate_is a)) tt)
      (λ _. either_way (Reason w g) (eqb rate 0)
      (λ z.
      ack_cases (Reason w g) ack (λ a. tt) (λ a. tt) (λ a. tt)
      (λ a. rate_0_again asked e (this 0 not_understood (eqb-true rate 0 z) a)) tt)
      (λ _. tt))

  -- An answer to 0x02 that is accepted, by the piece size.
  size_reason : (rate : Rate) (most : ℕ) → w.stage ≡ Declaring rate → most < 256 ^ 2 → Hears g (parameters_reply most accepted)
      → Reason w g (size_move rate (length g.image) (piece_size most w.plan.wish))
  unfolding size_move
  size_reason rate most e short h =
      let size : ℕ = piece_size most w.plan.wish in
      let total : ℕ = count_of (length g.image) size in
      either_way (Reason w g) (leb 1 size && leb total largest_total)
      (λ t.
      let each = both (leb 1 size) (leb total largest_total) t in
      declared rate most e short h (leb-true 1 size each.0) (leb-true total largest_total each.1) refl)
      (λ t.
      record {
        rate = rate;
        most = most;
        stage_is = e;
        most_fits = short;
        hears = h;
        none = λ some. leb-false total largest_total (rw (le-leb 1 size some) at t);
      })

  -- An answer to 0x02.
  parameters_reason : (rate : Rate) (most ack : ℕ) → w.stage ≡ Declaring rate → most < 256 ^ 2 → Hears g (parameters_reply most ack)
      → Reason w g (parameters_move w.plan (length g.image) rate most ack)
  unfolding parameters_move
  parameters_reason rate most ack e short h =
      let this : (a : ℕ) → ack ≡ a → Hears g (parameters_reply most a) =
      λ a q. hears_same (parameters_reply most ack) (parameters_reply most a) (ap (parameters_reply most) q) h in
      ack_cases (Reason w g) ack (λ a. size_reason rate most e short (this accepted a))
      (λ a. parameters rate most e (omega arith) (omega arith) (this wrong_first a) refl)
      (λ a. parameters rate most e (omega arith) (omega arith) (this wrong_second a) refl)
      (λ a. parameters_again rate most e (this not_understood a)) tt

  -- A packet that is accepted: the next is sent, or the notice awaited.
  accepted_reason : (rate : Rate) (size number : ℕ) → w.stage ≡ Sending rate size number → number ≤ count_of (length g.image) size
      → PacketAccepted w.plan number g → Reason w g (accepted_move (length g.image) rate size number)
  unfolding accepted_move
  accepted_reason rate size number e within h =
      let total : ℕ = count_of (length g.image) size in
      either_way (Reason w g) (ltb number total)
      (λ t. continued rate size number e (ltb-true number total t) h refl)
      (λ t.
      let last : number ≡ total = omega (arith, within, ltb-false number total t) in
      (rate, size, record { stage_is = e ∙ ap (Sending rate size) last; accepts = rw last at h }, refl))

  -- The same version, as the plan says.
  same_reason : (way : Same) (rate : Rate) (size number : ℕ) → w.plan.same ≡ way → w.stage ≡ Sending rate size number
      → number ≤ count_of (length g.image) size → Hears g (packet_reply number wrong_second)
      → Reason w g (same_move way (accepted_move (length g.image) rate size number))
  same_reason GoOn rate size number p e within h = accepted_reason rate size number e within (same p h)
  same_reason Stop rate size number p e within h = same_version rate size number e p h refl refl

  -- An answer to 0x05.
  packet_reason : (rate : Rate) (size number given ack : ℕ) → w.stage ≡ Sending rate size number
      → number ≤ count_of (length g.image) size → Hears g (packet_reply given ack)
      → Reason w g (packet_move w.plan (length g.image) rate size number given ack)
  unfolding packet_move
  packet_reason rate size number given ack e within h =
      let this : (k a : ℕ) → given ≡ k → ack ≡ a → Hears g (packet_reply k a) =
      λ k a p q. hears_same (packet_reply given ack) (packet_reply k a) (ap₂ packet_reply p q) h in
      either_way (Reason w g) (eqb given number)
      (λ t.
      let number_is = eqb-true given number t in
      ack_cases (Reason w g) ack
      (λ a. accepted_reason rate size number e within (accepts (this number accepted number_is a)))
      (λ a. packet rate size number e (this number wrong_first number_is a) refl refl)
      (λ a. same_reason w.plan.same rate size number refl e within (this number wrong_second number_is a))
      (λ a. packet_again rate size number e (this number not_understood number_is a)) tt)
      (λ _. either_way (Reason w g) (eqb given 0)
      (λ z.
      let zero_is = eqb-true given 0 z in
      ack_cases (Reason w g) ack (λ a. tt) (λ a. packet_0 rate size number e (this 0 wrong_first zero_is a) refl refl) (λ a. tt)
      (λ a. packet_0_again rate size number e (this 0 not_understood zero_is a)) tt)
      (λ _. tt))

  -- The notice.
  notice_reason : (rate : Rate) (size state : ℕ) → w.stage ≡ Noticing rate size → Hears g (notice state)
      → Reason w g (notice_move rate size state)
  unfolding notice_move
  notice_reason rate size state e h =
      either_way (Reason w g) (eqb state 0)
      (λ t. noticed rate size e (hears_same (notice state) (notice 0) (ap notice (eqb-true state 0 t)) h) refl)
      (λ t. failure rate size e (omega (arith, eqb-false state 0 t)) h refl)

  -- An answer to 0x06.
  restart_reason : (rate : Rate) (size ack : ℕ) → w.stage ≡ Restarting rate size → Hears g (restart_reply ack)
      → Reason w g (by_ack ack Finish Stay Stay)
  restart_reason rate size ack e h =
      let this : (a : ℕ) → ack ≡ a → Hears g (restart_reply a) =
      λ a q. hears_same (restart_reply ack) (restart_reply a) (ap restart_reply q) h in
      ack_cases (Reason w g) ack
      (λ a. record { rate = rate; size = size; stage_is = e; hears = this accepted a })
      (λ a. tt) (λ a. tt) (λ a. restart_again rate size e (this not_understood a)) tt

  -- A line of text.
  text_reason : (count : ℕ) → w.stage ≡ Text → g.event ≡ Line count → Reason w g (text_move w.plan.first (take count g.bytes))
  unfolding text_move
  text_reason count e ev =
      either_way (Reason w g) (same_bytes (take count g.bytes) start_answer)
      (λ t. started e (record { count = count; event_is = ev; line_is = same_true (take count g.bytes) start_answer t }) refl)
      (λ _. tt)

  line_reason : (stage : Stage) (count : ℕ) → w.stage ≡ stage → g.event ≡ Line count
      → Reason w g (line_move w.plan stage (take count g.bytes))
  line_reason Text count e ev = text_reason count e ev
  line_reason (Asking rate) count e ev = tt
  line_reason (Declaring rate) count e ev = tt
  line_reason (Sending rate size number) count e ev = tt
  line_reason (Noticing rate size) count e ev = tt
  line_reason (Restarting rate size) count e ev = tt

  -- A frame that fits the stage is the answer that its bytes spell; any other is passed over.
  fitting_reason : (n command count : ℕ) (answer : Frame) (move : Move) → g.event ≡ event.Frame command count
      → (length (take count g.bytes) ≡ n → take count g.bytes ≡ answer.payload) → (Hears g answer → Reason w g move)
      → Reason w g (where_fitting answer.command n command (take count g.bytes) move)
  fitting_reason n command count answer move ev spells reason =
      let payload : List ℕ = take count g.bytes in
      either_way (Reason w g) (fitting answer.command n command (length payload))
      (λ t.
      let f = fitting_facts answer.command n command (length payload) t in
      let command_is : g.event ≡ event.Frame answer.command count = ev ∙ ap (λ (c : ℕ). event.Frame c count) f.same in
      reason (record { count = count; event_is = command_is; payload_is = spells f.long }))
      (λ _. tt)

  -- A frame at each stage.
  frame_reason : (stage : Stage) (command count : ℕ) → w.stage ≡ stage → g.event ≡ event.Frame command count
      → Bytes (take count g.bytes) → stage_fits w.plan (length g.image) stage ≡ true
      → Reason w g (frame_move w.plan (length g.image) stage command (take count g.bytes))
  frame_reason Text command count e ev bytes fits = tt
  frame_reason (Asking rate) command count e ev bytes fits =
      let p : List ℕ = take count g.bytes in
      fitting_reason 2 command count (rate_reply (get_or p 0 0) (get_or p 1 0)) _ ev (two_bytes p)
      (rate_reason rate (get_or p 0 0) (get_or p 1 0) e)
  frame_reason (Declaring rate) command count e ev bytes fits =
      let p : List ℕ = take count g.bytes in
      fitting_reason 3 command count (parameters_reply (number_at 2 p 0) (get_or p 2 0)) _ ev (three_bytes p bytes)
      (parameters_reason rate (number_at 2 p 0) (get_or p 2 0) e (number_short 2 p 0 bytes))
  frame_reason (Sending rate size number) command count e ev bytes fits =
      let p : List ℕ = take count g.bytes in
      fitting_reason 3 command count (packet_reply (number_at 2 p 0) (get_or p 2 0)) _ ev (three_bytes p bytes)
      (packet_reason rate size number (number_at 2 p 0) (get_or p 2 0) e
      (sending_facts w.plan (length g.image) rate size number fits).this.most)
  frame_reason (Noticing rate size) command count e ev bytes fits =
      let p : List ℕ = take count g.bytes in
      fitting_reason 1 command count (notice (get_or p 0 0)) _ ev (one_byte p) (notice_reason rate size (get_or p 0 0) e)
  frame_reason (Restarting rate size) command count e ev bytes fits =
      let p : List ℕ = take count g.bytes in
      fitting_reason 1 command count (restart_reply (get_or p 0 0)) _ ev (one_byte p) (restart_reason rate size (get_or p 0 0) e)

-- ---- a message and its room

-- A message is sent again up to 3 times, then the session ends.
resends_more : (s : Session) (w : Wait) (image output : List ℕ) → w.repeats < most_repeats
    → resends s w image output
    ≡ sends s
    (stepped (waiting_of (length image) w.plan w.stage 0 (w.repeats + 1)) (Sent (length (message_of w.plan image w.stage))))
    (message_of w.plan image w.stage) output
resends_more s w image output h = ap (λ (n : Next). performs s n image output) (resend_more w h)

resends_enough : (s : Session) (w : Wait) (image output : List ℕ) → most_repeats ≤ w.repeats
    → resends s w image output ≡ left (stepped (ended_of (length image)) (Refused no_answer)) output
resends_enough s w image output h = ap (λ (n : Next). performs s n image output) (resend_enough w h)

-- Time that is not up is counted, time that is up resends.
time_waits : (s : Session) (w : Wait) (ms : ℕ) (image output : List ℕ) → w.waited + ms < limit_of w.stage
    → time_step s w ms image output
    ≡ left (stepped (waiting_of (length image) w.plan w.stage (w.waited + ms) w.repeats) Nothing) output
time_waits s w ms image output h = ap (λ (n : Next). performs s n image output) (time_short w ms h)

time_resends : (s : Session) (w : Wait) (ms : ℕ) (image output : List ℕ) → limit_of w.stage ≤ w.waited + ms
    → time_step s w ms image output ≡ resends s w image output
time_resends s w ms image output h = ap (λ (n : Next). performs s n image output) (time_up w ms h)

-- ---- from the reason to the turn

module _ (s : Session) (w : Wait) (g : Given) (told : s.phase ≡ Waiting w) where
  -- A message, sent or not.
  message_turn : (message : List ℕ) (next : Session) (answer : Answer) → Message w g message next answer
      → Turn s w g (sends s (stepped next answer) message g.output)
  message_turn message next answer m = go (dec_le (length message) (length g.output))
    where
      go : Dec (length message ≤ length g.output) → Turn s w g (sends s (stepped next answer) message g.output)
      go (yes h) = promise.sends message next answer m h (sends_fits s (stepped next answer) message g.output h)
      go (no h) =
          let short : length g.output < length message = omega arith in
          no_room_law message next answer m short (sends_short s (stepped next answer) message g.output short)

  -- A message that is due again.
  due_turn : Due w g → Turn s w g (resends s w g.image g.output)
  due_turn due = go (dec_lt w.repeats most_repeats)
    where
      go : Dec (w.repeats < most_repeats) → Turn s w g (resends s w g.image g.output)
      go (yes h) =
          rw (resends_more s w g.image g.output h)
          (message_turn (message_of w.plan g.image w.stage) _ _ (again due h refl refl refl))
      go (no h) =
          let enough : most_repeats ≤ w.repeats = omega arith in
          gives_up due enough (resends_enough s w g.image g.output enough)

  -- Each move with its reason.
  move_turn : (move : Move) → Reason w g move → Turn s w g (moved s w move g.image g.output)
  move_turn Stay reason = passed_over refl
  move_turn (Enter next) reason =
      message_turn (message_of w.plan g.image next) _ _ (onward next reason refl refl refl)
  move_turn (Await _) (rate, size, all, next_is) =
      awaits rate size all
      (ap (λ (n : Stage). left (stepped (waiting_of (length g.image) w.plan n 0 w.repeats) Nothing) g.output) next_is)
  move_turn Resend reason = due_turn reason
  move_turn (Refuse refusal passed) reason =
      message_turn (wire_of restart_frame) _ _
      (restart refusal passed reason refl (ap (λ (p : Phase). session (length g.image) (failed_phase p)) told) refl)
  move_turn TooMany reason = too_many reason refl
  move_turn Finish reason = finishes reason refl

  -- Time.
  time_turn : (ms : ℕ) → g.event ≡ Elapsed ms → Turn s w g (time_step s w ms g.image g.output)
  time_turn ms ev = go (dec_lt (w.waited + ms) (limit_of w.stage))
    where
      go : Dec (w.waited + ms < limit_of w.stage) → Turn s w g (time_step s w ms g.image g.output)
      go (yes h) = waits ms ev h (time_waits s w ms g.image g.output h)
      go (no h) =
          let up : limit_of w.stage ≤ w.waited + ms = omega arith in
          rw (time_resends s w ms g.image g.output up) (due_turn (late ms ev up))

  -- Each event.
  event_turn : (e : Event) → g.event ≡ e → Bytes g.bytes → stage_fits w.plan (length g.image) w.stage ≡ true
      → Turn s w g (event_step s w e g.bytes g.image g.output)
  event_turn (event.Frame command count) ev bytes fits =
      move_turn (frame_move w.plan (length g.image) w.stage command (take count g.bytes))
      (frame_reason w g w.stage command count refl ev (bytes_take count g.bytes bytes) fits)
  event_turn (Line count) ev bytes fits =
      move_turn (line_move w.plan w.stage (take count g.bytes)) (line_reason w g w.stage count refl ev)
  event_turn (Elapsed ms) ev bytes fits = time_turn ms ev

-- ---- from the answer to the move

-- The move for a refused rate, by the number of the rate.
abbrev lower_of : ℕ → Move
lower_of zero = Stay
lower_of (suc zero) = Refuse module_refused wrong_first
lower_of (suc (suc zero)) = Enter (Asking R9600)
lower_of (suc (suc (suc zero))) = Enter (Asking R19200)
lower_of (suc (suc (suc (suc zero)))) = Enter (Asking R38400)
lower_of (suc (suc (suc (suc (suc n))))) = Enter (Asking R57600)

lower_number : (rate : Rate) → lower_move rate ≡ lower_of (number_of_rate rate)
lower_number R9600 = refl
lower_number R19200 = refl
lower_number R38400 = refl
lower_number R57600 = refl
lower_number R115200 = refl

-- There is no rate above the highest, and each below it is one lower than another.
lower_next : (lower : Rate) → number_of_rate lower < 5 → lower_of (number_of_rate lower + 1) ≡ Enter (Asking lower)
lower_next R9600 h = refl
lower_next R19200 h = refl
lower_next R38400 h = refl
lower_next R57600 h = refl
lower_next R115200 h = absurd (omega arith)

-- The numbers of the rates are 1 to 5.
rate_some : (rate : Rate) → (1 ≤ number_of_rate rate) × (number_of_rate rate ≤ 5)
rate_some R9600 = (omega arith, omega arith)
rate_some R19200 = (omega arith, omega arith)
rate_some R38400 = (omega arith, omega arith)
rate_some R57600 = (omega arith, omega arith)
rate_some R115200 = (omega arith, omega arith)

-- A refused rate leads to the rate whose number is one less.
lower_enters : (rate lower : Rate) → number_of_rate lower + 1 ≡ number_of_rate rate → lower_move rate ≡ Enter (Asking lower)
lower_enters rate lower h = lower_number rate ∙ ap lower_of (sym h) ∙ lower_next lower (omega (arith, (rate_some rate).1))

-- Where ACK 01 and 02 are both passed on, either is.
refused_ack : (refusal : Refusal) (ack : ℕ) (good : Move) → 1 ≤ ack → ack ≤ 2
    → by_ack ack good (Refuse refusal wrong_first) (Refuse refusal wrong_second) ≡ Refuse refusal ack
refused_ack refusal ack good some few = go (ℕ_discrete ack wrong_first)
  where
    go : Dec (ack ≡ wrong_first) → by_ack ack good (Refuse refusal wrong_first) (Refuse refusal wrong_second) ≡ Refuse refusal ack
    go (yes first) = rw first (ack_first _ _ _)
    go (no other) = let second : ack ≡ wrong_second = omega arith in rw second (ack_second _ _ _)

-- ---- a session that waits

module _ {s : Session} {w : Wait} {g : Given} (a : Awaits s w g) where
  -- Its step is that of its event.
  awaits_step : leaves s g ≡ event_step s w g.event g.bytes g.image g.output
  awaits_step =
      step_phase s g.event g.bytes g.image g.output a.same_length a.sound (Waiting w) a.phase_is

  -- Its numbers are such as can arise.
  awaits_facts : WaitOf (length g.image) w
  unfolding arises
  awaits_facts =
      wait_facts (length g.image) w (ap₂ phase_arises a.same_length (sym a.phase_is) ∙ a.sound)

  -- What it hears moves it by the rule of its stage.
  heard_moves : (stage : Stage) (f : Frame) (move : Move) → w.stage ≡ stage → Hears g f
      → frame_move w.plan (length g.image) stage f.command f.payload ≡ move
      → leaves s g ≡ moved s w move g.image g.output
  heard_moves stage f move e h m =
      let move_is : frame_move w.plan (length g.image) w.stage f.command (take h.count g.bytes) ≡ move =
      rw (e, h.payload_is) m in
      awaits_step
      ∙ ap (λ (v : Event). event_step s w v g.bytes g.image g.output) h.event_is
      ∙ ap (λ (v : Move). moved s w v g.image g.output) move_is

  -- The number of a packet under way is not 0 and fits two bytes.
  sending_number : (rate : Rate) (size number : ℕ) → w.stage ≡ Sending rate size number → (1 ≤ number) × (number < 256 ^ 2)
  sending_number rate size number e =
      let f = sending_facts w.plan (length g.image) rate size number (rw e at awaits_facts.staged) in
      (f.this.one, omega (arith, f.this.most, f.cut.carried))

  -- An answer to each command is judged by the command's rule.
  heard_rate : (asked : Rate) (rate ack : ℕ) (move : Move) → w.stage ≡ Asking asked → Hears g (rate_reply rate ack)
      → rate_move asked rate ack ≡ move → leaves s g ≡ moved s w move g.image g.output
  unfolding fitting
  heard_rate asked rate ack move e h m = heard_moves (Asking asked) (rate_reply rate ack) move e h m

  heard_parameters : (rate : Rate) (most ack : ℕ) (move : Move) → w.stage ≡ Declaring rate → Hears g (parameters_reply most ack)
      → parameters_move w.plan (length g.image) rate (number_at 2 (parameters_reply most ack).payload 0) ack ≡ move
      → leaves s g ≡ moved s w move g.image g.output
  unfolding fitting spelled
  heard_parameters rate most ack move e h m = heard_moves (Declaring rate) (parameters_reply most ack) move e h m

  heard_packet : (rate : Rate) (size number given ack : ℕ) (move : Move) → w.stage ≡ Sending rate size number → given < 256 ^ 2
      → Hears g (packet_reply given ack) → packet_move w.plan (length g.image) rate size number given ack ≡ move
      → leaves s g ≡ moved s w move g.image g.output
  unfolding fitting spelled
  heard_packet rate size number given ack move e short h m =
      heard_moves (Sending rate size number) (packet_reply given ack) move e h
      (ap (λ (k : ℕ). packet_move w.plan (length g.image) rate size number k ack) (number_read given ack short) ∙ m)

  heard_notice : (rate : Rate) (size state : ℕ) (move : Move) → w.stage ≡ Noticing rate size → Hears g (notice state)
      → notice_move rate size state ≡ move → leaves s g ≡ moved s w move g.image g.output
  unfolding fitting
  heard_notice rate size state move e h m = heard_moves (Noticing rate size) (notice state) move e h m

  heard_restart : (rate : Rate) (size ack : ℕ) (move : Move) → w.stage ≡ Restarting rate size → Hears g (restart_reply ack)
      → by_ack ack Finish Stay Stay ≡ move → leaves s g ≡ moved s w move g.image g.output
  unfolding fitting
  heard_restart rate size ack move e h m = heard_moves (Restarting rate size) (restart_reply ack) move e h m

  -- The answer to the start text enters the first rate.
  heard_text : w.stage ≡ Text → HearsLine g start_answer
      → leaves s g ≡ moved s w (Enter (Asking w.plan.first)) g.image g.output
  heard_text e h =
      let move_is : line_move w.plan w.stage (take h.count g.bytes) ≡ Enter (Asking w.plan.first) =
      rw (e, h.line_is) (text_same w.plan.first start_answer (same_refl start_answer)) in
      awaits_step
      ∙ ap (λ (v : Event). event_step s w v g.bytes g.image g.output) h.event_is
      ∙ ap (λ (v : Move). moved s w v g.image g.output) move_is

  -- Parameters accepted lead on by the piece size.
  heard_size : (rate : Rate) (most : ℕ) (move : Move) → w.stage ≡ Declaring rate → most < 256 ^ 2
      → Hears g (parameters_reply most accepted) → size_move rate (length g.image) (piece_size most w.plan.wish) ≡ move
      → leaves s g ≡ moved s w move g.image g.output
  heard_size rate most move e short h m =
      heard_parameters rate most accepted move e h
      (rw (number_read most accepted short) (parameters_ack w.plan (length g.image) rate most accepted ∙ ack_accepted _ _ _ ∙ m))

  -- A packet accepted leads on by its number.
  heard_accepted : (rate : Rate) (size number : ℕ) (move : Move) → w.stage ≡ Sending rate size number
      → PacketAccepted w.plan number g → accepted_move (length g.image) rate size number ≡ move
      → leaves s g ≡ moved s w move g.image g.output
  heard_accepted rate size number move e (accepts h) m =
      heard_packet rate size number number accepted move e (sending_number rate size number e).1 h
      (packet_this w.plan (length g.image) rate size number number accepted refl ∙ ack_accepted _ _ _ ∙ m)
  heard_accepted rate size number move e (same p h) m =
      heard_packet rate size number number wrong_second move e (sending_number rate size number e).1 h
      (packet_this w.plan (length g.image) rate size number number wrong_second refl ∙ ack_second _ _ _ ∙ rw p m)

  -- ---- from the reason to what the step leaves

  -- A message that follows is entered.
  follows_leaves : (next : Stage) → Follows w.plan (length g.image) g w.stage next
      → leaves s g ≡ moved s w (Enter next) g.image g.output
  follows_leaves _ (started e h n) = rw n (heard_text e h)
  follows_leaves next (agreed rate e h n) =
      heard_rate rate (number_of_rate rate) accepted (Enter next) e h
      (rate_asked rate (number_of_rate rate) accepted refl ∙ ack_accepted _ _ _ ∙ ap Enter (sym n))
  follows_leaves next (lowered rate lower e h less n) =
      heard_rate rate (number_of_rate rate) wrong_first (Enter next) e h
      (rate_asked rate (number_of_rate rate) wrong_first refl ∙ ack_first _ _ _ ∙ lower_enters rate lower less ∙ ap Enter (sym n))
  follows_leaves next (declared rate most e short h some few n) =
      heard_size rate most (Enter next) e short h
      (size_begins rate (length g.image) (piece_size most w.plan.wish) (record { some = some; few = few }) ∙ ap Enter (sym n))
  follows_leaves next (continued rate size number e less h n) =
      heard_accepted rate size number (Enter next) e h
      (accepted_before (length g.image) rate size number less ∙ ap Enter (sym n))
  follows_leaves next (noticed rate size e h n) =
      heard_notice rate size 0 (Enter next) e h (notice_good rate size 0 refl ∙ ap Enter (sym n))

  -- A message that is due is resent.
  due_leaves : Due w g → leaves s g ≡ moved s w Resend g.image g.output
  due_leaves (late ms ev up) =
      awaits_step
      ∙ ap (λ (v : Event). event_step s w v g.bytes g.image g.output) ev
      ∙ time_resends s w ms g.image g.output up
  due_leaves (rate_again rate e h) =
      heard_rate rate (number_of_rate rate) not_understood Resend e h
      (rate_asked rate (number_of_rate rate) not_understood refl ∙ ack_again _ _ _)
  due_leaves (rate_0_again rate e h) =
      heard_rate rate 0 not_understood Resend e h
      (rate_none rate 0 not_understood (λ z. omega (arith, (rate_some rate).0)) refl ∙ ack_again _ _ _)
  due_leaves (parameters_again rate most e h) =
      heard_parameters rate most not_understood Resend e h
      (parameters_ack w.plan (length g.image) rate (number_at 2 (parameters_reply most not_understood).payload 0) not_understood
      ∙ ack_again _ _ _)
  due_leaves (packet_again rate size number e h) =
      heard_packet rate size number number not_understood Resend e (sending_number rate size number e).1 h
      (packet_this w.plan (length g.image) rate size number number not_understood refl ∙ ack_again _ _ _)
  due_leaves (packet_0_again rate size number e h) =
      heard_packet rate size number 0 not_understood Resend e (omega arith) h
      (packet_none w.plan (length g.image) rate size number 0 not_understood
      (λ z. omega (arith, (sending_number rate size number e).0)) refl
      ∙ ack_again _ _ _)
  due_leaves (restart_again rate size e h) = heard_restart rate size not_understood Resend e h (ack_again _ _ _)

  -- A refusal is passed on.
  refused_leaves : (refusal : Refusal) (passed : ℕ) → RefusedBy w g refusal passed → leaves s g ≡ moved s w (Refuse refusal passed) g.image g.output
  refused_leaves refusal passed (lowest e h n p) =
      heard_rate R9600 1 wrong_first (Refuse refusal passed) e h
      (rate_asked R9600 1 wrong_first refl ∙ ack_first _ _ _ ∙ ap₂ Refuse (sym n) (sym p))
  refused_leaves refusal passed (parameters rate most e some few h n) =
      heard_parameters rate most passed (Refuse refusal passed) e h
      (parameters_ack w.plan (length g.image) rate (number_at 2 (parameters_reply most passed).payload 0) passed
      ∙ refused_ack module_refused passed _ some few
      ∙ ap (λ (v : Refusal). Refuse v passed) (sym n))
  refused_leaves refusal passed (packet rate size k e h n p) =
      heard_packet rate size k k wrong_first (Refuse refusal passed) e (sending_number rate size k e).1 h
      (packet_this w.plan (length g.image) rate size k k wrong_first refl ∙ ack_first _ _ _ ∙ ap₂ Refuse (sym n) (sym p))
  refused_leaves refusal passed (packet_0 rate size k e h n p) =
      heard_packet rate size k 0 wrong_first (Refuse refusal passed) e (omega arith) h
      (packet_none w.plan (length g.image) rate size k 0 wrong_first (λ z. omega (arith, (sending_number rate size k e).0)) refl
      ∙ ack_first _ _ _
      ∙ ap₂ Refuse (sym n) (sym p))
  refused_leaves refusal passed (same_version rate size k e way h n p) =
      heard_packet rate size k k wrong_second (Refuse refusal passed) e (sending_number rate size k e).1 h
      (packet_this w.plan (length g.image) rate size k k wrong_second refl
      ∙ ack_second _ _ _
      ∙ rw way (ap₂ Refuse (sym n) (sym p)))
  refused_leaves refusal passed (failure rate size e some h n) =
      heard_notice rate size passed (Refuse refusal passed) e h
      (notice_bad rate size passed (λ z. omega arith) ∙ ap (λ (v : Refusal). Refuse v passed) (sym n))

  -- Without pieces the load stops.
  stops_leaves : NoPieces w g → leaves s g ≡ moved s w TooMany g.image g.output
  stops_leaves n =
      heard_size n.rate n.most TooMany n.stage_is n.most_fits n.hears
      (size_stops n.rate (length g.image) (piece_size n.most w.plan.wish) (λ c. omega (arith, c.few, n.none c.some)))

  -- The restart acknowledged ends the load.
  restarted_leaves : Restarted w g → leaves s g ≡ moved s w Finish g.image g.output
  restarted_leaves r = heard_restart r.rate r.size accepted Finish r.stage_is r.hears (ack_accepted _ _ _)

  -- Each message is sent where there is room.
  message_leaves : (message : List ℕ) (next : Session) (answer : Answer) → Message w g message next answer
      → leaves s g ≡ sends s (stepped next answer) message g.output
  message_leaves message next answer (again due few m n r) =
      rw (r, m, n) (due_leaves due ∙ resends_more s w g.image g.output few)
  message_leaves message next answer (onward stage follows m n r) = rw (r, m, n) (follows_leaves stage follows)
  message_leaves message next answer (restart refusal passed refused m n r) =
      rw (r, m, n)
      (refused_leaves refusal passed refused
      ∙ ap
      (λ (p : Phase). sends s (stepped (session (length g.image) (failed_phase p)) (Failed refusal passed (length (wire_of restart_frame)))) (wire_of restart_frame) g.output)
      a.phase_is)

-- Every step is one of the turns.
pub every_turn : EveryTurn
every_turn s w g a = rw (awaits_step a) (event_turn s w g a.phase_is g.event refl a.all_bytes_law (awaits_facts a).staged)

-- Each turn with a reason comes where its reason holds.
pub every_reason : EveryReason
every_reason s w g a = record {
  sent = λ message next answer m room.
      message_leaves a message next answer m ∙ sends_fits s (stepped next answer) message g.output room;
  unsent = λ message next answer m short.
      message_leaves a message next answer m ∙ sends_short s (stepped next answer) message g.output short;
  gave_up = λ due enough. due_leaves a due ∙ resends_enough s w g.image g.output enough;
  no_pieces = λ n. stops_leaves a n;
  awaited = λ rate size h.
      heard_accepted a rate size (count_of (length g.image) size) (Await (Noticing rate size)) h.stage_is h.accepts
      (accepted_last (length g.image) rate size (count_of (length g.image) size) (omega arith));
  waited = λ ms e short.
      awaits_step a
      ∙ ap (λ (event : Event). event_step s w event g.bytes g.image g.output) e
      ∙ time_waits s w ms g.image g.output short;
  finished = λ r. restarted_leaves a r;
}
