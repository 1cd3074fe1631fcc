-- A step of the host keeps how all stands together.
use Rattle.host_model.specs.declared.plan.Rate.{Rate}
use Rattle.std.specs.Prelude.{ℕ, ◌≤◌, Bool, true, ◌≡◌, refl, length, take, None, Option, Some}
use Rattle.std.proofs.lemmas.Bool.{false≢true}
use mathlib.Core.List.{List, [], ◌∷◌, append-nil, Memᴰ}
use Rattle.std.proofs.Common.{⊎_elim, sym, ap, ◌∙◌, arith}
use Rattle.octets.specs.Octets.{Bytes, over}
use Rattle.octets.proofs.OctetsLaws.{take_over}
use Rattle.kinds.specs.Kinds.{fits_file}
use Rattle.kinds.specs.KindsLaws.{image_short, file_some}
use Rattle.kinds.specs.declared.Kind.{Kind}
use Rattle.pieces.specs.Pieces.{count_of}
use Rattle.pieces.specs.PiecesLaws.{count_some}
use Rattle.wire.specs.Frame.{Frame, longest_payload, wire_of}
use Rattle.reader_promises.specs.Seen.{seen_handed, sight_of}
use Rattle.reader_promises.proofs.SeenLaws.{fresh_handed}
use Rattle.commands.specs.Commands.{start_text}
use Rattle.commands.specs.Commands.{rate_frame, parameters_frame, packet_frame, restart_frame}
use Rattle.commands.specs.CommandsLaws.{length_parameters}
use Rattle.host_model.specs.Stages.{number_of_rate, stage_fits}
use Rattle.host_model.proofs.StagesLaws.{SizeOf, sending_facts, sent_facts}
use Rattle.host_model.specs.declared.plan.Plan.{Plan}
use Rattle.host_model.specs.declared.plan.Stage.{Stage}
use Rattle.host_model.specs.declared.plan.Stage.TheVariants.{Text, Asking, Declaring, Sending, Noticing, Restarting}
use Rattle.module.specs.Step.{wires_of}
use Rattle.module_promises.specs.Runs.{heard_in}
use Rattle.module_promises.proofs.RunsLaws.{heard_wires, heard_nothing}
use Rattle.host.specs.Session.{stepped, arises}
use Rattle.host_model.proofs.WaitsLaws.{WaitOf, wait_facts}
use Rattle.host_model.specs.Messages.{message_of}
use Rattle.host.specs.Step.{Wishes, Left, left, plan_of, waiting_of}
use Rattle.host.specs.StepLaws.{arisen, step_phase}
use Rattle.host_promises.specs.Runs.{Given, leaves, sent_by}
use Rattle.host_model.specs.Events.{Answer, count_in}
use Rattle.host_model.specs.Views.{stage_rate, ended_at_rate}
use Rattle.host_promises.proofs.Arises.{step_arises, arises_wait}
use Rattle.host_promises.proofs.Turns.{every_turn}
use Rattle.host_promises.specs.Promises.{Hears, Follows, started, agreed, lowered, declared, continued, noticed}
use Rattle.host_promises.specs.Promises.{Awaits, Message, again, onward, restart, Turn, sends, no_room_law, gives_up, too_many, awaits, finishes, waits, passed_over}
use Rattle.host_model.specs.declared.waits.Wait.{Wait}
use Rattle.host_model.specs.declared.waits.Phase.{Phase}
use Rattle.host_model.specs.declared.waits.Phase.TheVariants.{Ended, EndedAt, Waiting}
use Rattle.host.specs.declared.session.Session.{Session}
use Rattle.host_model.specs.declared.events.Event.{Event}
use Rattle.host_model.specs.declared.events.Answer.TheVariants.{Nothing, Done}
use Rattle.line.specs.Joined.{Joined, host_takes}
use Rattle.line.proofs.TransferLaws.{packet_short}
use Rattle.line.specs.Lossless.{is_done}
use Rattle.line.specs.Promises.{HasNotice}
use Rattle.line.proofs.Stand.{HostFrame, rate, parameters, packet, size_of, StageStands, HostStands, Stand}
use Rattle.line.proofs.Stand as stand

-- ---- what is heard of a message

-- A frame's own wire form brings that frame, the start text none.
pub heard_one : (f : Frame) → length f.payload ≤ longest_payload → heard_in (wire_of f) ≡ f ∷ []
unfolding wires_of
heard_one f h = ap heard_in (sym (append-nil (wire_of f))) ∙ heard_wires (f ∷ []) (h, tt)

heard_text : heard_in start_text ≡ []
unfolding heard_in seen_handed sight_of
heard_text = rw (fresh_handed start_text) refl

-- So only it is in what is heard.
only_one : (f g : Frame) → length g.payload ≤ longest_payload → Memᴰ f (heard_in (wire_of g)) → f ≡ g
only_one f g h m = mathlib.Core.List.Memᴰ.eq_of_singleton (rw (heard_one g h) at m)

-- A message that is sent is what is heard.
sent_message : (next : Session) (answer : Answer) (message output : List ℕ) → count_in answer ≡ length message
    → heard_in (sent_by (left (stepped next answer) (over message output))) ≡ heard_in message
sent_message next answer message output c = ap heard_in (take_over message output (count_in answer) (sym c))

module _ (kind : Kind) (w : Wishes) (image : List ℕ) where
  abbrev plan : Plan
  plan = plan_of kind w

  -- The message of a stage is a frame that the host may send there.
  packet_frames_law : (begun : Bool) (size k : ℕ) → begun ≡ true → size ≡ size_of kind w image → 1 ≤ length image
      → SizeOf (length image) w.wish size → 1 ≤ k → k ≤ count_of (length image) size → (f : Frame)
      → Memᴰ f (heard_in (wire_of (packet_frame image size k))) → HostFrame kind w image begun f
  packet_frames_law begun size k on is some cut one most f m =
      packet k on some (rw (sym is) cut.some) one (rw (sym is) most) (rw (sym is) cut.carried)
      (only_one f (packet_frame image size k) (packet_short image size k cut.small) m ∙ ap (λ (s : ℕ). packet_frame image s k) is)

  pub stage_frames : (begun : Bool) (sent : List Frame) (stage : Stage) → fits_file kind (length image) ≡ true
      → stage_fits plan (length image) stage ≡ true → StageStands kind w image begun sent stage
      → (f : Frame) → Memᴰ f (heard_in (message_of plan image stage)) → HostFrame kind w image begun f
  stage_frames begun sent Text fits at h f m = absurd (mathlib.Core.List.Memᴰ.not-nil (rw heard_text at m))
  stage_frames begun sent (Asking r) fits at h f m = rate r (only_one f (rate_frame (number_of_rate r)) (omega arith) m)
  stage_frames begun sent (Declaring r) fits at h f m =
      parameters (image_short kind (length image) fits)
      (only_one f (parameters_frame kind (length image)) (omega (arith, length_parameters kind (length image))) m)
  stage_frames begun sent (Sending r size number) fits at h f m =
      let s = sending_facts plan (length image) r size number at in
      packet_frames_law begun size number h.0 h.1 (file_some kind (length image) fits) s.cut s.this.one s.this.most f m
  stage_frames begun sent (Noticing r size) fits at h f m =
      let s = sent_facts plan (length image) r size at in
      let some = file_some kind (length image) fits in
      packet_frames_law begun size (count_of (length image) size) h.0 h.1 some s.cut (count_some (length image) size some s.cut.some)
      (omega arith) f m
  stage_frames begun sent (Restarting r size) fits at h f m = stand.restart (only_one f restart_frame (omega arith) m)

  -- ---- one step

  module _ (before : List ℕ) (j : Joined) (h : Stand kind w image before j) (event : Event) (bytes output : List ℕ) (real : Bytes bytes)
      (from : (f : Frame) → Hears (record { event = event; bytes = bytes; image = image; output = output }) f
      → Memᴰ f j.from_board) where
    abbrev g : Given
    g = record { event = event; bytes = bytes; image = image; output = output }

    abbrev now : Left
    now = leaves j.host g

    -- What stands after a step that leaves this.
    stood : (x : Left) → now ≡ x → x.session.image ≡ length image
        → HostStands kind w image h.begun j.from_board x.session.phase
        → ((f : Frame) → Memᴰ f (heard_in (sent_by x)) → HostFrame kind w image h.begun f)
        → Stand kind w image before (host_takes j now)
    stood x e same at frames = record {
      begun = h.begun;
      sound = step_arises j.host g h.sound;
      same_image = rw e same;
      host_at = rw e at;
      frames = λ f m.
          ⊎_elim
          (λ (n : Memᴰ f j.from_host). h.frames f n)
          (λ (n : Memᴰ f (heard_in (sent_by now))). frames f (rw e at n))
          (mathlib.Core.List.Memᴰ.append_cases j.from_host m);
      told = h.told;
      kept = h.kept;
      inside = h.inside;
      board_at = h.board_at;
      success = h.success;
    }

    -- Nothing is sent.
    unsent : (x : Left) → count_in x.answer ≡ 0 → (f : Frame) → Memᴰ f (heard_in (sent_by x)) → HostFrame kind w image h.begun f
    unsent x none f m =
        let here : Memᴰ f (heard_in (take (count_in x.answer) x.output)) = m in
        let nowhere : Memᴰ f (heard_in []) = rw none at here in
        absurd (mathlib.Core.List.Memᴰ.not-nil (rw heard_nothing at nowhere))

    still : (x : Left) → now ≡ x → x.session.image ≡ length image
        → HostStands kind w image h.begun j.from_board x.session.phase → count_in x.answer ≡ 0
        → Stand kind w image before (host_takes j now)
    still x e same at none = stood x e same at (unsent x none)

    -- A host that waits.
    module _ (wait : Wait) (phase_is : j.host.phase ≡ Waiting wait) where
      abbrev at : HostStands kind w image h.begun j.from_board (Waiting wait)
      at = rw phase_is at h.host_at

      waiting : WaitOf (length image) wait
      waiting = rw h.same_image at (wait_facts j.host.image wait (arisen j.host wait h.sound phase_is))

      ready : Awaits j.host wait g
      ready = record { phase_is = phase_is; sound = h.sound; same_length = sym h.same_image; all_bytes_law = real }

      -- The next stage is one that the load has come to.
      follows : (stage : Stage) → Follows wait.plan (length image) g wait.stage stage
          → StageStands kind w image h.begun j.from_board stage
      follows stage (started here line next) = rw next tt
      follows stage (agreed r here hears next) = rw next tt
      follows stage (lowered r lower here hears less next) = rw next tt
      follows stage (declared r most here short hears some few next) =
          let t = h.told most (omega (arith, short)) (from _ hears) in
          rw next (t.1, rw (t.0, at.0))
      follows stage (continued r size number here less taken next) =
          let s = rw here at at.1 in rw next (s.0, s.1)
      follows stage (noticed r size here hears next) = rw next (from _ hears)

      -- A load that failed has ended, whatever rate it keeps.
      rate_stands : (type : Kind) (line : Option Rate) → HostStands kind w image h.begun j.from_board (ended_at_rate type line)
      rate_stands type None = tt
      rate_stands type (Some r) = tt

      -- A message is sent.
      sends_stands : (message : List ℕ) (next : Session) (answer : Answer) → Message wait g message next answer
          → now ≡ left (stepped next answer) (over message output) → Stand kind w image before (host_takes j now)
      sends_stands message next answer (again due few is next_is answer_is) e =
          let x = left (stepped next answer) (over message output) in
          let told : heard_in (sent_by x) ≡ heard_in (message_of plan image wait.stage) =
          sent_message next answer message output (ap count_in answer_is)
          ∙ ap heard_in is
          ∙ ap (λ (p : Plan). heard_in (message_of p image wait.stage)) at.0 in
          stood x e (ap (λ (s : Session). s.image) next_is) (rw next_is at) (λ f m.
          stage_frames h.begun j.from_board wait.stage (rw at.0 at waiting.fitting) (rw at.0 at waiting.staged) at.1 f
          (rw told at m))
      sends_stands message next answer (onward stage follow is next_is answer_is) e =
          let x = left (stepped next answer) (over message output) in
          let reached : arises (waiting_of (length image) wait.plan stage 0 0) ≡ true =
          ap arises (sym next_is ∙ ap (λ (l : Left). l.session) (sym e)) ∙ step_arises j.host g h.sound in
          let then = arises_wait (length image) _ reached in
          let told : heard_in (sent_by x) ≡ heard_in (message_of plan image stage) =
          sent_message next answer message output (ap count_in answer_is)
          ∙ ap heard_in is
          ∙ ap (λ (p : Plan). heard_in (message_of p image stage)) at.0 in
          stood x e (ap (λ (s : Session). s.image) next_is) (rw next_is (at.0, follows stage follow)) (λ f m.
          stage_frames h.begun j.from_board stage (rw at.0 at then.fitting) (rw at.0 at then.staged) (follows stage follow) f
          (rw told at m))
      sends_stands message next answer (restart number passed by is next_is answer_is) e =
          let x = left (stepped next answer) (over message output) in
          let told : heard_in (sent_by x) ≡ heard_in (wire_of restart_frame) =
          sent_message next answer message output (ap count_in answer_is) ∙ ap heard_in is in
          stood x e (ap (λ (s : Session). s.image) next_is) (rw next_is (rate_stands wait.plan.kind (stage_rate wait.stage)))
          (λ f m. stand.restart (only_one f restart_frame (omega arith) (rw told at m)))

      -- Any turn.
      turn_stands : Turn j.host wait g now → Stand kind w image before (host_takes j now)
      turn_stands (sends message next answer m room e) = sends_stands message next answer m e
      turn_stands (no_room_law message next answer m short e) =
          still _ e h.same_image h.host_at refl
      turn_stands (gives_up due many e) = still _ e refl tt refl
      turn_stands (too_many none e) = still _ e refl tt refl
      turn_stands (awaits r size all e) =
          let s = rw all.stage_is at at.1 in still _ e refl (at.0, (s.0, s.1)) refl
      turn_stands (finishes done e) = still _ e refl tt refl
      turn_stands (waits ms is less e) = still _ e refl at refl
      turn_stands (passed_over e) = still _ e h.same_image h.host_at refl

      -- Done is said only to the answer of the restart.
      turn_done : Turn j.host wait g now → is_done now.answer ≡ true → HasNotice j.host
      turn_done (sends message next answer (again due few is next_is answer_is) room e) d = absurd (false≢true (rw (e, answer_is) at d))
      turn_done (sends message next answer (onward stage follow is next_is answer_is) room e) d = absurd (false≢true (rw (e, answer_is) at d))
      turn_done (sends message next answer (restart number passed by is next_is answer_is) room e) d =
          absurd (false≢true (rw (e, answer_is) at d))
      turn_done (no_room_law message next answer m short e) d = absurd (false≢true (rw e at d))
      turn_done (gives_up due many e) d = absurd (false≢true (rw e at d))
      turn_done (too_many none e) d = absurd (false≢true (rw e at d))
      turn_done (awaits r size all e) d = absurd (false≢true (rw e at d))
      turn_done (finishes done e) d =
          record { wait = wait; rate = done.rate; size = done.size; phase_is = phase_is; stage_is = done.stage_is }
      turn_done (waits ms is less e) d = absurd (false≢true (rw e at d))
      turn_done (passed_over e) d = absurd (false≢true (rw e at d))

    -- Any step of the host, and when it says done.
    pub step_stands : Stand kind w image before (host_takes j now)
    step_stands = go j.host.phase refl
      where
        go : (phase : Phase) → j.host.phase ≡ phase → Stand kind w image before (host_takes j now)
        go Ended e =
            still _ (step_phase j.host event bytes image output (sym h.same_image) h.sound Ended e) h.same_image h.host_at refl
        go (EndedAt type at) e =
            still _ (step_phase j.host event bytes image output (sym h.same_image) h.sound (EndedAt type at) e) h.same_image h.host_at refl
        go (Waiting wait) e = turn_stands wait e (every_turn j.host wait g (ready wait e))

    pub done_noticed : is_done now.answer ≡ true → HasNotice j.host
    done_noticed d = go j.host.phase refl
      where
        go : (phase : Phase) → j.host.phase ≡ phase → HasNotice j.host
        go Ended e =
            absurd (false≢true (rw (step_phase j.host event bytes image output (sym h.same_image) h.sound Ended e) at d))
        go (EndedAt type at) e =
            absurd (false≢true (rw (step_phase j.host event bytes image output (sym h.same_image) h.sound (EndedAt type at) e) at d))
        go (Waiting wait) e = turn_done wait e (every_turn j.host wait g (ready wait e)) d
