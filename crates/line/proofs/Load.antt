-- L2: each turn leads from stage to stage by the host's and the module's own facts, and the flash is what M3 says.
use Rattle.std.specs.Prelude.{ℕ, zero, suc, ◌+◌, ◌*◌, ◌-◌, ◌≤◌, ◌<◌, Bool, true, false, ◌||◌, ◌≡◌, length}
use mathlib.Core.List.{List, [], ◌∷◌, ◌++◌, map, append-nil}
use Rattle.std.proofs.Math.Path.{refl, sym}
use Rattle.std.proofs.Common.{ap, ◌∙◌, arith, length-append}
use Rattle.std.proofs.Math.Decide.{dec_le}
use Rattle.std.proofs.Math.Seq.{take-length}
use Rattle.octets.specs.Octets.{laid}
use Rattle.octets.proofs.OctetsLaws.{laid_length, take_over}
use Rattle.kinds.specs.Kinds.{base_of, number_of, longest_image, fits_file}
use Rattle.kinds.specs.KindsLaws.{FitsFlash, image_short, file_some}
use Rattle.kinds.specs.declared.Kind.{Kind}
use Rattle.pieces.specs.Pieces.{count_of, piece_of}
use Rattle.pieces.specs.PiecesLaws.{within, count_some, count_whole}
use Rattle.wire.specs.Frame.{Frame, longest_payload, wire_of}
use Rattle.commands.specs.Commands.{start_answer, largest_packet, largest_total, accepted, packet_command, packet_for}
use Rattle.commands.specs.Commands.{rate_reply, parameters_reply, packet_reply, restart_reply, notice}
use Rattle.commands.specs.Commands.{rate_frame, parameters_frame, packet_frame, restart_frame}
use Rattle.host_model.specs.Stages.{number_of_rate}
use Rattle.host_model.specs.Answers.{piece_size}
use Rattle.host_model.proofs.AnswersLaws.{piece_packet}
use Rattle.host_model.specs.declared.plan.Rate.{Rate}
use Rattle.host_model.specs.declared.plan.Rate.TheVariants.{R9600, R19200, R38400, R57600, R115200}
use Rattle.host_model.specs.declared.plan.Start.{Start}
use Rattle.host_model.specs.declared.plan.Start.TheVariants.{WithText, AtOnce}
use Rattle.host_model.specs.declared.plan.Plan.{Plan}
use Rattle.host_model.specs.declared.plan.Stage.{Stage}
use Rattle.host_model.specs.declared.plan.Stage.TheVariants.{Asking, Declaring, Sending, Noticing, Restarting}
use Rattle.module_model.specs.Phases.{largest_flash, total_of}
use Rattle.module.specs.Session.{session, takes}
use Rattle.module_model.proofs.PhasesLaws.{cut_length, facts_done}
use Rattle.module.specs.SessionLaws.{facts_takes, takes_facts}
use Rattle.module_model.specs.Rules.{frames_of, data_in, taken, place_of, rate_ack, decide_of}
use Rattle.module_model.proofs.RulesLaws.{RateOf, rate_yes, rate_one, restart_none, state_whole_law, decide_rate, decide_restart}
use Rattle.module.specs.Step.{smallest_reply, performed}
use Rattle.module.specs.Step as module_step
use Rattle.module_promises.specs.Runs.{Offer, Exchange, exchange, given, carried, carried_by, carried_after, heard_in}
use Rattle.module_promises.specs.Runs as module_runs
use Rattle.module_promises.proofs.RunsLaws.{heard_wires, heard_nothing, heard_performed}
use Rattle.module_promises.specs.Promises.{Frames}
use Rattle.module_promises.proofs.Clean.{one_packet, same_packet}
use Rattle.module_model.proofs.Due.{transfer_for, parameters_accepted}
use Rattle.module_promises.proofs.Forward.{counted_takes}
use Rattle.module_model.proofs.Due.{Carries, piece_facts, data_read, waiting, waiting_none, waiting_some, written_with}
use Rattle.module_promises.proofs.Forward.{waiting_takes}
use Rattle.module_model.proofs.Due.{packet_taken, taken_waits, taken_done}
use Rattle.module_promises.proofs.Forward.{frame_taken}
use Rattle.module_model.specs.declared.phases.Pieces.{Pieces}
use Rattle.module_model.specs.declared.phases.Phase.TheVariants.{Closed, Begun, Done}
use Rattle.module.specs.declared.session.Session.{Session as ModuleSession}
use Rattle.module_model.specs.declared.events.Event.TheVariants as module_event
use Rattle.host.specs.Step as host_step
use Rattle.host.specs.Step.{Wishes, plan_of, opening_of}
use Rattle.host_model.proofs.WaitsLaws.{first_fits}
use Rattle.host.specs.Session as host_session
use Rattle.host_promises.specs.Runs.{Given, leaves, sent_by}
use Rattle.host_promises.specs.Promises.{largest_message, frame, GoodStep}
use Rattle.host_promises.proofs.Forward.{arrived, Leads, text_step, rate_step, parameters_step, packet_step, last_step, notice_step, restart_step}
use Rattle.host_promises.proofs.Forward.{opening_sends}
use Rattle.host_promises.proofs.Forward as load
use Rattle.host.specs.declared.session.Session.{Session as HostSession}
use Rattle.host_model.specs.declared.events.Event.TheVariants as host_event
use Rattle.host_model.specs.declared.events.Answer.TheVariants as host_answer
use Rattle.line.specs.Lossless.{Talk, is_done, talk_on, talks, started_by, turns_of}
use Rattle.line.specs.Promises.{Loaded, LosslessEnds}
use Rattle.line.proofs.TransferLaws.{not_none, last_single, last_behind, packet_frames, packet_short, parameters_short}
use Rattle.line.proofs.TransferLaws.{EachFrame, frames_succeed}

-- Both ends by their parts.
abbrev talk : HostSession → ModuleSession → List ℕ → List Frame → List Frame → Bool → Talk
talk h s flash to_board to_host done =
    record { host = h; board = s; flash = flash; to_board = to_board; to_host = to_host; done = done }

-- The turns from a packet on that so many more follow.
abbrev turns_from : ℕ → ℕ
turns_from zero = 5
turns_from (suc m) = suc (suc (turns_from m))

-- They are two for each, and five.
turns_are : (m : ℕ) → turns_from m ≡ 2 * m + 5
turns_are zero = refl
turns_are (suc m) = omega (arith, turns_are m)

-- A reader hears in the wire form of a frame just that frame.
heard_wire : (f : Frame) → length f.payload ≤ longest_payload → heard_in (wire_of f) ≡ f ∷ []
unfolding module_step.wires_of
heard_wire f short = rw (append-nil (wire_of f)) at (heard_wires (f ∷ []) (short, tt))

-- The host's rates are the five that the module knows.
one_of_five : (rate : Rate) → RateOf (number_of_rate rate)
one_of_five R9600 = record { some = omega arith; most = omega arith }
one_of_five R19200 = record { some = omega arith; most = omega arith }
one_of_five R38400 = record { some = omega arith; most = omega arith }
one_of_five R57600 = record { some = omega arith; most = omega arith }
one_of_five R115200 = record { some = omega arith; most = omega arith }

-- ---- how the module counts

-- The size by which the module counts the packets of an image: the host's, or the length where that is less.
record CutFor (image : List ℕ) (size : ℕ) : Type 0 where
  cut_size : ℕ
  some : 1 ≤ cut_size
  small : cut_size ≤ largest_packet
  inside : cut_size ≤ length image
  count : count_of (length image) size ≡ count_of (length image) cut_size
  same : (k : ℕ) → 1 ≤ k → k ≤ count_of (length image) cut_size → packet_for image size k ≡ packet_for image cut_size k

-- So there is such a size.
cut_for : (image : List ℕ) (size : ℕ) → 1 ≤ length image → 1 ≤ size → size ≤ largest_packet → CutFor image size
cut_for image size some one most = go (dec_le size (length image))
  where
    go : Dec (size ≤ length image) → CutFor image size
    go (yes short) = record { cut_size = size; some = one; small = most; inside = short; count = refl; same = λ k a b. refl }
    go (no longer) =
        let more : length image < size = omega (arith, longer) in
        record {
          cut_size = length image;
          some = some;
          small = omega (arith, more, most);
          inside = omega arith;
          count = one_packet image size some more ∙ sym (count_whole (length image) some);
          same = λ k a b.
              let only : k ≡ 1 = omega (arith, a, b, count_whole (length image) some) in
              rw only (same_packet image size some more);
        }

-- ---- runs

-- What is left after a run is what its last exchange left.
carried_last : (os : List Offer) (s : ModuleSession) (flash : List ℕ) (before : List Exchange) (x : Exchange)
    → carried s flash os ≡ before ++ (x ∷ []) → (carried_after s flash os).flash ≡ x.left.flash
unfolding carried_by carried_after
carried_last [] s flash before x e = absurd (omega (arith, ap length e, length-append before (x ∷ [])))
carried_last (o ∷ []) s flash before x e =
    ap (λ (y : Exchange). y.left.flash) (last_single (exchange s (given flash o)) x before e)
carried_last (o ∷ q ∷ os) s flash before x e =
    let now = exchange s (given flash o) in
    let b = last_behind now x (carried now.left.session now.left.flash (q ∷ os)) before not_none e in
    carried_last (q ∷ os) now.left.session now.left.flash b.front x b.split

-- After its first exchange a run goes on from what that left.
carried_on : (o : Offer) (os : List Offer) (s next : ModuleSession) (flash after : List ℕ) → (exchange s (given flash o)).left.session ≡ next
    → (exchange s (given flash o)).left.flash ≡ after → (carried_after s flash (o ∷ os)).flash ≡ (carried_after next after os).flash
unfolding carried_after
carried_on o os s next flash after session_is flash_is =
    ap (λ (t : ModuleSession). (carried_after t (exchange s (given flash o)).left.flash os).flash) session_is
    ∙ ap (λ (m : List ℕ). (carried_after next m os).flash) flash_is

-- ---- one turn

module _ (image output reply : List ℕ) where
  -- What a step of the host is given with a frame, and what is offered to the module.
  abbrev given_with : Frame → Given
  given_with f = record { event = host_event.Frame f.command (length f.payload); bytes = f.payload; image = image; output = output }

  abbrev offer_of : Frame → Offer
  offer_of f = record { event = module_event.Frame f.command (length f.payload); payload = f.payload; reply = reply }

  abbrev exchanged : ModuleSession → List ℕ → Frame → Exchange
  exchanged s flash f = exchange s (given flash (offer_of f))

  -- The load is over after so many turns.
  abbrev LoadedIn : ℕ → Talk → List ℕ → Type 0
  LoadedIn n t goal = Loaded (talks image output reply n t) goal

  -- With the same flash.
  same_goal : (n : ℕ) (t : Talk) (goal other : List ℕ) → goal ≡ other → LoadedIn n t other → LoadedIn n t goal
  same_goal n t goal other e l = rw e l

  -- The host takes a frame, and what it sends is under way.
  host_turn_law : (n : ℕ) (h next : HostSession) (s : ModuleSession) (flash goal : List ℕ) (f : Frame) (frames rest : List Frame) (d : Bool)
      → (leaves h (given_with f)).session ≡ next → heard_in (sent_by (leaves h (given_with f))) ≡ frames
      → ((e : Bool) → LoadedIn n (talk next s flash frames rest e) goal)
      → LoadedIn (suc n) (talk h s flash [] (f ∷ rest) d) goal
  unfolding talks talk_on
  host_turn_law n h next s flash goal f frames rest d session_is frames_are then =
      rw (session_is, frames_are) (then (is_done (leaves h (given_with f)).answer || d))

  -- What the module leaves when it takes a frame: its session, its flash, and the frames of its reply.
  record Answers (s : ModuleSession) (flash : List ℕ) (f : Frame) (next : ModuleSession) (after : List ℕ) (frames : List Frame) : Type 0 where
    session_is : (exchanged s flash f).left.session ≡ next
    flash_is : (exchanged s flash f).left.flash ≡ after
    says : heard_in (module_runs.sent_by (exchanged s flash f).left) ≡ frames

  -- The module takes a frame, and its reply is under way.
  board_turn_law : (n : ℕ) (h : HostSession) (s next : ModuleSession) (flash after goal : List ℕ) (f : Frame) (frames rest : List Frame) (d : Bool)
      → Answers s flash f next after frames
      → LoadedIn n (talk h next after rest frames d) goal
      → LoadedIn (suc n) (talk h s flash (f ∷ rest) [] d) goal
  unfolding talks talk_on
  board_turn_law n h s next flash after goal f frames rest d a then = rw (a.session_is, a.flash_is, a.says) then

  -- The host takes the frame with which the load is done.
  done_turn : (h next : HostSession) (s : ModuleSession) (flash : List ℕ) (f : Frame) (d : Bool)
      → leaves h (given_with f) ≡ host_step.left (host_session.stepped next host_answer.Done) output
      → LoadedIn 1 (talk h s flash [] (f ∷ []) d) flash
  unfolding talks talk_on
  done_turn h next s flash f d e = rw e (record { says_done = refl; holds = refl; none_to_board = heard_nothing; none_to_host = refl })

  -- ---- what the module answers

  module _ (roomy : smallest_reply ≤ length reply) where
    -- A frame is offered with its whole payload.
    offered : (f : Frame) → Frames f.command f.payload (offer_of f)
    offered f = record { count = length f.payload; event_is = refl; payload_is = take-length f.payload; room = roomy }

    module _ (s : ModuleSession) (flash : List ℕ) (opened : takes s ≡ true) (long : length flash ≡ s.flash) where
      -- It decides the frame and performs what it decides.
      board_performs : (f : Frame)
          → (exchanged s flash f).left ≡ performed s (decide_of s.phase f.command f.payload flash) f.payload flash reply
      board_performs f = frame_taken s f.command f.payload flash (offer_of f) opened long (offered f)

      -- What is heard is what it decides to say.
      board_says : (f : Frame)
          → heard_in (module_runs.sent_by (exchanged s flash f).left) ≡ frames_of (decide_of s.phase f.command f.payload flash).say
      board_says f =
          ap (λ (l : module_step.Left). heard_in (module_runs.sent_by l)) (board_performs f)
          ∙ heard_performed s (decide_of s.phase f.command f.payload flash) f.payload flash reply

      -- A rate of the five is accepted.
      rate_answers : (rate : Rate)
          → Answers s flash (rate_frame (number_of_rate rate)) (session s.flash 0 s.phase) flash (rate_reply (number_of_rate rate) accepted ∷ [])
      rate_answers rate =
          let f = rate_frame (number_of_rate rate) in
          let decided = decide_rate s.phase f.payload flash ∙ rate_one s.phase f.payload refl in
          let yes : rate_ack (number_of_rate rate) ≡ accepted = rate_yes (number_of_rate rate) (one_of_five rate) in
          record {
            session_is = rw (board_performs f, decided);
            flash_is = rw (board_performs f, decided);
            says = board_says f ∙ rw (decided, yes);
          }

      -- Parameters for an image that fits are accepted, and the transfer has begun.
      parameters_answers : (kind : Kind) → FitsFlash kind (length image) (length flash)
          → Answers s flash (parameters_frame kind (length image)) (session s.flash 0 (Begun (transfer_for kind image))) flash
          (parameters_reply largest_packet accepted ∷ [])
      parameters_answers kind fits =
          let f = parameters_frame kind (length image) in
          let decided = parameters_accepted s.phase kind image flash fits in
          record {
            session_is = rw (board_performs f, decided);
            flash_is = rw (board_performs f, decided);
            says = board_says f ∙ rw decided;
          }

      -- The restart is accepted and closes the session.
      restart_answers : Answers s flash restart_frame (session s.flash 0 Closed) flash (restart_reply accepted ∷ [])
      restart_answers =
          let decided = decide_restart s.phase [] flash ∙ restart_none s.phase [] refl in
          record {
            session_is = rw (board_performs restart_frame, decided);
            flash_is = rw (board_performs restart_frame, decided);
            says = board_says restart_frame ∙ rw decided;
          }

    -- ---- from the last packet's acknowledgement on

    module _ (plan : Plan) (room : largest_message ≤ length output) where
      -- A frame under way to the host is a good step of it.
      good : (f : Frame) → GoodStep image (frame f) (given_with f)
      good f = record {
        hears = record { count = length f.payload; event_is = refl; payload_is = take-length f.payload };
        image_is = refl;
        room = room;
      }

      -- The host at a stage.
      abbrev at : Stage → HostSession
      at stage = arrived plan image stage

      -- It is led to the next stage.
      host_leads : (n : ℕ) (stage next : Stage) (message : List ℕ) (s : ModuleSession) (flash goal : List ℕ) (f : Frame)
          (frames rest : List Frame) (d : Bool) → Leads plan image message stage next (given_with f) → heard_in message ≡ frames
          → (load.Fits plan image next → (e : Bool) → LoadedIn n (talk (at next) s flash frames rest e) goal)
          → LoadedIn (suc n) (talk (at stage) s flash [] (f ∷ rest) d) goal
      host_leads n stage next message s flash goal f frames rest d l heard then =
          host_turn_law n (at stage) (at next) s flash goal f frames rest d l.session_is (ap heard_in l.sent_is ∙ heard) (then l.fits)

      module _ (rate : Rate) (size : ℕ) (s : ModuleSession) (flash : List ℕ) (opened : takes s ≡ true) (long : length flash ≡ s.flash) where
        -- The restart is under way.
        restart_ends : load.Fits plan image (Restarting rate size) → (d : Bool)
            → LoadedIn 2 (talk (at (Restarting rate size)) s flash (restart_frame ∷ []) [] d) flash
        restart_ends f d =
            board_turn_law 1 (at (Restarting rate size)) s _ flash flash flash restart_frame (restart_reply accepted ∷ []) [] d
            (restart_answers s flash opened long)
            (done_turn (at (Restarting rate size)) _ _ flash (restart_reply accepted) d
            (restart_step plan image (given_with (restart_reply accepted)) rate size f (good (restart_reply accepted))))

        -- The notice is under way.
        notice_ends : load.Fits plan image (Noticing rate size) → (d : Bool)
            → LoadedIn 3 (talk (at (Noticing rate size)) s flash [] (notice 0 ∷ []) d) flash
        notice_ends f d =
            host_leads 2 (Noticing rate size) (Restarting rate size) _ s flash flash (notice 0) (restart_frame ∷ []) [] d
            (notice_step plan image (given_with (notice 0)) rate size f (good (notice 0)))
            (heard_wire restart_frame (omega arith))
            restart_ends

        -- The acknowledgement of the last packet and the notice are under way.
        last_ends : (number : ℕ) → number ≡ count_of (length image) size → load.Fits plan image (Sending rate size number) → (d : Bool)
            → LoadedIn 4 (talk (at (Sending rate size number)) s flash [] (packet_reply number accepted ∷ notice 0 ∷ []) d) flash
        last_ends number last f d =
            host_leads 3 (Sending rate size number) (Noticing rate size) [] s flash flash (packet_reply number accepted) [] (notice 0 ∷ []) d
            (last_step plan image (given_with (packet_reply number accepted)) rate size number last f (good (packet_reply number accepted)))
            heard_nothing
            notice_ends

      -- ---- the packets

      -- The image is cut as the module counts it: the same Total, and the same packets, where the size may be over its length.
      module _ (rate : Rate) (size : ℕ) (p : Pieces) (width : ℕ) (c : Carries p image width) (most : width ≤ largest_flash)
          (count : count_of (length image) size ≡ total_of p) (small : size ≤ largest_packet)
          (same : (k : ℕ) → 1 ≤ k → k ≤ total_of p → packet_for image size k ≡ packet_for image p.size k) where
        -- The module after so many packets, and after all of them.
        abbrev due : ℕ → ModuleSession
        due n = session width 0 (waiting p n)

        abbrev finished : ModuleSession
        finished = session width 0 (Done p p.transfer.extent)

        -- The packet that is due then.
        abbrev next : ℕ → Frame
        next n = packet_frame image size (n + 1)

        -- The flash after it.
        abbrev flash_next : ℕ → List ℕ → List ℕ
        flash_next n now = (exchanged (due n) now (next n)).left.flash

        module _ (n : ℕ) (now : List ℕ) (long : length now ≡ width) (less : n < total_of p) where
          -- The session takes it.
          opened_still : takes (due n) ≡ true
          opened_still = waiting_takes p image width n c less most

          -- It is the packet that is due.
          packet_decided : decide_of (waiting p n) packet_command (packet_for image size (n + 1)) now ≡ taken p (n + 1) (written_with p n)
          packet_decided =
              ap (λ (payload : List ℕ). decide_of (waiting p n) packet_command payload now) (same (n + 1) (omega arith) (omega (arith, less)))
              ∙ packet_taken p image now n (rw long c) less

          -- The packet is performed as taken.
          packet_performs : (exchanged (due n) now (next n)).left
              ≡ performed (due n) (taken p (n + 1) (written_with p n)) (packet_for image size (n + 1)) now reply
          packet_performs = board_performs (due n) now opened_still long (next n) ∙ rw packet_decided

          -- What is heard is what that says.
          packet_says : heard_in (module_runs.sent_by (exchanged (due n) now (next n)).left) ≡ frames_of (taken p (n + 1) (written_with p n)).say
          packet_says = board_says (due n) now opened_still long (next n) ∙ rw packet_decided

          -- The flash keeps its length.
          flash_long : length (flash_next n now) ≡ width
          flash_long =
              let k = n + 1 in
              let w = within p.transfer.extent p.size k (cut_length p c.cut) c.cut.some (omega arith) (omega (arith, less)) in
              let f = piece_facts p image width k c (omega arith) (omega (arith, less)) in
              let put : flash_next n now ≡ laid now (place_of p k) (piece_of image p.size k) =
              ap (λ (l : module_step.Left). l.flash) packet_performs
              ∙ ap (λ (payload : List ℕ). laid now (place_of p k) (data_in payload)) (same k (omega arith) (omega (arith, less)))
              ∙ ap (laid now (place_of p k)) (data_read image p.size k) in
              ap length put
              ∙ laid_length now (place_of p k) (piece_of image p.size k) (omega (arith, long, w.inside, f.long, c.fitting.inside))
              ∙ long

          -- Before the last it is acknowledged.
          next_answers : n + 1 < total_of p → Answers (due n) now (next n) (due (n + 1)) (flash_next n now) (packet_reply (n + 1) accepted ∷ [])
          next_answers more = record {
            session_is = ap (λ (l : module_step.Left). l.session) packet_performs ∙ ap (session width 0) (taken_waits p n more);
            flash_is = refl;
            says = packet_says ∙ rw (taken_waits p n more, waiting_some p (n + 1) (omega arith));
          }

          -- The last is acknowledged, and the notice of State 0 follows.
          last_answers : n + 1 ≡ total_of p
              → Answers (due n) now (next n) finished (flash_next n now)
              (packet_reply (n + 1) accepted ∷ notice 0 ∷ [])
          last_answers last = record {
            session_is = ap (λ (l : module_step.Left). l.session) packet_performs ∙ ap (session width 0) (taken_done p n c.cut last);
            flash_is = refl;
            says = packet_says ∙ rw (taken_done p n c.cut last, state_whole_law p p.transfer.extent refl);
          }

        -- When done the session still takes events.
        done_takes : takes finished ≡ true
        done_takes =
            facts_takes finished
            (record { some = omega (arith, c.fitting.some, c.fitting.inside); most = most; waited = omega arith })
            (facts_done p width p.transfer.extent (record { fitting = c.fitting; cut = c.cut; all = refl }))

        -- The packets from a number on as they are offered, and the flash after them.
        abbrev offers_from : ℕ → ℕ → List Offer
        offers_from m k = map offer_of (packet_frames image size m k)

        abbrev flash_from : ℕ → ℕ → List ℕ → List ℕ
        flash_from m n now = (carried_after (due n) now (offers_from m (n + 1))).flash

        -- A packet is under way that so many more follow.
        abbrev Sends : ℕ → ℕ → List ℕ → Type 0
        Sends m n now =
            length now ≡ width → load.Fits plan image (Sending rate size (n + 1)) → (d : Bool)
            → LoadedIn (turns_from m) (talk (at (Sending rate size (n + 1))) (due n) now (next n ∷ []) [] d) (flash_from (suc m) n now)

        -- The last packet.
        last_sends : (n : ℕ) (now : List ℕ) → n + 1 ≡ total_of p → Sends 0 n now
        unfolding carried_after
        last_sends n now last long f d =
            let less : n < total_of p = omega (arith, last) in
            board_turn_law 4 (at (Sending rate size (n + 1))) (due n) finished now (flash_next n now)
            (flash_next n now) (next n) (packet_reply (n + 1) accepted ∷ notice 0 ∷ []) [] d (last_answers n now long less last)
            (last_ends rate size finished (flash_next n now) done_takes (flash_long n now long less) (n + 1)
            (last ∙ sym count) f d)

        -- A packet before others.
        more_sends : (m n : ℕ) (now : List ℕ) → n + 1 < total_of p → ((after : List ℕ) → Sends m (n + 1) after) → Sends (suc m) n now
        more_sends m n now more rest long f d =
            let less : n < total_of p = omega (arith, more) in
            let a = next_answers n now long less more in
            let goal = flash_from (suc m) (n + 1) (flash_next n now) in
            same_goal _ _ (flash_from (suc (suc m)) n now) goal
            (carried_on (offer_of (next n)) (offers_from (suc m) (n + 1 + 1)) (due n) (due (n + 1)) now (flash_next n now) a.session_is refl)
            (board_turn_law (suc (turns_from m)) (at (Sending rate size (n + 1))) (due n) (due (n + 1)) now (flash_next n now) goal (next n)
            (packet_reply (n + 1) accepted ∷ []) [] d a
            (host_leads (turns_from m) (Sending rate size (n + 1)) (Sending rate size (n + 1 + 1)) _ (due (n + 1)) (flash_next n now)
            goal (packet_reply (n + 1) accepted) (next (n + 1) ∷ []) [] d
            (packet_step plan image (given_with (packet_reply (n + 1) accepted)) rate size (n + 1) (omega (arith, more, count)) f
            (good (packet_reply (n + 1) accepted)))
            (heard_wire (next (n + 1)) (packet_short image size (n + 1 + 1) small))
            (rest (flash_next n now) (flash_long n now long less))))

        -- So any packet.
        packets_send : (m n : ℕ) (now : List ℕ) → n + suc m ≡ total_of p → Sends m n now
        packets_send zero n now all = last_sends n now all
        packets_send (suc m) n now all = more_sends m n now (omega (arith, all)) (λ after. packets_send m (n + 1) after (omega (arith, all)))

      -- ---- the parameters and the rate

      -- Each frame is offered.
      each_offered : (fs : List Frame) → EachFrame fs (map offer_of fs)
      each_offered [] = refl
      each_offered (f ∷ fs) = (offered f, each_offered fs)

      module _ (rate : Rate) (size : ℕ) (one : 1 ≤ size) (small : size ≤ largest_packet) (few : count_of (length image) size ≤ largest_total)
          (wished : piece_size largest_packet plan.wish ≡ size) (some : 1 ≤ length image) (short : length image ≤ longest_image) where
        -- Total.
        abbrev total : ℕ
        total = count_of (length image) size

        module _ (s : ModuleSession) (flash : List ℕ) (opened : takes s ≡ true) (long : length flash ≡ s.flash)
            (inside : base_of plan.kind + length image ≤ length flash) where
          -- The parameters.
          abbrev first : Frame
          first = parameters_frame plan.kind (length image)

          -- How the module counts the packets.
          cut : CutFor image size
          cut = cut_for image size some one small

          abbrev pieces : Pieces
          pieces = record { transfer = transfer_for plan.kind image; size = cut.cut_size }

          -- The image fits its flash, and is cut by that size.
          fitting : FitsFlash plan.kind (length image) (length flash)
          fitting = record { some = some; short = short; inside = inside }

          carries : Carries pieces image (length flash)
          carries = record {
            whole = refl;
            fitting = fitting;
            cut = record { some = cut.some; small = cut.small; within = cut.inside; total_most = rw (← cut.count) few };
          }

          -- No flash is longer than the largest.
          most : length flash ≤ largest_flash
          most = omega (arith, long, (takes_facts s opened).0.most)

          -- The module has begun.
          begun : Answers s flash first (session (length flash) 0 (waiting pieces 0)) flash (parameters_reply largest_packet accepted ∷ [])
          begun = rw (waiting_none pieces, long) (parameters_answers s flash opened long plan.kind fitting)

          -- The flash after the packets holds the image.
          flash_whole : (carried_after (session (length flash) 0 (waiting pieces 0)) flash (map offer_of (packet_frames image size total 1))).flash
              ≡ laid flash (base_of plan.kind) image
          flash_whole =
              let os = map offer_of (packet_frames image size total 1) in
              let e = frames_succeed s flash plan.kind image size (offer_of first ∷ os) opened long
              (record { fitting = fitting; size_some = one; size_most = small; total_most = few })
              (each_offered (first ∷ packet_frames image size total 1)) in
              sym (carried_on (offer_of first) os s _ flash flash begun.session_is begun.flash_is)
              ∙ carried_last (offer_of first ∷ os) s flash e.before e.last e.split
              ∙ e.leaves

          -- The parameters are under way.
          parameters_end : (m : ℕ) → suc m ≡ total → load.Fits plan image (Declaring rate) → (d : Bool)
              → LoadedIn (suc (suc (turns_from m))) (talk (at (Declaring rate)) s flash (first ∷ []) [] d) (laid flash (base_of plan.kind) image)
          parameters_end m all f d =
              let due_first = session (length flash) 0 (waiting pieces 0) in
              let goal = (carried_after due_first flash (map offer_of (packet_frames image size (suc m) 1))).flash in
              let whole : laid flash (base_of plan.kind) image ≡ goal =
              sym flash_whole ∙ ap (λ (n : ℕ). (carried_after due_first flash (map offer_of (packet_frames image size n 1))).flash) (sym all) in
              let reply_is = parameters_reply largest_packet accepted in
              same_goal _ _ (laid flash (base_of plan.kind) image) goal whole
              (board_turn_law (suc (turns_from m)) (at (Declaring rate)) s due_first flash flash goal first (reply_is ∷ []) [] d begun
              (host_leads (turns_from m) (Declaring rate) (Sending rate size 1) _ due_first flash goal reply_is (packet_frame image size 1 ∷ []) [] d
              (parameters_step plan image (given_with reply_is) rate largest_packet size (omega arith) wished (record { some = one; few = few }) f
              (good reply_is))
              (heard_wire (packet_frame image size 1) (packet_short image size 1 small))
              (packets_send rate size pieces (length flash) carries most cut.count small cut.same m 0 flash (omega (arith, all, cut.count)) refl)))

        -- The rate is under way.
        rate_ends : (s : ModuleSession) (flash : List ℕ) → takes s ≡ true → length flash ≡ s.flash
            → base_of plan.kind + length image ≤ length flash → (m : ℕ) → suc m ≡ total → load.Fits plan image (Asking rate) → (d : Bool)
            → LoadedIn (suc (suc (suc (suc (turns_from m))))) (talk (at (Asking rate)) s flash (rate_frame (number_of_rate rate) ∷ []) [] d)
            (laid flash (base_of plan.kind) image)
        rate_ends s flash opened long inside m all f d =
            let goal = laid flash (base_of plan.kind) image in
            let agreed = session s.flash 0 s.phase in
            let reply_is = rate_reply (number_of_rate rate) accepted in
            board_turn_law (suc (suc (suc (turns_from m)))) (at (Asking rate)) s agreed flash flash goal (rate_frame (number_of_rate rate))
            (reply_is ∷ []) [] d (rate_answers s flash opened long rate)
            (host_leads (suc (suc (turns_from m))) (Asking rate) (Declaring rate) _ agreed flash goal reply_is
            (parameters_frame plan.kind (length image) ∷ []) [] d
            (rate_step plan image (given_with reply_is) rate f (good reply_is))
            (heard_wire (parameters_frame plan.kind (length image)) (parameters_short plan.kind (length image)))
            (parameters_end agreed flash (counted_takes s 0 opened (omega arith)) long inside m all))

-- ---- the start

-- The host has agreed on nothing yet: its first rate is under way.
record Starts (plan : Plan) (image : List ℕ) (l : host_step.Left) : Type 0 where
  session_is : l.session ≡ arrived plan image (Asking plan.first)
  says : heard_in (sent_by l) ≡ rate_frame (number_of_rate plan.first) ∷ []
  fits : load.Fits plan image (Asking plan.first)

-- An opening that fits leads there, at once or with the answer to the start text.
starts : (kind : Kind) (w : Wishes) (image output : List ℕ) (start : Start) → w.start ≡ start → fits_file kind (length image) ≡ true
    → largest_message ≤ length output → Starts (plan_of kind w) image (started_by start image output (opening_of (number_of kind) w image output))
starts kind w image output AtOnce e fits room =
    let plan = plan_of kind w in
    let opening = opening_sends kind w image output AtOnce e fits room in
    let f = rate_frame (number_of_rate w.first) in
    record {
      session_is = ap (λ (l : host_step.Left). l.session) opening;
      says = ap (λ (l : host_step.Left). heard_in (sent_by l)) opening
          ∙ ap heard_in (take_over (wire_of f) output (length (wire_of f)) refl)
          ∙ heard_wire f (omega arith);
      fits = record { fitting = fits; staged = first_fits plan (length image) AtOnce e };
    }
starts kind w image output WithText e fits room =
    let plan = plan_of kind w in
    let f = rate_frame (number_of_rate w.first) in
    let opening = ap (λ (l : host_step.Left). l.session) (opening_sends kind w image output WithText e fits room) in
    let g : Given = record { event = host_event.Line (length start_answer); bytes = start_answer; image = image; output = output } in
    let leads = text_step plan image g (record { fitting = fits; staged = first_fits plan (length image) WithText e })
    (record { hears = record { count = length start_answer; event_is = refl; line_is = refl }; image_is = refl; room = room }) in
    record {
      session_is = rw opening leads.session_is;
      says = rw opening (ap heard_in leads.sent_is ∙ heard_wire f (omega arith));
      fits = leads.fits;
    }

-- From there on stage by stage.
pub lossless_ends : LosslessEnds
lossless_ends kind w image fits one few s flash opened long inside output reply room roomy =
    let plan = plan_of kind w in
    let size = piece_size largest_packet w.wish in
    let total = count_of (length image) size in
    let some : 1 ≤ length image = file_some kind (length image) fits in
    let counts : 1 ≤ total = count_some (length image) size some one in
    let turns : turns_of total ≡ suc (suc (suc (suc (turns_from (total - 1))))) = omega (arith, counts, turns_are (total - 1)) in
    let b = starts kind w image output w.start refl fits room in
    rw (turns, b.session_is, b.says)
    (rate_ends image output reply roomy plan room w.first size one (piece_packet largest_packet w.wish) few refl some
    (image_short kind (length image) fits) s flash opened long inside (total - 1) (omega (arith, counts)) b.fits false)
