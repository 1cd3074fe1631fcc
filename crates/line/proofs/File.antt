-- L1: whatever the line does, once the host has taken the notice the file is in the flash.
use Rattle.refusals.specs.declared.Refusal.{Refusal}
use Prim.Native.Nat.{ℕ}
use Rattle.std.specs.Prelude.{Bool, ◌≡◌, ltb, length, take}
use Rattle.std.proofs.Math.Bool.{true, false}
use Rattle.std.proofs.lemmas.Bool.{false≢true}
use mathlib.Core.List.{List, [], ◌∷◌, Memᴰ}
use Rattle.std.proofs.Math.Path.{refl}
use Rattle.std.proofs.Common.{sym, ap, ◌∙◌}
use Rattle.std.proofs.Math.Seq.{take-length}
use Rattle.octets.specs.Octets.{over}
use Rattle.octets.proofs.OctetsLaws.{take_over}
use Rattle.octets.proofs.Choice.{either_way}
use Rattle.refusals.specs.Refusals.{no_room, wrong_image_length}
use Rattle.kinds.specs.Kinds.{number_of, base_of}
use Rattle.kinds.specs.KindsLaws.{kind_of_number}
use Rattle.kinds.specs.declared.Kind.{Kind}
use Rattle.wire.specs.Frame.{Frame, frame}
use Rattle.commands.specs.Commands.{notice}
use Rattle.host_model.specs.declared.nexts.Next.{Next}
use Rattle.host_model.specs.Nexts.{plan_next}
use Rattle.host_model.specs.declared.plan.Rate.{Rate}
use Rattle.host_model.specs.declared.plan.Start.{Start}
use Rattle.host_model.specs.declared.plan.Start.TheVariants.{WithText, AtOnce}
use Rattle.module_promises.proofs.RunsLaws.{heard_nothing}
use Rattle.module_promises.specs.Runs.{heard_in}
use Rattle.module_model.specs.declared.events.Event.TheVariants as module_event
use Rattle.module_model.specs.declared.events.Event as module_declared
use Rattle.host_model.specs.Waits.{first_stage, loadable}
use Rattle.host.specs.Session.{stepped, arises}
use Rattle.host_model.specs.Messages.{message_of}
use Rattle.host.specs.Step.{Wishes, Left, left, plan_of, waiting_of, ended_of, sends, plan_opening, opening_of, performs}
use Rattle.host_promises.specs.Runs.{sent_by, after_of}
use Rattle.host_model.proofs.WaitsLaws.{first_fits}
use Rattle.host_promises.proofs.Arises.{reached_arises}
use Rattle.host_promises.specs.Promises.{Hears}
use Rattle.host_model.specs.declared.events.Event.{Event}
use Rattle.host_model.specs.declared.events.Event.TheVariants as host_event
use Rattle.host_model.specs.declared.events.Answer.TheVariants.{Done, Sent, Refused}
use Rattle.host_model.specs.declared.waits.Phase.TheVariants.{Waiting}
use Rattle.line.specs.Joined.{ModuleSession, Joined, Move, board_hears_law, board_waits_law, board_opens_law, host_hears_law, host_reads, host_waits_law}
use Rattle.line.specs.Joined.{May, host_leaves, after, after_all, Allowed, joined}
use Rattle.line.specs.Promises.{HasNotice, InFlash, FileInFlash}
use Rattle.line.proofs.Filled.{whole}
use Rattle.line.proofs.Stand.{HostFrame, StageStands, HostStands, Stand}
use Rattle.line.proofs.BoardMoves as board
use Rattle.line.proofs.HostMoves as host
use Rattle.line.proofs.HostMoves.{stage_frames}
use Rattle.line.specs.Lossless.{is_done}

-- ---- what an end is given in a move

-- What a frame's event carries; nothing of the others.
abbrev command_in : Event → ℕ
command_in (host_event.Frame command count) = command
command_in (host_event.Line count) = 0
command_in (host_event.Elapsed ms) = 0

abbrev count_in : Event → ℕ
count_in (host_event.Frame command count) = count
count_in (host_event.Line count) = 0
count_in (host_event.Elapsed ms) = 0

abbrev is_frame : Event → Bool
is_frame (host_event.Frame command count) = true
is_frame (host_event.Line count) = false
is_frame (host_event.Elapsed ms) = false

-- The frame that is heard is the one that was handed over.
heard_this : (f e : Frame) (image output : List ℕ)
    → Hears (record { event = host_event.Frame f.command (length f.payload); bytes = f.payload; image = image; output = output }) e
    → e ≡ f
heard_this f e image output h =
    let command_is : e.command ≡ f.command = ap command_in (sym h.event_is) in
    let count_is : h.count ≡ length f.payload = ap count_in (sym h.event_is) in
    let payload_is : e.payload ≡ f.payload =
    sym h.payload_is ∙ ap (λ (n : ℕ). take n f.payload) count_is ∙ take-length f.payload in
    λ i. frame (command_is i) (payload_is i)

abbrev module_command : module_declared.Event → ℕ
module_command (module_event.Frame command count) = command
module_command (module_event.Elapsed ms) = 0

abbrev is_module_frame : module_declared.Event → Bool
is_module_frame (module_event.Frame command count) = true
is_module_frame (module_event.Elapsed ms) = false

module _ (kind : Kind) (w : Wishes) (image before : List ℕ) where
  -- ---- one move

  move_stands : (j : Joined) → Stand kind w image before j → (m : Move) → May j m → Stand kind w image before (after image j m)
  move_stands j h (board_hears_law f reply) may =
      board.step_stands kind w image before j _ h refl
      (λ count command e.
      let this : frame command (take (length f.payload) f.payload) ≡ f =
      rw (take-length f.payload) (ap (λ (c : ℕ). frame c f.payload) (ap module_command (sym e))) in
      rw this (h.frames f may.0))
      may.1
  move_stands j h (board_waits_law ms reply) may =
      board.step_stands kind w image before j _ h refl (λ count command e. absurd (false≢true (ap is_module_frame e))) tt
  move_stands j h board_opens_law may = board.opens_stands kind w image before j h
  move_stands j h (host_hears_law f output) may =
      host.step_stands kind w image before j h _ f.payload output may.1 (λ e k. mathlib.Core.List.Memᴰ.cast (heard_this f e image output k) may.0)
  move_stands j h (host_reads line output) may =
      host.step_stands kind w image before j h _ line output may (λ e k. absurd (false≢true (ap is_frame k.event_is)))
  move_stands j h (host_waits_law ms output) may =
      host.step_stands kind w image before j h _ [] output tt (λ e k. absurd (false≢true (ap is_frame k.event_is)))

  -- The host says done only when it has the notice.
  move_done : (j : Joined) → Stand kind w image before j → (m : Move) → May j m → (host_leaves image j m).answer ≡ Done → HasNotice j.host
  move_done j h (board_hears_law f reply) may d = absurd (false≢true (ap is_done d))
  move_done j h (board_waits_law ms reply) may d = absurd (false≢true (ap is_done d))
  move_done j h board_opens_law may d = absurd (false≢true (ap is_done d))
  move_done j h (host_hears_law f output) may d =
      host.done_noticed kind w image before j h _ f.payload output may.1 (λ e k. mathlib.Core.List.Memᴰ.cast (heard_this f e image output k) may.0)
      (ap is_done d)
  move_done j h (host_reads line output) may d =
      host.done_noticed kind w image before j h _ line output may (λ e k. absurd (false≢true (ap is_frame k.event_is))) (ap is_done d)
  move_done j h (host_waits_law ms output) may d =
      host.done_noticed kind w image before j h _ [] output tt (λ e k. absurd (false≢true (ap is_frame k.event_is))) (ap is_done d)

  -- What the module has sent stays sent.
  move_sent : (j : Joined) (m : Move) (f : Frame) → Memᴰ f j.from_board → Memᴰ f (after image j m).from_board
  move_sent j (board_hears_law e reply) f n = mathlib.Core.List.Memᴰ.append_left _ n
  move_sent j (board_waits_law ms reply) f n = mathlib.Core.List.Memᴰ.append_left _ n
  move_sent j board_opens_law f n = n
  move_sent j (host_hears_law e output) f n = n
  move_sent j (host_reads line output) f n = n
  move_sent j (host_waits_law ms output) f n = n

  -- ---- any moves

  moves_stand : (j : Joined) (ms : List Move) → Stand kind w image before j → Allowed image j ms → Stand kind w image before (after_all image j ms)
  moves_stand j [] h may = h
  moves_stand j (m ∷ ms) h may = moves_stand (after image j m) ms (move_stands j h m may.0) may.1

  moves_sent : (j : Joined) (ms : List Move) (f : Frame) → Memᴰ f j.from_board → Memᴰ f (after_all image j ms).from_board
  moves_sent j [] f n = n
  moves_sent j (m ∷ ms) f n = moves_sent (after image j m) ms f (move_sent j m f n)

  -- What stands together says of the flash all that L1 does.
  stand_flash : (j : Joined) → Stand kind w image before j → InFlash kind image before j
  stand_flash j h = record {
    length_same = h.kept.same_length;
    elsewhere = h.kept.elsewhere;
    noticed = λ n more may.
        let at : HostStands kind w image h.begun j.from_board (Waiting n.wait) = rw n.phase_is at h.host_at in
        let sent : Memᴰ (notice 0) j.from_board = rw n.stage_is at at.1 in
        let k = moves_stand j more h may in
        let s = k.success (moves_sent j more (notice 0) sent) in
        record { inside = k.inside s.0; there = whole image (base_of kind) before (after_all image j more).flash (k.inside s.0) k.kept s.1 };
    done_noticed = move_done j h;
  }

  -- ---- the opening

  module _ (s : ModuleSession) where
    -- Nothing has been sent by the module.
    opened : (x : Left) → arises x.session ≡ true → x.session.image ≡ length image → HostStands kind w image false [] x.session.phase
        → ((f : Frame) → Memᴰ f (heard_in (sent_by x)) → HostFrame kind w image false f) → Stand kind w image before (joined x s before)
    opened x sound same at frames = record {
      begun = false;
      sound = sound;
      same_image = same;
      host_at = at;
      frames = frames;
      told = λ most few m. absurd (mathlib.Core.List.Memᴰ.not-nil m);
      kept = record { same_length = refl; elsewhere = λ i out. refl };
      inside = λ on. absurd (false≢true on);
      board_at = λ on. absurd (false≢true on);
      success = λ m. absurd (mathlib.Core.List.Memᴰ.not-nil m);
    }

    -- The first stage is before the parameters.
    first_stands : (start : Start) (first : Rate) → StageStands kind w image false [] (first_stage start first)
    first_stands WithText first = tt
    first_stands AtOnce first = tt

    -- A refused opening has sent nothing.
    refused_stands : (refusal : Refusal) (output : List ℕ) → arises (ended_of (length image)) ≡ true
        → Stand kind w image before (joined (left (stepped (ended_of (length image)) (Refused refusal)) output) s before)
    refused_stands refusal output sound =
        opened (left (stepped (ended_of (length image)) (Refused refusal)) output) sound refl tt
        (λ f m. absurd (mathlib.Core.List.Memᴰ.not-nil (rw heard_nothing at m)))

    plan_opened : (output : List ℕ) → arises (plan_opening (plan_of kind w) image output).session ≡ true
        → Stand kind w image before (joined (plan_opening (plan_of kind w) image output) s before)
    unfolding plan_next sends
    plan_opened output =
        let stands : Next → Type 0 = λ n.
        let x = performs (ended_of (length image)) n image output in
        arises x.session ≡ true → Stand kind w image before (joined x s before) in
        either_way stands (loadable kind (length image))
        (λ fits.
        let stage = first_stage w.start w.first in
        let message : List ℕ = message_of (plan_of kind w) image stage in
        either_way (λ (x : Left). arises x.session ≡ true → Stand kind w image before (joined x s before))
        (ltb (length output) (length message))
        (λ short. refused_stands no_room output)
        (λ room sound. opened (left (stepped (waiting_of (length image) (plan_of kind w) stage 0 0) (Sent (length message))) (over message output)) sound refl (refl, first_stands w.start w.first) (λ f m.
        stage_frames kind w image false [] stage fits (first_fits (plan_of kind w) (length image) w.start refl)
        (first_stands w.start w.first) f
        (let heard : Memᴰ f (heard_in (take (length message) (over message output))) = m in
        rw (take_over message output (length message) refl) at heard))))
        (λ none. refused_stands wrong_image_length output)

pub file_in_flash : FileInFlash
unfolding opening_of after_of
file_in_flash kind w image output s flash moves may =
    let start = joined (opening_of (number_of kind) w image output) s flash in
    let sound = reached_arises (number_of kind) w image output [] in
    let stands : Stand kind w image flash start =
    rw (kind_of_number kind) (plan_opened kind w image flash s output (rw (kind_of_number kind) at sound)) in
    stand_flash kind w image flash _ (moves_stand kind w image flash start moves stands may)
