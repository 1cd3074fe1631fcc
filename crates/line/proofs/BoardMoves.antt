-- A step of the module keeps how all stands together.
use Rattle.std.specs.Prelude.{ℕ, ◌+◌, ◌*◌, ◌-◌, ◌≤◌, ◌<◌, Bool, true, ◌⊎◌, ◌≡◌, refl, length, None, Option, Some}
use mathlib.Core.List.Memᴰ
use mathlib.Core.List.{List, ◌++◌, Memᴰ}
use Rattle.std.proofs.Common.{⊎_elim, sym, ap, ◌∙◌, zero-mul, arith}
use Rattle.octets.specs.Octets.{Bytes, number_at, laid}
use Rattle.octets.proofs.Choice.{either_way}
use Rattle.kinds.specs.Kinds.{kind_of, base_of, longest_image}
use Rattle.kinds.specs.KindsLaws.{kind_of_number}
use Rattle.kinds.specs.declared.Kind.{Kind}
use Rattle.kinds.specs.declared.Kind.TheVariants.{Navigation}
use Rattle.pieces.specs.Pieces.{offset_of, size_at, piece_of}
use Rattle.pieces.specs.PiecesLaws.{within, length_piece, size_before, size_last, last_offset, product_step}
use Rattle.wire.specs.Frame.{Frame, frame}
use Rattle.commands.specs.Commands.{largest_packet, largest_total, parameters_command, packet_command, accepted, parameters_reply, notice}
use Rattle.commands.specs.Commands.{parameters_for, packet_for}
use Rattle.host_model.specs.declared.plan.Stage.{Stage}
use Rattle.host_model.specs.declared.plan.Stage.TheVariants.{Text, Asking, Declaring, Sending, Noticing, Restarting}
use Rattle.module_model.specs.Phases.{openable, total_of}
use Rattle.module.specs.Session.{opening_of}
use Rattle.module_model.specs.Rules.{data_in, place_of}
use Rattle.module_promises.specs.Runs.{Given, Exchange, exchange, next_of, payload_of}
use Rattle.module_model.proofs.Outcomes.{Expects, first, later, Accepted, loading, done}
use Rattle.module_model.proofs.Replies.{Quiet}
use Rattle.module_promises.proofs.Said.{Declares, AcceptsPacket, Turn, quiet, declares, writes, again, heard_of, turn_of}
use Rattle.module_model.proofs.Due.{transfer_for, type_read, length_read, total_read, number_read, data_read}
use Rattle.module_model.specs.declared.phases.Transfer.{Transfer}
use Rattle.module_model.specs.declared.phases.Pieces.{Pieces}
use Rattle.module_model.specs.declared.phases.Phase.{Phase}
use Rattle.module_model.specs.declared.phases.Phase.TheVariants.{Closed, Begun}
use Rattle.module.specs.declared.session.Stepped.{Stepped}
use Rattle.module_model.specs.declared.events.Event.{Event}
use Rattle.module_model.specs.declared.events.Event.TheVariants as event
use Rattle.host.specs.Step.{Wishes}
use Rattle.host_model.specs.declared.waits.Phase as host_phase
use Rattle.host_model.specs.declared.waits.Phase.TheVariants as host_at
use Rattle.line.specs.Joined.{Joined, board_takes, board_opens}
use Rattle.line.proofs.Filled.{Filled, Kept, fills_same, fills_more, keeps_more}
use Rattle.line.proofs.Stand.{HostFrame, rate, parameters, packet, restart, size_of, counted_of, StageStands, HostStands, Ours, filled_to, Stand}

-- The command of an event, 0 for time.
abbrev command_of : Event → ℕ
command_of (event.Frame command count) = command
command_of (event.Elapsed ms) = 0

-- The type that was found.
abbrev found_kind : Option Kind → Kind
found_kind (Some k) = k
found_kind None = Navigation

module _ (kind : Kind) (w : Wishes) (image before : List ℕ) where
  abbrev base : ℕ
  base = base_of kind

  abbrev size : ℕ
  size = size_of kind w image

  abbrev total : ℕ
  total = counted_of kind w image

  -- ---- once begun, what was allowed before still is

  frame_begun : (b : Bool) (f : Frame) → HostFrame kind w image b f → HostFrame kind w image true f
  frame_begun b f (rate r e) = rate r e
  frame_begun b f (parameters short e) = parameters short e
  frame_begun b f (packet k on some sized one most few e) = packet k refl some sized one most few e
  frame_begun b f (restart e) = restart e

  -- What was sent is still there when more has been sent.
  stage_more : (b c : Bool) (sent more : List Frame) → (b ≡ true → c ≡ true) → ((f : Frame) → Memᴰ f sent → Memᴰ f more)
      → (stage : Stage) → StageStands kind w image b sent stage → StageStands kind w image c more stage
  stage_more b c sent more up there Text h = tt
  stage_more b c sent more up there (Asking r) h = tt
  stage_more b c sent more up there (Declaring r) h = tt
  stage_more b c sent more up there (Sending r s number) h = (up h.0, h.1)
  stage_more b c sent more up there (Noticing r s) h = (up h.0, h.1)
  stage_more b c sent more up there (Restarting r s) h = there (notice 0) h

  host_more : (b c : Bool) (sent more : List Frame) → (b ≡ true → c ≡ true) → ((f : Frame) → Memᴰ f sent → Memᴰ f more)
      → (phase : host_phase.Phase) → HostStands kind w image b sent phase → HostStands kind w image c more phase
  host_more b c sent more up there host_at.Ended h = tt
  host_more b c sent more up there (host_at.EndedAt type at) h = tt
  host_more b c sent more up there (host_at.Waiting wait) h = (h.0, stage_more b c sent more up there wait.stage h.1)

  -- ---- one step, on what is given

  module _ (j : Joined) (g : Given) (h : Stand kind w image before j) (flash_is : g.flash ≡ j.flash)
      (from : (count : ℕ) (command : ℕ) → g.event ≡ event.Frame command count
      → HostFrame kind w image h.begun (frame command (payload_of g))) where
    abbrev x : Exchange
    x = exchange j.board g

    abbrev heard : List Frame
    heard = heard_of x

    -- More has been sent.
    more : (f : Frame) → Memᴰ f j.from_board → Memᴰ f (j.from_board ++ heard)
    more f m = Memᴰ.append_left heard m

    -- What stands after a step that leaves this phase and this flash.
    stood : (c : Bool) → (h.begun ≡ true → c ≡ true)
        → ((f : Frame) → HostFrame kind w image h.begun f → HostFrame kind w image c f)
        → ((most : ℕ) → most ≤ largest_total → Memᴰ (parameters_reply most accepted) heard → (most ≡ largest_packet) × (c ≡ true))
        → Kept image base before x.left.flash
        → (c ≡ true → base + length image ≤ length before)
        → (c ≡ true → Ours kind w image (next_of j.board g).phase
        × Filled image base (filled_to kind w image (next_of j.board g).phase) x.left.flash)
        → (Filled image base (length image) j.flash → Filled image base (length image) x.left.flash)
        → (Memᴰ (notice 0) heard → (c ≡ true) × Filled image base (length image) x.left.flash)
        → Stand kind w image before (board_takes j x.left)
    stood c up frames told kept inside board_at still success = record {
      begun = c;
      sound = h.sound;
      same_image = h.same_image;
      host_at = host_more h.begun c j.from_board (j.from_board ++ heard) up more j.host.phase h.host_at;
      frames = λ f m. frames f (h.frames f m);
      told = λ most few m.
          ⊎_elim
          (λ (n : Memᴰ (parameters_reply most accepted) j.from_board).
          let t = h.told most few n in (t.0, up t.1))
          (λ (n : Memᴰ (parameters_reply most accepted) heard). told most few n)
          (Memᴰ.append_cases j.from_board m);
      kept = kept;
      inside = inside;
      board_at = board_at;
      success = λ m.
          ⊎_elim
          (λ (n : Memᴰ (notice 0) j.from_board). let t = h.success n in (up t.0, still t.1))
          (λ (n : Memᴰ (notice 0) heard). success n)
          (Memᴰ.append_cases j.from_board m);
    }

    -- Nothing is accepted.
    quiet_stands : Quiet heard → x.left.flash ≡ g.flash
        → ((next_of j.board g).phase ≡ j.board.phase) ⊎ ((next_of j.board g).phase ≡ Closed)
        → Stand kind w image before (board_takes j x.left)
    quiet_stands q same phase =
        let kept_flash : x.left.flash ≡ j.flash = same ∙ flash_is in
        stood h.begun (λ e. e) (λ f e. e) (λ most few m. absurd (q.no_parameters most m)) (rw kept_flash h.kept) h.inside
        (λ on. ⊎_elim
        (λ (e : (next_of j.board g).phase ≡ j.board.phase). rw (e, kept_flash) (h.board_at on))
        (λ (e : (next_of j.board g).phase ≡ Closed). rw e (tt, (λ i less. absurd (omega (arith, less)))))
        phase)
        (λ f. rw kept_flash f) (λ m. absurd (q.no_notice m))

    -- Parameters are accepted: they are those of this load.
    declares_stands : (t : Transfer) → Declares x t → (next_of j.board g).phase ≡ Begun t
        → Stand kind w image before (board_takes j x.left)
    declares_stands t d phase = go (from d.count parameters_command d.event_is)
      where
        kept_flash : x.left.flash ≡ j.flash
        kept_flash = d.same ∙ flash_is

        begins : length image ≤ longest_image → payload_of g ≡ parameters_for kind (length image)
            → Stand kind w image before (board_takes j x.left)
        begins short is =
            let kind_is : kind ≡ t.kind =
            ap found_kind (sym (kind_of_number kind) ∙ ap kind_of (sym (type_read kind image)) ∙ ap (λ (l : List ℕ). kind_of (number_at 2 l 0)) (sym is) ∙ d.kind_is) in
            let length_is : length image ≡ t.extent =
            sym (length_read kind image short) ∙ ap (λ (l : List ℕ). number_at 4 l 2) (sym is) ∙ d.length_is in
            let transfer_is : t ≡ transfer_for kind image = rw (kind_is, length_is) in
            let room : base + length image ≤ length before =
            omega (arith, d.fitting.inside, ap base_of kind_is, length_is, ap length flash_is, h.kept.same_length) in
            stood true (λ e. refl) (frame_begun h.begun) (λ most few m. (d.said.only most few m, refl)) (rw kept_flash h.kept)
            (λ on. room) (λ on. rw phase (transfer_is, (λ i less. absurd (omega (arith, less))))) (λ f. rw kept_flash f)
            (λ m. absurd (d.said.no_notice m))

        go : HostFrame kind w image h.begun (frame parameters_command (payload_of g))
            → Stand kind w image before (board_takes j x.left)
        go (rate r e) = absurd (omega (arith, ap (λ (f : Frame). f.command) e))
        go (parameters short e) = begins short (ap (λ (f : Frame). f.payload) e)
        go (packet k on some sized one most few e) = absurd (omega (arith, ap (λ (f : Frame). f.command) e))
        go (restart e) = absurd (omega (arith, ap (λ (f : Frame). f.command) e))

    -- An acknowledged packet is one of this load.
    record Ours-heard (p : Pieces) (number : ℕ) : Type 0 where
      on : h.begun ≡ true
      some : 1 ≤ length image
      sized : 1 ≤ size
      one : 1 ≤ number
      most : number ≤ total
      carries : data_in (payload_of g) ≡ piece_of image size number
      total_is : total ≡ total_of p

    packet_heard : (p : Pieces) (number : ℕ) → AcceptsPacket j.board g p number → Ours-heard p number
    packet_heard p number a = go (from a.count packet_command a.event_is)
      where
        is_ours : (k : ℕ) → h.begun ≡ true → 1 ≤ length image → 1 ≤ size → 1 ≤ k → k ≤ total → total ≤ largest_total
            → payload_of g ≡ packet_for image size k → Ours-heard p number
        is_ours k on some sized one most few is =
            let this : number ≡ k =
            sym a.belongs.number_is ∙ ap (λ (l : List ℕ). number_at 2 l 2) is ∙ number_read image size k (omega (arith, most, few)) in
            record {
              on = on;
              some = some;
              sized = sized;
              one = omega (arith, this, one);
              most = omega (arith, this, most);
              carries = ap data_in is ∙ data_read image size k ∙ ap (piece_of image size) (sym this);
              total_is =
                  sym (total_read image size k (omega (arith, few)))
                  ∙ ap (λ (l : List ℕ). number_at 2 l 0) (sym is)
                  ∙ a.belongs.total_is;
            }

        go : HostFrame kind w image h.begun (frame packet_command (payload_of g)) → Ours-heard p number
        go (rate r e) = absurd (omega (arith, ap (λ (f : Frame). f.command) e))
        go (parameters short e) = absurd (omega (arith, ap (λ (f : Frame). f.command) e))
        go (packet k on some sized one most few e) = is_ours k on some sized one most few (ap (λ (f : Frame). f.payload) e)
        go (restart e) = absurd (omega (arith, ap (λ (f : Frame). f.command) e))

    -- An expected packet is written where its piece belongs, behind what stands there.
    record Placed (p : Pieces) (number : ℕ) : Type 0 where
      transfer_is : p.transfer ≡ transfer_for kind image
      place_is : place_of p number ≡ base + offset_of size number
      filled : Filled image base (offset_of size number) j.flash

    expects_placed : (p : Pieces) (number : ℕ) → h.begun ≡ true → Expects j.board.phase p number → Placed p number
    expects_placed p number on (first e one) =
        let at = rw e at (h.board_at on) in
        let none : (s : ℕ) → offset_of s number ≡ 0 = λ s. rw one (zero-mul s) in
        record {
          transfer_is = at.0;
          place_is = rw (at.0, none p.size, none size);
          filled = rw (none size) at.1;
        }
    expects_placed p number on (later count written e next) =
        let at = rw e at (h.board_at on) in
        let back : number - 1 ≡ count = omega (arith, next) in
        record { transfer_is = at.0.0; place_is = rw (at.0.0, at.0.1); filled = rw back at.1 }

    -- The expected packet is accepted and written.
    writes_stands : (p : Pieces) (number : ℕ) → AcceptsPacket j.board g p number → Expects j.board.phase p number
        → x.left.flash ≡ laid g.flash (place_of p number) (data_in (payload_of g)) → Stand kind w image before (board_takes j x.left)
    writes_stands p number a expects put =
        stood h.begun (λ e. e) (λ f e. e) (λ most few m. absurd (a.said.no_parameters most m))
        (rw now_is (keeps_more image base o size j.flash ends room before h.kept)) h.inside (λ on. at_after a.after)
        (λ f. rw now_is (fills_same image base o size j.flash ends room (length image) f))
        (λ m. (k.on, all_filled (a.notice_last m)))
      where
        k : Ours-heard p number
        k = packet_heard p number a

        at : Placed p number
        at = expects_placed p number k.on expects

        o : ℕ
        o = offset_of size number

        now_is : x.left.flash ≡ laid j.flash (base + o) (piece_of image size number)
        now_is = put ∙ rw (flash_is, at.place_is, k.carries)

        long : length (piece_of image size number) ≡ size_at (length image) size number
        long = length_piece image size number k.some k.sized k.one k.most

        ends : o + length (piece_of image size number) ≤ length image
        ends = rw long (within (length image) size number k.some k.sized k.one k.most).inside

        room : base + length image ≤ length j.flash
        room = omega (arith, h.inside k.on, h.kept.same_length)

        filled : Filled image base (o + length (piece_of image size number)) x.left.flash
        filled = rw now_is (fills_more image base o size j.flash ends room at.filled)

        all_filled : number ≡ total_of p → Filled image base (length image) x.left.flash
        all_filled last =
            let end : number ≡ total = last ∙ sym k.total_is in
            let whole : o + length (piece_of image size number) ≡ length image =
            rw (long, end, size_last (length image) size) (omega (arith, last_offset (length image) size)) in
            rw whole at filled

        at_after : Accepted (next_of j.board g).phase p number
            → Ours kind w image (next_of j.board g).phase
            × Filled image base (filled_to kind w image (next_of j.board g).phase) x.left.flash
        at_after (loading written e less) =
            let under : number < total = omega (arith, less, k.total_is) in
            let mine : length (piece_of image size number) ≡ size = long ∙ size_before (length image) size number under in
            let theirs : length (piece_of image size number) ≡ p.size =
            ap length (sym k.carries) ∙ a.belongs.size_is ∙ size_before p.transfer.extent p.size number less in
            let upto : o + length (piece_of image size number) ≡ number * size =
            ap (λ (m : ℕ). o + m) mine ∙ sym (product_step number size k.one) in
            rw e ((at.transfer_is, sym theirs ∙ mine), rw upto at filled)
        at_after (done e last) = rw e (at.transfer_is, all_filled last)

    -- A repeat is acknowledged and nothing is written.
    again_stands : (p : Pieces) (number : ℕ) → AcceptsPacket j.board g p number → Accepted j.board.phase p number
        → x.left.flash ≡ g.flash → Stand kind w image before (board_takes j x.left)
    again_stands p number a behind same =
        stood h.begun (λ e. e) (λ f e. e) (λ most few m. absurd (a.said.no_parameters most m)) (rw kept_flash h.kept) h.inside
        (λ on. at_after on behind a.after) (λ f. rw kept_flash f) (λ m. (k.on, whole behind (a.notice_last m)))
      where
        k : Ours-heard p number
        k = packet_heard p number a

        kept_flash : x.left.flash ≡ j.flash
        kept_flash = same ∙ flash_is

        whole : Accepted j.board.phase p number → number ≡ total_of p → Filled image base (length image) x.left.flash
        whole (loading written e less) last = absurd (omega (arith, less, last))
        whole (done e is) last = rw kept_flash (rw e at (h.board_at k.on)).1

        at_after : h.begun ≡ true → Accepted j.board.phase p number → Accepted (next_of j.board g).phase p number
            → Ours kind w image (next_of j.board g).phase
            × Filled image base (filled_to kind w image (next_of j.board g).phase) x.left.flash
        at_after on (loading written e less) (loading wrote f more) = rw (f, kept_flash) (rw e at (h.board_at on))
        at_after on (loading written e less) (done f last) = absurd (omega (arith, less, last))
        at_after on (done e last) (loading wrote f more) = absurd (omega (arith, more, last))
        at_after on (done e last) (done f is) = rw (f, kept_flash) (rw e at (h.board_at on))

    -- Any step of the module.
    pub step_stands : Bytes g.payload → Stand kind w image before (board_takes j x.left)
    step_stands bytes = go (turn_of j.board g bytes)
      where
        go : Turn j.board g → Stand kind w image before (board_takes j x.left)
        go (quiet q same phase) = quiet_stands q same phase
        go (declares t d phase) = declares_stands t d phase
        go (writes p number a expects put) = writes_stands p number a expects put
        go (again p number a behind same put) = again_stands p number a behind put

  -- ---- the session opened anew

  opens_at : (flash : List ℕ) → Ours kind w image (opening_of flash).session.phase
      × Filled image base (filled_to kind w image (opening_of flash).session.phase) flash
  unfolding opening_of
  opens_at flash =
      either_way (λ (r : Stepped). Ours kind w image r.session.phase
      × Filled image base (filled_to kind w image r.session.phase) flash) (openable (length flash))
      (λ e. (tt, (λ i less. absurd (omega (arith, less))))) (λ e. (tt, (λ i less. absurd (omega (arith, less)))))

  pub opens_stands : (j : Joined) → Stand kind w image before j → Stand kind w image before (board_opens j)
  opens_stands j h = record {
    begun = h.begun;
    sound = h.sound;
    same_image = h.same_image;
    host_at = h.host_at;
    frames = h.frames;
    told = h.told;
    kept = h.kept;
    inside = h.inside;
    board_at = λ on. opens_at j.flash;
    success = h.success;
  }
