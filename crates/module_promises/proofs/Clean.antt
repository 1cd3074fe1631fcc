-- M3: from any open session a clean transfer that fits ends in success.
use Rattle.std.specs.Prelude.{ℕ, zero, suc, ◌+◌, ◌-◌, ◌≤◌, ◌<◌, true, List, [], ◌∷◌, ◌++◌, ◌≡◌, refl, length, take}
use mathlib.Core.List.Memᴰ
use Rattle.std.proofs.Common.{append_assoc, sym, ap, ◌∙◌, zero-mul, arith, lt-ltb, take_all}
use Rattle.std.proofs.Math.Decide.{dec_le, dec_lt}
use Rattle.std.proofs.Math.Seq.{take-length}
use Rattle.octets.specs.Octets.{part_of, laid}
use Rattle.kinds.specs.Kinds.{base_of}
use Rattle.kinds.specs.KindsLaws.{FitsFlash}
use Rattle.kinds.specs.declared.Kind.{Kind}
use Rattle.pieces.specs.Pieces.{count_of}
use Rattle.pieces.specs.PiecesLaws.{count_whole, count_only}
use Rattle.commands.specs.Commands.{packet_command, parameters_command, accepted, packet_reply, notice, parameters_for, packet_for}
use Rattle.module_model.specs.Phases.{largest_flash, longest_idle, total_of}
use Rattle.module_model.proofs.PhasesLaws.{cut_total}
use Rattle.module_model.specs.Rules.{taken}
use Rattle.module_model.proofs.Due.{transfer_for, parameters_accepted, Carries, waiting, waiting_none, written_with, packet_taken}
use Rattle.module_model.proofs.Due.{taken_waits}
use Rattle.module_model.proofs.Laid.{taken_laid, last_says, flash_after, flash_long, flash_none, flash_whole}
use Rattle.module.specs.Session.{session, takes}
use Rattle.module.specs.SessionLaws.{takes_facts}
use Rattle.module.specs.Step.{Left, performed, step_of, smallest_reply}
use Rattle.module_promises.specs.Runs.{Exchange, exchange, given, Offer, carried, carried_by, carried_after, heard_in, sent_by}
use Rattle.module_promises.proofs.RunsLaws.{heard_performed, carried_append}
use Rattle.module_promises.specs.Promises.{Pause, Frames, PacketFirst, PacketsFrom, CleanTransfer, Fits, EndsInSuccess}
use Rattle.module_promises.specs.Promises.{CleanSucceeds}
use Rattle.module_promises.proofs.Forward.{waiting_takes, frame_taken, time_counted, counted_takes}
use Rattle.module_model.specs.declared.phases.Pieces.{Pieces}
use Rattle.module_model.specs.declared.phases.Phase.TheVariants.{Begun}
use Rattle.module_model.specs.declared.events.Event.TheVariants.{Elapsed}
use Rattle.module_model.specs.declared.rules.Decision.{Decision}
use Rattle.module.specs.declared.session.Session.{Session}

-- ---- pauses

-- The sum before a pause is not over 7,000 either.
pause_most : (sum : ℕ) (os : List Offer) → Pause sum os → sum ≤ longest_idle
pause_most sum [] h = h
pause_most sum (o ∷ os) h = omega (arith, pause_most (sum + h.0) os h.2)

-- After a time event the sum is as it was or counts it, and nothing else has moved.
record Elapses (s : Session) (flash : List ℕ) (ms : ℕ) (l : Left) : Type 0 where
  idle : ℕ
  most : idle ≤ s.idle + ms
  session_is : l.session ≡ session s.flash idle s.phase
  flash_is : l.flash ≡ flash

elapses : (s : Session) (flash : List ℕ) (ms : ℕ) (o : Offer) → takes s ≡ true → length flash ≡ s.flash → o.event ≡ Elapsed ms
    → s.idle + ms ≤ longest_idle → Elapses s flash ms (exchange s (given flash o)).left
unfolding step_of
elapses s flash ms o t size e short = go (dec_lt (length o.reply) smallest_reply)
  where
    go : Dec (length o.reply < smallest_reply) → Elapses s flash ms (exchange s (given flash o)).left
    go (yes no_room) =
        rw (lt-ltb (length o.reply) smallest_reply no_room)
        (record { idle = s.idle; most = omega arith; session_is = refl; flash_is = refl })
    go (no room) =
        rw (e, time_counted s ms o.payload flash o.reply t size (omega (arith, room)) short)
        (record { idle = s.idle + ms; most = omega arith; session_is = refl; flash_is = refl })

-- After a pause the session still takes events, in the same phase, over the same flash.
record Waited (s : Session) (flash : List ℕ) (os : List Offer) : Type 0 where
  idle : ℕ
  takes_on : takes (session s.flash idle s.phase) ≡ true
  after : carried_after s flash os ≡ record { session = session s.flash idle s.phase; flash = flash }

pause_waits : (s : Session) (flash : List ℕ) (sum : ℕ) (os : List Offer) → takes s ≡ true → length flash ≡ s.flash → s.idle ≤ sum
    → Pause sum os → Waited s flash os
unfolding carried_after
pause_waits s flash sum [] t size below h = record { idle = s.idle; takes_on = t; after = refl }
pause_waits s flash sum (o ∷ os) t size below h =
    let short : sum + h.0 ≤ longest_idle = pause_most (sum + h.0) os h.2 in
    let one = elapses s flash h.0 o t size h.1 (omega (arith, below, short)) in
    let next = session s.flash one.idle s.phase in
    let open_still : takes next ≡ true = counted_takes s one.idle t (omega (arith, one.most, below, short)) in
    let rest = pause_waits next flash (sum + h.0) os open_still size (omega (arith, one.most, below)) h.2 in
    record { idle = rest.idle; takes_on = rest.takes_on; after = rw (one.session_is, one.flash_is) rest.after }

-- ---- runs that end in success

-- What goes before does not matter.
ends_behind : (ys xs : List Exchange) (total : ℕ) (flash : List ℕ) → EndsInSuccess xs total flash → EndsInSuccess (ys ++ xs) total flash
ends_behind ys xs total flash e =
    record {
      before = ys ++ e.before;
      last = e.last;
      split = rw e.split (sym (append_assoc ys e.before (e.last ∷ [])));
      acknowledges = e.acknowledges;
      success = e.success;
      leaves = e.leaves;
    }

-- A run that begins with a pause ends as the rest does.
ends_after : (s : Session) (flash : List ℕ) (os ps : List Offer) (total : ℕ) (goal : List ℕ) (w : Waited s flash os)
    → EndsInSuccess (carried (session s.flash w.idle s.phase) flash ps) total goal
    → EndsInSuccess (carried s flash (os ++ ps)) total goal
ends_after s flash os ps total goal w e =
    rw (carried_append s flash os ps, w.after)
    (ends_behind (carried s flash os) (carried (session s.flash w.idle s.phase) flash ps) total goal e)

-- ---- packets

-- What the packet that is due leaves.
abbrev left_by : Pieces → List ℕ → List ℕ → ℕ → ℕ → Offer → Left
left_by p image flash n idle o =
    performed (session (length flash) idle (waiting p n)) (taken p (n + 1) (written_with p n)) (packet_for image p.size (n + 1))
    (flash_after p image flash n) o.reply

packet_leaves : (p : Pieces) (image flash : List ℕ) (n idle : ℕ) (o : Offer) → Carries p image (length flash) → n < total_of p
    → takes (session (length flash) idle (waiting p n)) ≡ true → Frames packet_command (packet_for image p.size (n + 1)) o
    → (exchange (session (length flash) idle (waiting p n)) (given (flash_after p image flash n) o)).left ≡ left_by p image flash n idle o
packet_leaves p image flash n idle o c less t f =
    let now = flash_after p image flash n in
    let s = session (length flash) idle (waiting p n) in
    let long : length now ≡ length flash = flash_long p image flash n c less in
    let still : Carries p image (length now) = rw long c in
    frame_taken s packet_command (packet_for image p.size (n + 1)) now o t long f
    ∙ ap (λ (d : Decision). performed s d (packet_for image p.size (n + 1)) now o.reply) (packet_taken p image now n still less)

-- The flash that it leaves.
leaves_flash : (p : Pieces) (image flash : List ℕ) (n idle : ℕ) (o : Offer) → Carries p image (length flash) → n < total_of p
    → (left_by p image flash n idle o).flash ≡ flash_after p image flash (n + 1)
leaves_flash p image flash n idle o c less = taken_laid p image flash n c less

-- Success after so many packets: how the run from there on ends.
abbrev Succeeds : Pieces → List ℕ → List ℕ → ℕ → ℕ → List Offer → Type 0
Succeeds p image flash n idle os =
    EndsInSuccess (carried (session (length flash) idle (waiting p n)) (flash_after p image flash n) os) (total_of p)
    (laid flash (base_of p.transfer.kind) image)

-- The pause before a packet moves nothing.
after_pause : (p : Pieces) (image flash : List ℕ) (n : ℕ) (os : List Offer) (Rest : List Offer → Type 0) → Carries p image (length flash)
    → length flash ≤ largest_flash → n < total_of p → (h : PacketFirst image p.size (n + 1) os Rest)
    → ((idle : ℕ) → takes (session (length flash) idle (waiting p n)) ≡ true → Succeeds p image flash n idle (h.packet ∷ h.rest))
    → Succeeds p image flash n 0 os
after_pause p image flash n os Rest c most less h k =
    let s = session (length flash) 0 (waiting p n) in
    let now = flash_after p image flash n in
    let goal = laid flash (base_of p.transfer.kind) image in
    let t = waiting_takes p image (length flash) n c less most in
    let w = pause_waits s now 0 h.pause t (flash_long p image flash n c less) (omega arith) h.paused in
    rw h.split (ends_after s now h.pause (h.packet ∷ h.rest) (total_of p) goal w (k w.idle w.takes_on))

-- The last packet ends in success.
last_ends : (p : Pieces) (image flash : List ℕ) (n idle : ℕ) (o : Offer) → Carries p image (length flash) → n + 1 ≡ total_of p
    → takes (session (length flash) idle (waiting p n)) ≡ true → Frames packet_command (packet_for image p.size (n + 1)) o
    → Succeeds p image flash n idle (o ∷ [])
unfolding carried_by
last_ends p image flash n idle o c last t f =
    let s = session (length flash) idle (waiting p n) in
    let now = flash_after p image flash n in
    let less : n < total_of p = omega (arith, last) in
    let x = exchange s (given now o) in
    let leaves : x.left ≡ left_by p image flash n idle o = packet_leaves p image flash n idle o c less t f in
    let heard : heard_in (sent_by x.left) ≡ packet_reply (total_of p) accepted ∷ notice 0 ∷ [] =
    ap (λ (l : Left). heard_in (sent_by l)) leaves
    ∙ heard_performed s (taken p (n + 1) (written_with p n)) (packet_for image p.size (n + 1)) now o.reply
    ∙ last_says p n c.cut last in
    record {
      before = [];
      last = x;
      split = refl;
      acknowledges = rw heard (Memᴰ.head refl);
      success = rw heard (Memᴰ.tail (Memᴰ.head refl));
      leaves =
          ap (λ (l : Left). l.flash) leaves
          ∙ leaves_flash p image flash n idle o c less
          ∙ ap (flash_after p image flash) last
          ∙ flash_whole p image flash c;
    }

-- Another packet ends as those behind it do.
next_ends : (p : Pieces) (image flash : List ℕ) (n idle : ℕ) (o : Offer) (os : List Offer) → Carries p image (length flash)
    → n + 1 < total_of p → takes (session (length flash) idle (waiting p n)) ≡ true
    → Frames packet_command (packet_for image p.size (n + 1)) o → Succeeds p image flash (n + 1) 0 os
    → Succeeds p image flash n idle (o ∷ os)
unfolding carried_by
next_ends p image flash n idle o os c less t f e =
    let s = session (length flash) idle (waiting p n) in
    let now = flash_after p image flash n in
    let goal = laid flash (base_of p.transfer.kind) image in
    let here : n < total_of p = omega (arith, less) in
    let x = exchange s (given now o) in
    let leaves : x.left ≡ left_by p image flash n idle o = packet_leaves p image flash n idle o c here t f in
    let moved : x.left.session ≡ session (length flash) 0 (waiting p (n + 1)) =
    ap (λ (l : Left). l.session) leaves ∙ ap (session (length flash) 0) (taken_waits p n less) in
    let put : x.left.flash ≡ flash_after p image flash (n + 1) =
    ap (λ (l : Left). l.flash) leaves ∙ leaves_flash p image flash n idle o c here in
    ends_behind (x ∷ []) (carried x.left.session x.left.flash os) (total_of p) goal (rw (moved, put) e)

-- Packets from the one that is due to the last, each after a pause, end in success.
packets_end : (p : Pieces) (image flash : List ℕ) (m n : ℕ) (os : List Offer) → Carries p image (length flash)
    → length flash ≤ largest_flash → n + suc m ≡ total_of p → PacketsFrom image p.size (suc m) (n + 1) os
    → Succeeds p image flash n 0 os
packets_end p image flash zero n os c most total h =
    after_pause p image flash n os (PacketsFrom image p.size zero (n + 1 + 1)) c most (omega (arith, total)) h
    (λ idle t.
    rw h.then (last_ends p image flash n idle h.packet c (omega (arith, total)) t h.sends))
packets_end p image flash (suc m) n os c most total h =
    after_pause p image flash n os (PacketsFrom image p.size (suc m) (n + 1 + 1)) c most (omega (arith, total)) h
    (λ idle t.
    next_ends p image flash n idle h.packet h.rest c (omega (arith, total)) t h.sends
    (packets_end p image flash m (n + 1) h.rest c most (omega (arith, total)) h.then))

-- ---- the transfer

-- What the parameters leave: the transfer has begun, and the flash is as lent.
parameters_leave : (s : Session) (flash : List ℕ) (kind : Kind) (image : List ℕ) (o : Offer) → takes s ≡ true → length flash ≡ s.flash
    → FitsFlash kind (length image) (length flash) → Frames parameters_command (parameters_for kind (length image)) o
    → let l = (exchange s (given flash o)).left in
    (l.session ≡ session (length flash) 0 (Begun (transfer_for kind image))) × (l.flash ≡ flash)
parameters_leave s flash kind image o t long fits f =
    let payload = parameters_for kind (length image) in
    let leaves = frame_taken s parameters_command payload flash o t long f in
    let decides = parameters_accepted s.phase kind image flash fits in
    rw (leaves, decides, long) (refl, refl)

-- A clean transfer whose packet size is not over the length of the image ends in success.
cut_succeeds : (s : Session) (flash : List ℕ) (kind : Kind) (image : List ℕ) (size : ℕ) (os : List Offer) → takes s ≡ true
    → length flash ≡ s.flash → Fits kind image size flash → size ≤ length image → CleanTransfer s.idle kind image size os
    → EndsInSuccess (carried s flash os) (count_of (length image) size) (laid flash (base_of kind) image)
unfolding carried_by
cut_succeeds s flash kind image size os t long fits within_image h =
    let p : Pieces = record { transfer = transfer_for kind image; size = size } in
    let total = count_of (length image) size in
    let goal = laid flash (base_of kind) image in
    let c : Carries p image (length flash) =
    record {
      whole = refl;
      fitting = fits.fitting;
      cut = record { some = fits.size_some; small = fits.size_most; within = within_image; total_most = fits.total_most };
    } in
    let most : length flash ≤ largest_flash = omega (arith, long, (takes_facts s t).0.most) in
    let w = pause_waits s flash s.idle h.pause t long (omega arith) h.paused in
    let now = session s.flash w.idle s.phase in
    let x = exchange now (given flash h.parameters) in
    let leaves = parameters_leave now flash kind image h.parameters w.takes_on long fits.fitting h.declares in
    let some : 1 ≤ total = cut_total p c.cut in
    let counts : total ≡ suc (total - 1) = omega (arith, some) in
    let sends : PacketsFrom image size (suc (total - 1)) 1 h.packets = rw counts at h.sends in
    let rest : Succeeds p image flash 0 0 h.packets =
    packets_end p image flash (total - 1) 0 h.packets c most (omega (arith, some)) sends in
    let begun : EndsInSuccess (carried (session (length flash) 0 (Begun (transfer_for kind image))) flash h.packets) total goal =
    rw (waiting_none p, flash_none p image flash) at rest in
    rw h.split
    (ends_after s flash h.pause (h.parameters ∷ h.packets) total goal w
    (ends_behind (x ∷ []) (carried x.left.session x.left.flash h.packets) total goal (rw (leaves.0, leaves.1) begun)))

-- A packet size over the length sends the image in one packet, as the length itself does.
pub one_packet : (image : List ℕ) (size : ℕ) → 1 ≤ length image → length image < size → count_of (length image) size ≡ 1
one_packet image size some more =
    count_only (length image) size 1 some (omega (arith, more)) (record { under = omega (arith, some); over = omega (arith, more) })

pub same_packet : (image : List ℕ) (size : ℕ) → 1 ≤ length image → length image < size
    → packet_for image size 1 ≡ packet_for image (length image) 1
unfolding part_of
same_packet image size some more =
    let n = length image in
    let all : take size image ≡ take n image = take_all size image (omega (arith, more)) ∙ sym (take-length image) in
    rw (one_packet image size some more, count_whole n some, zero-mul size, zero-mul n, all)

clean_whole : (idle : ℕ) (kind : Kind) (image : List ℕ) (size : ℕ) (os : List Offer) → 1 ≤ length image → length image < size
    → CleanTransfer idle kind image size os → CleanTransfer idle kind image (length image) os
clean_whole idle kind image size os some more h =
    let n = length image in
    let sends : PacketsFrom image size 1 1 h.packets = rw (one_packet image size some more) at h.sends in
    let whole : PacketsFrom image n 1 1 h.packets =
    record {
      pause = sends.pause;
      packet = sends.packet;
      rest = sends.rest;
      split = sends.split;
      paused = sends.paused;
      sends = rw (same_packet image size some more) at sends.sends;
      then = sends.then;
    } in
    record {
      pause = h.pause;
      parameters = h.parameters;
      packets = h.packets;
      split = h.split;
      paused = h.paused;
      declares = h.declares;
      sends = rw (count_whole n some) whole;
    }

-- So any size will do.
pub clean_succeeds : CleanSucceeds
clean_succeeds s flash kind image size os t long fits h = go (dec_le size (length image))
  where
    n : ℕ
    n = length image

    go : Dec (size ≤ length image) → EndsInSuccess (carried s flash os) (count_of (length image) size) (laid flash (base_of kind) image)
    go (yes within_image) = cut_succeeds s flash kind image size os t long fits within_image h
    go (no longer) =
        let more : n < size = omega (arith, longer) in
        let whole : Fits kind image n flash =
        record {
          fitting = fits.fitting;
          size_some = fits.fitting.some;
          size_most = omega (arith, more, fits.size_most);
          total_most = rw (count_whole n fits.fitting.some) (omega arith);
        } in
        let single : count_of n size ≡ count_of n n = one_packet image size fits.fitting.some more ∙ sym (count_whole n fits.fitting.some) in
        rw single
        (cut_succeeds s flash kind image n os t long whole (omega arith) (clean_whole s.idle kind image size os fits.fitting.some more h))
