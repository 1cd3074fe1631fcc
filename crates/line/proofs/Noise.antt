-- L3: the reader hands out each frame of the transfer at its last byte and nothing between, so the session takes a clean transfer.
use Rattle.std.specs.Prelude.{ℕ, zero, suc, ◌+◌, ◌-◌, ◌≤◌, true, List, [], ◌∷◌, ◌++◌, map, ◌≡◌, refl, length, take, drop}
use Rattle.std.proofs.Common.{append_assoc, append-nil, sym, ap, ◌∙◌, arith, take-take}
use Rattle.std.proofs.lemmas.List.{length-map}
use Rattle.octets.specs.Octets.{part_of, laid}
use Rattle.kinds.specs.Kinds.{base_of}
use Rattle.kinds.specs.declared.Kind.{Kind}
use Rattle.pieces.specs.Pieces.{count_of}
use Rattle.wire.specs.Frame.{Frame, frame, longest_payload, wire_of}
use Rattle.commands.specs.Commands.{parameters_frame, packet_frame}
use Rattle.reader.specs.Reader.{frames_in, frames_of, payload_in}
use Rattle.reader.specs.Reader as reader
use Rattle.reader_promises.specs.Runs.{Placed, placed, handed_from, handed_by}
use Rattle.reader_promises.specs.Promises.{Made}
use Rattle.reader_promises.proofs.SeenLaws.{step_size}
use Rattle.reader_promises.proofs.RoundTrip.{round_trip}
use Rattle.reader.specs.declared.steps.Reader.{Reader}
use Rattle.reader.specs.declared.steps.Heard.{Heard}
use Rattle.reader.specs.declared.steps.Heard.TheVariants.{Nothing, Frame as Whole, Dropped}
use Rattle.module.specs.Session.{takes}
use Rattle.module.specs.Step.{Left, wires_of}
use Rattle.module_promises.specs.Runs.{Exchange, Offer, exchange, given, carried, carried_by}
use Rattle.module_promises.proofs.RunsLaws.{ShortFrames}
use Rattle.module_promises.specs.Promises.{Frames, Fits, EndsInSuccess}
use Rattle.module.specs.declared.session.Session.{Session}
use Rattle.module_model.specs.declared.events.Event.TheVariants as event
use Rattle.host_promises.specs.Promises.{packets_sent}
use Rattle.board_end.specs.Board.{BoardLeft, board_with, beside, heard_by, frame_heard, board_hears}
use Rattle.line.specs.Feeds.{Fed, bytes_of, Roomy, hears_fed, BoardAfter, board_after, fed_of, clean_bytes}
use Rattle.line.proofs.TransferLaws.{not_none, last_single, last_behind, packet_frames, packets_short, parameters_short}
use Rattle.line.proofs.TransferLaws.{EachFrame, frames_succeed}
use Rattle.line.specs.Promises.{BoardSucceeds, NoiseThenTransfer}
use Rattle.board_end.specs.declared.board.Board.{Board}

-- ---- one byte

-- A byte that hands out nothing leaves session and flash.
byte_silent : (heard : Heard) (r : Reader) (s : Session) (flash reply : List ℕ) → frames_in heard r ≡ []
    → ((heard_by heard r s flash reply).board ≡ board_with r s) × ((heard_by heard r s flash reply).flash ≡ flash)
byte_silent Nothing r s flash reply e = (refl, refl)
byte_silent (Whole command n) r s flash reply e = absurd (not_none e)
byte_silent Dropped r s flash reply e = (refl, refl)

-- What the board leaves where the session takes an offer.
abbrev offered : Reader → Session → List ℕ → Offer → BoardLeft
offered r s flash o = beside r (exchange s (given flash o)).left

-- A frame is offered to the session with this reply buffer, and this is left.
record Offers (f : Frame) (reply : List ℕ) (r : Reader) (s : Session) (flash : List ℕ) (l : BoardLeft) : Type 0 where
  offer : Offer
  lends : offer.reply ≡ reply
  count : ℕ
  event_is : offer.event ≡ event.Frame f.command count
  payload_is : take count offer.payload ≡ f.payload
  leaves : l ≡ offered r s flash offer

-- So does a byte that hands it out.
byte_hands : (heard : Heard) (r : Reader) (s : Session) (flash reply : List ℕ) (f : Frame) → frames_in heard r ≡ f ∷ []
    → Offers f reply r s flash (heard_by heard r s flash reply)
unfolding frame_heard part_of
byte_hands Nothing r s flash reply f e = absurd (not_none (sym e))
byte_hands (Whole command n) r s flash reply f e =
    let same : ◌≡◌ {A = Frame} (frame command (payload_in r.store n)) f = cc in
    record {
      offer = record { event = event.Frame command n; payload = payload_in r.store n; reply = reply };
      lends = refl;
      count = n;
      event_is = ap (λ (g : Frame). event.Frame g.command n) same;
      payload_is = take-take n n (drop 4 r.store) (omega arith) ∙ ap (λ (g : Frame). g.payload) same;
      leaves = refl;
    }
byte_hands Dropped r s flash reply f e = absurd (not_none (sym e))

-- ---- one frame

-- Some bytes bring a board one frame, at the last of them: the session takes it there and nothing before.
record FrameFed (b : Board) (flash : List ℕ) (xs : List Fed) (f : Frame) : Type 0 where
  before : List BoardLeft
  reader : Reader
  made : Made reader
  offer : Offer
  frames : Frames f.command f.payload offer
  split : fed_of b flash xs ≡ before ++ (offered reader b.session flash offer ∷ [])
  after : board_after b flash xs ≡ record {
    board = board_with reader (offered reader b.session flash offer).board.session;
    flash = (offered reader b.session flash offer).flash;
  }

-- A frame that is handed out later is not handed out at this byte.
none_yet : (fs : List Frame) (k n : ℕ) (f : Frame) (rest : List Placed)
    → map (placed k) fs ++ rest ≡ placed (k + suc (suc n) - 1) f ∷ [] → (fs ≡ []) × (rest ≡ placed (suc k + suc n - 1) f ∷ [])
none_yet [] k n f rest e =
    let place : k + suc (suc n) - 1 ≡ suc k + suc n - 1 = omega arith in (refl, e ∙ ap (λ (m : ℕ). placed m f ∷ []) place)
none_yet (g ∷ gs) k n f rest e =
    let same : placed k g ≡ placed (k + suc (suc n) - 1) f = cc in
    absurd (omega (arith, ap (λ (p : Placed). p.place) same))

-- A frame handed out at the only byte.
only_one : (fs : List Frame) (k m : ℕ) (f : Frame) → map (placed k) fs ++ [] ≡ placed m f ∷ [] → fs ≡ f ∷ []
only_one [] k m f e = absurd (not_none (sym e))
only_one (g ∷ []) k m f e =
    let same : placed k g ≡ placed m f = cc in ap (λ (p : Placed). p.frame ∷ []) same
only_one (g ∷ h ∷ gs) k m f e = absurd (omega (arith, ap length e))

-- A byte that hands out nothing may go before.
frame_later : (b : Board) (flash : List ℕ) (x : Fed) (xs : List Fed) (f : Frame) (r : Reader) → (hears_fed b flash x).board ≡ board_with r b.session
    → (hears_fed b flash x).flash ≡ flash → FrameFed (board_with r b.session) flash xs f → FrameFed b flash (x ∷ xs) f
unfolding fed_of board_after
frame_later b flash x xs f r board_is flash_is h = record {
  before = hears_fed b flash x ∷ h.before;
  reader = h.reader;
  made = h.made;
  offer = h.offer;
  frames = h.frames;
  split = ap (λ (ls : List BoardLeft). hears_fed b flash x ∷ ls)
      (ap (λ (c : Board). fed_of c (hears_fed b flash x).flash xs) board_is
      ∙ ap (λ (m : List ℕ). fed_of (board_with r b.session) m xs) flash_is
      ∙ h.split);
  after =
      ap (λ (c : Board). board_after c (hears_fed b flash x).flash xs) board_is
      ∙ ap (λ (m : List ℕ). board_after (board_with r b.session) m xs) flash_is
      ∙ h.after;
}

-- A byte that hands out the frame may stand alone.
frame_now : (b : Board) (flash : List ℕ) (x : Fed) (f : Frame) (r : Reader) → Made r → Roomy (x ∷ [])
    → Offers f x.reply r b.session flash (hears_fed b flash x) → FrameFed b flash (x ∷ []) f
unfolding fed_of board_after
frame_now b flash x f r a room h = record {
  before = [];
  reader = r;
  made = a;
  offer = h.offer;
  frames = record { count = h.count; event_is = h.event_is; payload_is = h.payload_is; room = rw h.lends room.0 };
  split = ap (λ (l : BoardLeft). l ∷ []) h.leaves;
  after = ap (λ (l : BoardLeft). record { board = l.board; flash = l.flash }) h.leaves;
}

-- Bytes in which the reader hands out a frame at the last.
fed_handed : (xs : List Fed) (b : Board) (flash : List ℕ) (k : ℕ) (f : Frame) → Made b.reader → Roomy xs
    → handed_from b.reader k (bytes_of xs) ≡ placed (k + length xs - 1) f ∷ [] → FrameFed b flash xs f
unfolding handed_by board_hears
fed_handed [] b flash k f a room e = absurd (not_none (sym e))
fed_handed (x ∷ []) b flash k f a room e =
    let step = reader.step_of b.reader x.byte in
    frame_now b flash x f step.reader (step_size b.reader a x.byte) room
    (byte_hands step.heard step.reader b.session flash x.reply f (only_one (frames_of step) k (k + 1 - 1) f e))
fed_handed (x ∷ y ∷ ys) b flash k f a room e =
    let step = reader.step_of b.reader x.byte in
    let yet = none_yet (frames_of step) k (length ys) f (handed_from step.reader (suc k) (bytes_of (y ∷ ys))) e in
    let quiet = byte_silent step.heard step.reader b.session flash x.reply yet.0 in
    frame_later b flash x (y ∷ ys) f step.reader quiet.0 quiet.1
    (fed_handed (y ∷ ys) (board_with step.reader b.session) flash (suc k) f (step_size b.reader a x.byte) room.1 yet.1)

-- The wire form of a frame brings any board that frame.
fed_frame : (b : Board) (flash : List ℕ) (xs : List Fed) (f : Frame) → Made b.reader → length f.payload ≤ longest_payload
    → bytes_of xs ≡ wire_of f → Roomy xs → FrameFed b flash xs f
fed_frame b flash xs f a short e room =
    let long : length (wire_of f) ≡ 0 + length xs = omega (arith, ap length e, length-map xs (λ (x : Fed). x.byte)) in
    let handed : handed_from b.reader 0 (wire_of f) ≡ placed (length (wire_of f) - 1) f ∷ [] = round_trip b.reader f a short in
    fed_handed xs b flash 0 f a room (rw (e, ← long) handed)

-- ---- frames one behind the other

-- Bytes are parted as what they spell is.
record Parts (xs : List Fed) (es bs : List ℕ) : Type 0 where
  front : List Fed
  back : List Fed
  split : xs ≡ front ++ back
  front_is : bytes_of front ≡ es
  back_is : bytes_of back ≡ bs

-- They always are.
parts : (es bs : List ℕ) (xs : List Fed) → bytes_of xs ≡ es ++ bs → Parts xs es bs
parts [] bs xs e = record { front = []; back = xs; split = refl; front_is = refl; back_is = e }
parts (a ∷ es) bs [] e = absurd (not_none (sym e))
parts (a ∷ es) bs (x ∷ xs) e =
    let head_is : x.byte ≡ a = cc in
    let more = parts es bs xs cc in
    record {
      front = x ∷ more.front;
      back = more.back;
      split = ap (λ (l : List Fed). x ∷ l) more.split;
      front_is = ap (λ (l : List ℕ). x.byte ∷ l) more.front_is ∙ ap (λ (c : ℕ). c ∷ es) head_is;
      back_is = more.back_is;
    }

-- Of bytes with room the first ones have room, and so have the others.
roomy_parts : (ys zs : List Fed) → Roomy (ys ++ zs) → Roomy ys × Roomy zs
roomy_parts [] zs h = (tt, h)
roomy_parts (y ∷ ys) zs h = let more = roomy_parts ys zs h.1 in ((h.0, more.0), more.1)

-- Bytes behind other bytes.
fed_append : (ys zs : List Fed) (b : Board) (flash : List ℕ)
    → fed_of b flash (ys ++ zs) ≡ fed_of b flash ys ++ fed_of (board_after b flash ys).board (board_after b flash ys).flash zs
unfolding fed_of board_after
fed_append [] zs b flash = refl
fed_append (y ∷ ys) zs b flash =
    ap (λ (ls : List BoardLeft). hears_fed b flash y ∷ ls) (fed_append ys zs (hears_fed b flash y).board (hears_fed b flash y).flash)

-- The last byte leaves what the session left.
record LastLeaves (ls : List BoardLeft) (l : Left) : Type 0 where
  before : List BoardLeft
  reader : Reader
  split : ls ≡ before ++ (beside reader l ∷ [])

-- Some bytes bring a board these frames; the last byte leaves what the last of them left.
record FramesFed (b : Board) (flash : List ℕ) (xs : List Fed) (fs : List Frame) : Type 0 where
  offers : List Offer
  each : EachFrame fs offers
  last : (before : List Exchange) (x : Exchange) → carried b.session flash offers ≡ before ++ (x ∷ []) → LastLeaves (fed_of b flash xs) x.left

-- Where a frame is offered there is an exchange.
some_carried : (f : Frame) (fs : List Frame) (os : List Offer) (s : Session) (flash : List ℕ) → EachFrame (f ∷ fs) os → carried s flash os ≡ [] → ⊥
unfolding carried_by
some_carried f fs [] s flash h e = h
some_carried f fs (o ∷ os) s flash h e = not_none e

-- The wire form of one frame.
fed_one : (b : Board) (flash : List ℕ) (xs : List Fed) (f : Frame) → FrameFed b flash xs f → FramesFed b flash xs (f ∷ [])
unfolding carried_by
fed_one b flash xs f h = record {
  offers = h.offer ∷ [];
  each = (h.frames, refl);
  last = λ before x e. record {
    before = h.before;
    reader = h.reader;
    split = h.split ∙ ap (λ (y : Exchange). h.before ++ (beside h.reader y.left ∷ []))
        (last_single (exchange b.session (given flash h.offer)) x before e);
  };
}

-- Bytes before them do not matter.
last_after : (ls ms : List BoardLeft) (l : Left) → LastLeaves ms l → LastLeaves (ls ++ ms) l
last_after ls ms l h = record {
  before = ls ++ h.before;
  reader = h.reader;
  split = rw h.split (sym (append_assoc ls h.before (beside h.reader l ∷ [])));
}

-- A frame before others.
fed_more : (b : Board) (flash : List ℕ) (ys zs : List Fed) (f g : Frame) (fs : List Frame) → FrameFed b flash ys f
    → FramesFed (board_after b flash ys).board (board_after b flash ys).flash zs (g ∷ fs) → FramesFed b flash (ys ++ zs) (f ∷ g ∷ fs)
unfolding carried_by
fed_more b flash ys zs f g fs h m =
    let now = exchange b.session (given flash h.offer) in
    let moved : (board_after b flash ys).board.session ≡ now.left.session = ap (λ (a : BoardAfter). a.board.session) h.after in
    let kept : (board_after b flash ys).flash ≡ now.left.flash = ap (λ (a : BoardAfter). a.flash) h.after in
    record {
      offers = h.offer ∷ m.offers;
      each = (h.frames, m.each);
      last = λ before x e.
          let rest = carried now.left.session now.left.flash m.offers in
          let behind = last_behind now x rest before (some_carried g fs m.offers now.left.session now.left.flash m.each) e in
          let found = m.last behind.front x (rw (moved, kept) behind.split) in
          rw (fed_append ys zs b flash) (last_after (fed_of b flash ys) _ x.left found);
    }

-- Boards with a whole reader that are fed the wire forms of some frames.
abbrev FedBy : List Frame → Type 0
FedBy fs =
    (b : Board) (flash : List ℕ) (xs : List Fed) → Made b.reader → bytes_of xs ≡ wires_of fs → Roomy xs → FramesFed b flash xs fs

-- A frame before others, from any board.
fed_first : (f g : Frame) (fs : List Frame) → length f.payload ≤ longest_payload → FedBy (g ∷ fs) → FedBy (f ∷ g ∷ fs)
unfolding wires_of
fed_first f g fs short rest b flash xs a e room =
    let p = parts (wire_of f) (wires_of (g ∷ fs)) xs e in
    let rooms = roomy_parts p.front p.back (rw p.split at room) in
    let h = fed_frame b flash p.front f a short p.front_is rooms.0 in
    let now = board_after b flash p.front in
    let again : Made now.board.reader = rw h.after h.made in
    rw p.split
    (fed_more b flash p.front p.back f g fs h (rest now.board now.flash p.back again p.back_is rooms.1))

-- The last frame, from any board.
fed_last : (f : Frame) → length f.payload ≤ longest_payload → FedBy (f ∷ [])
unfolding wires_of
fed_last f short b flash xs a e room = fed_one b flash xs f (fed_frame b flash xs f a short (e ∙ append-nil (wire_of f)) room)

-- The wire forms of some frames.
fed_frames : (f : Frame) (fs : List Frame) → ShortFrames (f ∷ fs) → FedBy (f ∷ fs)
fed_frames f [] short = fed_last f short.0
fed_frames f (g ∷ fs) short = fed_first f g fs short.0 (fed_frames g fs short.1)

-- ---- the transfer

-- The bytes of packets are their wire forms.
packet_wires : (image : List ℕ) (size n k : ℕ) → packets_sent image size n k ≡ wires_of (packet_frames image size n k)
unfolding wires_of
packet_wires image size zero k = refl
packet_wires image size (suc n) k = ap (λ (l : List ℕ). wire_of (packet_frame image size k) ++ l) (packet_wires image size n (k + 1))

-- So are those of a clean transfer.
clean_wires : (kind : Kind) (image : List ℕ) (size : ℕ)
    → clean_bytes kind image size
    ≡ wires_of (parameters_frame kind (length image) ∷ packet_frames image size (count_of (length image) size) 1)
unfolding wires_of
clean_wires kind image size =
    ap (λ (l : List ℕ). wire_of (parameters_frame kind (length image)) ++ l) (packet_wires image size (count_of (length image) size) 1)

-- ---- any noise before it

-- The reader after a byte is the one that its step left.
reader_kept_law : (heard : Heard) (r : Reader) (s : Session) (flash reply : List ℕ) → (heard_by heard r s flash reply).board.reader ≡ r
unfolding frame_heard
reader_kept_law Nothing r s flash reply = refl
reader_kept_law (Whole command n) r s flash reply = refl
reader_kept_law Dropped r s flash reply = refl

-- A byte keeps the store's size.
hears_made : (b : Board) (flash : List ℕ) (x : Fed) → Made b.reader → Made (hears_fed b flash x).board.reader
unfolding board_hears
hears_made b flash x a =
    let step = reader.step_of b.reader x.byte in
    rw (reader_kept_law step.heard step.reader b.session flash x.reply) (step_size b.reader a x.byte)

-- So do any bytes.
made_after : (xs : List Fed) (b : Board) (flash : List ℕ) → Made b.reader → Made (board_after b flash xs).board.reader
unfolding board_after
made_after [] b flash a = a
made_after (x ∷ xs) b flash a = made_after xs (hears_fed b flash x).board (hears_fed b flash x).flash (hears_made b flash x a)

-- The board ends as the session does.
board_succeeds : (b : Board) (flash : List ℕ) (xs : List Fed) (fs : List Frame) (total : ℕ) (goal : List ℕ) (h : FramesFed b flash xs fs)
    → EndsInSuccess (carried b.session flash h.offers) total goal → BoardSucceeds (fed_of b flash xs) total goal
board_succeeds b flash xs fs total goal h e =
    let found = h.last e.before e.last e.split in
    record {
      before = found.before;
      last = beside found.reader e.last.left;
      split = found.split;
      acknowledges = e.acknowledges;
      success = e.success;
      leaves = e.leaves;
    }

-- A board with a whole reader and an open session.
transfer_succeeds : (b : Board) (flash : List ℕ) → Made b.reader → takes b.session ≡ true → length flash ≡ b.session.flash
    → (kind : Kind) (image : List ℕ) (size : ℕ) → Fits kind image size flash
    → (xs : List Fed) → bytes_of xs ≡ clean_bytes kind image size → Roomy xs
    → BoardSucceeds (fed_of b flash xs) (count_of (length image) size) (laid flash (base_of kind) image)
transfer_succeeds b flash a t long kind image size fits xs e room =
    let first = parameters_frame kind (length image) in
    let packets = packet_frames image size (count_of (length image) size) 1 in
    let short : ShortFrames (first ∷ packets) =
    (parameters_short kind (length image), packets_short image size (count_of (length image) size) 1 fits.size_most) in
    let h = fed_frames first packets short b flash xs a (e ∙ clean_wires kind image size) room in
    board_succeeds b flash xs (first ∷ packets) (count_of (length image) size) (laid flash (base_of kind) image) h
    (frames_succeed b.session flash kind image size h.offers t long fits h.each)

-- The board after the noise is such a board.
pub noise_then_transfer : NoiseThenTransfer
noise_then_transfer b flash a noise t long kind image size fits xs e room =
    let now = board_after b flash noise in
    transfer_succeeds now.board now.flash (made_after noise b flash a) t long kind image size fits xs e room
