-- A clean transfer as frames one behind the other, and the last of a list: what the board and the load both need.
use Rattle.std.specs.Prelude.{ℕ, zero, suc, ◌+◌, ◌≤◌, true, List, [], ◌∷◌, ◌++◌, ◌≡◌, refl, length}
use Rattle.std.proofs.Common.{ap, arith}
use Rattle.octets.specs.Octets.{spelled, laid}
use Rattle.kinds.specs.Kinds.{base_of}
use Rattle.kinds.specs.declared.Kind.{Kind}
use Rattle.pieces.specs.Pieces.{count_of}
use Rattle.wire.specs.Frame.{Frame, longest_payload}
use Rattle.commands.specs.Commands.{largest_packet, parameters_frame, packet_frame}
use Rattle.commands.specs.CommandsLaws.{length_packet, piece_most}
use Rattle.module_model.specs.Phases.{longest_idle}
use Rattle.module.specs.Session.{takes}
use Rattle.module.specs.SessionLaws.{takes_facts}
use Rattle.module_promises.specs.Runs.{Offer, carried}
use Rattle.module_promises.proofs.RunsLaws.{ShortFrames}
use Rattle.module_promises.specs.Promises.{Frames, PacketsFrom, CleanTransfer, Fits, EndsInSuccess}
use Rattle.module_promises.proofs.Clean.{clean_succeeds}
use Rattle.module.specs.declared.session.Session.{Session}

-- ---- lists

-- Something is not nothing.
pub not_none : {A : Type 0} {x : A} {l : List A} → x ∷ l ≡ [] → ⊥
not_none e = omega (arith, ap length e)

-- The last of a single one.
pub last_single : {A : Type 0} (y x : A) (before : List A) → y ∷ [] ≡ before ++ (x ∷ []) → y ≡ x
last_single y x [] e = cc
last_single y x (a ∷ []) e = absurd (omega (arith, ap length e))
last_single y x (a ∷ b ∷ before) e = absurd (omega (arith, ap length e))

-- A list ends with this one.
pub record Behind {A : Type 0} (ys : List A) (x : A) : Type 0 where
  pub front : List A
  pub split : ys ≡ front ++ (x ∷ [])

-- The last of several is the last of those behind the first.
pub last_behind : {A : Type 0} (y x : A) (ys before : List A) → (ys ≡ [] → ⊥) → y ∷ ys ≡ before ++ (x ∷ []) → Behind ys x
last_behind y x ys [] some e = absurd (some cc)
last_behind y x ys (a ∷ before) some e = record { front = before; split = cc }

-- ---- the frames of a transfer

-- Packets from number k on, as frames.
abbrev pub packet_frames : List ℕ → ℕ → ℕ → ℕ → List Frame
packet_frames image size zero k = []
packet_frames image size (suc n) k = packet_frame image size k ∷ packet_frames image size n (k + 1)

-- A packet fits the wire.
pub packet_short : (image : List ℕ) (size k : ℕ) → size ≤ largest_packet → length (packet_frame image size k).payload ≤ longest_payload
packet_short image size k h = omega (arith, h, length_packet image size k, piece_most image size k)

-- So do several.
pub packets_short : (image : List ℕ) (size n k : ℕ) → size ≤ largest_packet → ShortFrames (packet_frames image size n k)
packets_short image size zero k h = tt
packets_short image size (suc n) k h = (packet_short image size k h, packets_short image size n (k + 1) h)

-- So do the parameters.
pub parameters_short : (kind : Kind) (n : ℕ) → length (parameters_frame kind n).payload ≤ longest_payload
unfolding spelled
parameters_short kind n = omega arith

-- Each frame is offered once, in order.
abbrev pub EachFrame : List Frame → List Offer → Type 0
EachFrame [] os = os ≡ []
EachFrame (f ∷ fs) [] = ⊥
EachFrame (f ∷ fs) (o ∷ os) = Frames f.command f.payload o × EachFrame fs os

-- Where the packets are, they are sent without pauses.
packets_sent_law : (image : List ℕ) (size n k : ℕ) (os : List Offer) → EachFrame (packet_frames image size n k) os → PacketsFrom image size n k os
packets_sent_law image size zero k os h = h
packets_sent_law image size (suc n) k [] h = absurd h
packets_sent_law image size (suc n) k (o ∷ os) h = record {
  pause = [];
  packet = o;
  rest = os;
  split = refl;
  paused = omega arith;
  sends = h.0;
  then = packets_sent_law image size n (k + 1) os h.1;
}

-- And behind the parameters they are a clean transfer.
transfer_sent : (idle : ℕ) (kind : Kind) (image : List ℕ) (size : ℕ) (os : List Offer) → idle ≤ longest_idle
    → EachFrame (parameters_frame kind (length image) ∷ packet_frames image size (count_of (length image) size) 1) os
    → CleanTransfer idle kind image size os
transfer_sent idle kind image size [] low h = absurd h
transfer_sent idle kind image size (o ∷ os) low h = record {
  pause = [];
  parameters = o;
  packets = os;
  split = refl;
  paused = low;
  declares = h.0;
  sends = packets_sent_law image size (count_of (length image) size) 1 os h.1;
}

-- So they end in success from any open session that the image fits.
pub frames_succeed : (s : Session) (flash : List ℕ) (kind : Kind) (image : List ℕ) (size : ℕ) (os : List Offer) → takes s ≡ true
    → length flash ≡ s.flash → Fits kind image size flash
    → EachFrame (parameters_frame kind (length image) ∷ packet_frames image size (count_of (length image) size) 1) os
    → EndsInSuccess (carried s flash os) (count_of (length image) size) (laid flash (base_of kind) image)
frames_succeed s flash kind image size os t long fits each =
    clean_succeeds s flash kind image size os t long fits
    (transfer_sent s.idle kind image size os (takes_facts s t).0.waited each)
