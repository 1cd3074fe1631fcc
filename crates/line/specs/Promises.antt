-- What the two ends promise together, to be read without the proofs. Each statement is proved in the file named beside it.
use Rattle.std.specs.Prelude.{◌+◌, ◌<◌, ◌≤◌, ℕ, true, ◌⊎◌, ◌≡◌, get_or, length, take}
use mathlib.Core.List.{List, Memᴰ, [], ◌++◌, ◌∷◌}
use Rattle.octets.specs.Octets.{laid}
use Rattle.kinds.specs.Kinds.{base_of, fits_file, number_of}
use Rattle.kinds.specs.declared.Kind.{Kind}
use Rattle.pieces.specs.Pieces.{count_of}
use Rattle.wire.specs.Frame.{Frame}
use Rattle.commands.specs.Commands.{accepted, largest_packet, largest_total, notice, packet_reply}
use Rattle.reader_promises.specs.Promises.{Made}
use Rattle.host_model.specs.Answers.{piece_size}
use Rattle.host_model.specs.declared.plan.Rate.{Rate}
use Rattle.host_model.specs.declared.plan.Stage.TheVariants.{Restarting}
use Rattle.module_promises.specs.Promises.{Fits}
use Rattle.module_promises.specs.Runs.{heard_in}
use Rattle.module_model.specs.Answers.{count_in}
use Rattle.module.specs.Session.{takes}
use Rattle.module.specs.Step.{smallest_reply}
use Rattle.host.specs.Step.{Wishes, opening_of}
use Rattle.host_model.specs.declared.events.Answer.TheVariants.{Done}
use Rattle.host_model.specs.declared.waits.Phase.TheVariants.{Waiting}
use Rattle.host_model.specs.declared.waits.Wait.{Wait}
use Rattle.board_end.specs.Board.{BoardLeft}
use Rattle.host_promises.specs.Promises.{largest_message}
use Rattle.board_end.specs.declared.board.Board.{Board}
use Rattle.line.specs.Feeds.{BoardAfter, Fed, Roomy, board_after, bytes_of, clean_bytes, fed_of}
use Rattle.line.specs.Joined.{Allowed, HostSession, Joined, May, ModuleSession, Move, after, after_all, host_leaves, joined}
use Rattle.line.specs.Lossless.{Talk, talk_from, talks, turns_of}
use Rattle.line.specs.Wired.{Wired, Feed, MayFeed, host_answers, MayAll, fed_all, wired}

-- ---- L1, the file is in the flash

-- The host has taken a notice of State 0: it has sent the restart and waits for its answer.
pub record HasNotice (s : HostSession) : Type 0 where
  pub wait : Wait
  pub rate : Rate
  pub size : ℕ
  pub phase_is : s.phase ≡ Waiting wait
  pub stage_is : wait.stage ≡ Restarting rate size

-- A place outside the declared range, which begins at the type's address and is as long as the image.
abbrev pub Outside : Kind → List ℕ → ℕ → Type 0
Outside kind image i = (i < base_of kind) ⊎ (base_of kind + length image ≤ i)

-- The declared range lies within the flash and holds the image; every other byte is as it was.
pub record Holds (kind : Kind) (image before now : List ℕ) : Type 0 where
  pub inside : base_of kind + length image ≤ length before
  pub there : now ≡ laid before (base_of kind) image

-- What is true wherever a run of moves has led, of the flash as it was at the host's opening and as it is now.
pub record InFlash (kind : Kind) (image before : List ℕ) (j : Joined) : Type 0 where
  -- Whatever the line did, and even if the load fails: the flash keeps its length, and no byte outside the declared range has changed.
  pub length_same : length j.flash ≡ length before
  pub elsewhere : (i : ℕ) → Outside kind image i → get_or j.flash i 0 ≡ get_or before i 0
  -- Once the host has taken a notice of State 0, the declared range holds the image, now and after any further moves.
  pub noticed : HasNotice j.host → (more : List Move) → Allowed image j more → Holds kind image before (after_all image j more).flash
  -- The host says done only when it has taken such a notice.
  pub done_noticed : (m : Move) → May j m → (host_leaves image j m).answer ≡ Done → HasNotice j.host

-- L1 (File.antt). Open a host with any wishes over an image, lent again at every step, and join it to a module in any session over any
-- flash. Let the line make any moves that it may.
abbrev pub FileInFlash : Type 0
FileInFlash =
    (kind : Kind) (w : Wishes) (image output : List ℕ) (s : ModuleSession) (flash : List ℕ) (moves : List Move)
    → let start = joined (opening_of (number_of kind) w image output) s flash in
    Allowed image start moves → InFlash kind image flash (after_all image start moves)

-- The same of a board and a host's end that are fed bytes. The line may damage, lose, insert, repeat and reorder bytes as it likes, as long
-- as a frame that a reader then hands out is one that the other end has sent.
pub record InFlashByBytes (kind : Kind) (image before : List ℕ) (x : Wired) : Type 0 where
  pub length_same : length x.flash ≡ length before
  pub elsewhere : (i : ℕ) → Outside kind image i → get_or x.flash i 0 ≡ get_or before i 0
  pub noticed : HasNotice x.host.session → (more : List Feed) → MayAll image x more
      → Holds kind image before (fed_all image x more).flash
  pub done_noticed : (f : Feed) → MayFeed x f → host_answers image x f ≡ Done → HasNotice x.host.session

-- L1 of bytes (Wires.antt). The board has any reader and any session.
abbrev pub FileByBytes : Type 0
FileByBytes =
    (kind : Kind) (w : Wishes) (image output : List ℕ) (b : Board) (flash : List ℕ) (feeds : List Feed)
    → let start = wired (opening_of (number_of kind) w image output) b flash in
    MayAll image start feeds → InFlashByBytes kind image flash (fed_all image start feeds)

-- ---- L2, a line that loses nothing

-- A load is over:
pub record Loaded (t : Talk) (flash : List ℕ) : Type 0 where
  -- the host has said that it is done,
  pub says_done : t.done ≡ true
  -- the module's flash is this,
  pub holds : t.flash ≡ flash
  -- and no frame is under way.
  pub none_to_board : t.to_board ≡ []
  pub none_to_host : t.to_host ≡ []

-- L2 (Load.antt). On a line that loses nothing the load ends in done:
abbrev pub LosslessEnds : Type 0
LosslessEnds =
    -- for any type, any wishes of the caller, and any image that a file may carry,
    (kind : Kind) (w : Wishes) (image : List ℕ) → fits_file kind (length image) ≡ true
    -- in pieces of the smaller of the module's 1,024 and the wish, if that is a size and two bytes carry their number,
    → let size = piece_size largest_packet w.wish in
    1 ≤ size → count_of (length image) size ≤ largest_total
    -- from any open session of the module, whatever it has been through, over a flash of its length that the image fits,
    → (s : ModuleSession) (flash : List ℕ) → takes s ≡ true → length flash ≡ s.flash → base_of kind + length image ≤ length flash
    -- with an output of at least 2,072 bytes lent to the host and a reply buffer of at least 64 lent to the module,
    → (output reply : List ℕ) → largest_message ≤ length output → smallest_reply ≤ length reply
    -- after two turns for each packet and seven more the load is over, the image in its range and no other byte of the flash changed.
    → Loaded (talks image output reply (turns_of (count_of (length image) size)) (talk_from kind w image output s flash))
    (laid flash (base_of kind) image)

-- ---- L3, the board

-- The bytes that the board sends at a byte, and a frame that a reader hears in them.
abbrev pub sent_at : BoardLeft → List ℕ
sent_at l = take (count_in l.answer) l.reply

abbrev pub SaysAt : BoardLeft → Frame → Type 0
SaysAt l f = Memᴰ f (heard_in (sent_at l))

-- Bytes end in success:
pub record BoardSucceeds (ls : List BoardLeft) (total : ℕ) (flash : List ℕ) : Type 0 where
  -- there is a last byte, and at it
  pub before : List BoardLeft
  pub last : BoardLeft
  pub split : ls ≡ before ++ (last ∷ [])
  -- the board acknowledges the last packet,
  pub acknowledges : SaysAt last (packet_reply total accepted)
  -- sends the notice of State 0,
  pub success : SaysAt last (notice 0)
  -- and leaves this flash.
  pub leaves : last.flash ≡ flash

-- L3 (Noise.antt). Any noise, then the bytes of a clean transfer:
abbrev pub NoiseThenTransfer : Type 0
NoiseThenTransfer =
    -- for a board as the language makes one, its reader and its session with any numbers, over any flash,
    (b : Board) (flash : List ℕ) → Made b.reader
    -- after any bytes, with any reply buffers lent,
    → (noise : List Fed)
    -- if the session still takes events, and the flash has the length of its opening,
    → let now : BoardAfter = board_after b flash noise in
    takes now.board.session ≡ true → length now.flash ≡ now.board.session.flash
    -- then for any image that fits that flash, in pieces of any size that serves,
    → (kind : Kind) (image : List ℕ) (size : ℕ) → Fits kind image size now.flash
    -- the bytes of its transfer, with reply buffers of at least 64 bytes,
    → (transfer : List Fed) → bytes_of transfer ≡ clean_bytes kind image size → Roomy transfer
    -- end in success, with the image in its range and no other byte of the flash changed.
    → BoardSucceeds (fed_of now.board now.flash transfer) (count_of (length image) size) (laid now.flash (base_of kind) image)
