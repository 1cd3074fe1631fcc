-- L1 of bytes: each byte or time is a move of the joined sessions, or none.
use Rattle.std.specs.Prelude.{ℕ, ◌≤◌, Bool, true, false, List, [], ◌∷◌, ◌++◌, ◌≡◌, refl, eqb, length}
use Rattle.std.proofs.lemmas.Bool.{false≢true}
use mathlib.Core.List.Memᴰ
use Rattle.std.proofs.Common.{append-nil, sym, ap, ◌∙◌, arith, take_all}
use Rattle.std.proofs.Math.Seq.{take-length}
use Rattle.octets.specs.Octets.{Bytes}
use Rattle.octets.proofs.Choice.{either_way}
use Rattle.octets.proofs.PartLaws.{part_most}
use Rattle.kinds.specs.Kinds.{number_of}
use Rattle.kinds.specs.declared.Kind.{Kind}
use Rattle.wire.specs.Frame.{Frame, frame}
use Rattle.commands.specs.Commands.{start_answer}
use Rattle.reader.specs.Reader.{payload_in, frames_in}
use Rattle.reader.specs.Reader as reader
use Rattle.reader.specs.declared.steps.Reader.{Reader}
use Rattle.reader.specs.declared.steps.Heard.{Heard}
use Rattle.reader.specs.declared.steps.Heard.TheVariants.{Nothing, Frame as Whole, Dropped}
use Rattle.module.specs.Step as module_step
use Rattle.module_promises.proofs.RunsLaws.{heard_nothing}
use Rattle.module_model.specs.declared.events.Event.TheVariants as module_event
use Rattle.host.specs.Step as host_step
use Rattle.host.specs.Step.{opening_of}
use Rattle.host_model.specs.declared.waits.Phase.{Phase}
use Rattle.host_model.specs.declared.waits.Phase.TheVariants.{Ended, EndedAt, Waiting}
use Rattle.host_model.specs.declared.events.Event.TheVariants as host_event
use Rattle.host_model.specs.declared.events.Answer.TheVariants.{Done}
use Rattle.board_end.specs.Board as board
use Rattle.host_end.specs.HostEnd as end
use Rattle.host_end.specs.Text.{followed}
use Rattle.line.specs.Joined.{ModuleSession, HostSession, Joined, Move, board_hears_law, board_waits_law, board_opens_law, host_hears_law, host_reads, host_waits_law}
use Rattle.line.specs.Joined.{May, after, after_all, Allowed, board_gets, host_gets, board_takes, host_takes}
use Rattle.line.proofs.StepsLaws.{each_append, may_append}
use Rattle.line.specs.Lossless.{is_done}
use Rattle.line.specs.Promises.{HasNotice, InFlash, FileByBytes}
use Rattle.line.proofs.File.{file_in_flash}
use Rattle.line.specs.Wired.{Wired, Feed, board_byte, board_time, board_anew_law, host_byte, host_time, Sent, MayFeed, board_fed, host_fed, fed, host_answers, fed_all, MayAll, wired, joined_in}

-- ---- a payload as long as its frame says

-- A step takes the first bytes of what it is lent, so a count over its length is its length.
board_count : (s : ModuleSession) (command n : ℕ) (payload flash reply : List ℕ) → length payload ≤ n
    → module_step.step_of s (module_event.Frame command n) payload flash reply ≡ board_gets flash reply s (frame command payload)
unfolding module_step.step_of
board_count s command n payload flash reply h = rw (take_all n payload h, take-length payload)

phase_count : (s : HostSession) (phase : Phase) (command n : ℕ) (payload image output : List ℕ) → length payload ≤ n
    → host_step.phase_step s phase (host_event.Frame command n) payload image output
    ≡ host_step.phase_step s phase (host_event.Frame command (length payload)) payload image output
phase_count s Ended command n payload image output h = refl
phase_count s (EndedAt kind rate) command n payload image output h = refl
phase_count s (Waiting w) command n payload image output h = rw (take_all n payload h, take-length payload)

host_count : (s : HostSession) (command n : ℕ) (payload image output : List ℕ) → length payload ≤ n
    → host_step.step_of s (host_event.Frame command n) payload image output
    ≡ host_gets image output s (frame command payload)
unfolding host_step.step_of
host_count s command n payload image output h = rw (phase_count s s.phase command n payload image output h)

-- ---- one feed

-- A feed is these moves of the joined sessions.
record Moved (image : List ℕ) (x y : Wired) : Type 0 where
  moves : List Move
  may : Allowed image (joined_in x) moves
  leads : joined_in y ≡ after_all image (joined_in x) moves

-- Nothing that an end sends: the joined sessions stay.
board_still : (image : List ℕ) (x : Wired) (r : Reader) (dropped : Bool) (reply : List ℕ)
    → Moved image x (board_fed x (board.unheard r x.board.session dropped x.flash reply))
board_still image x r dropped reply = record {
  moves = [];
  may = tt;
  leads = rw (heard_nothing, append-nil x.from_board);
}

-- The payload of a frame that a reader hands out is no longer than its frame says.
payload_short : (r : Reader) (n : ℕ) → length (payload_in r.store n) ≤ n
payload_short r n = part_most r.store 4 n

-- A byte at the board.
board_heard : (image : List ℕ) (x : Wired) (reply : List ℕ) (h : Heard) (r : Reader) → Sent x.from_host (frames_in h r)
    → Moved image x (board_fed x (board.heard_by h r x.board.session x.flash reply))
unfolding board.frame_heard
board_heard image x reply Nothing r may = board_still image x r false reply
board_heard image x reply (Whole command n) r may =
    let f : Frame = frame command (payload_in r.store n) in
    record {
      moves = board_hears_law f reply ∷ [];
      may = (may f (Memᴰ.head refl), tt);
      leads =
          ap (λ (l : module_step.Left). board_takes (joined_in x) l)
          (board_count x.board.session command n (payload_in r.store n) x.flash reply (payload_short r n));
    }
board_heard image x reply Dropped r may = board_still image x r true reply

-- The answer to the start text is bytes.
bytes_of_answer : Bytes start_answer
bytes_of_answer = omega arith

-- A byte at the host that completes no frame: the answer to the start text, or nothing.
host_lined : (image : List ℕ) (x : Wired) (output : List ℕ) (r : Reader) (seen : ℕ) (dropped : Bool)
    → Moved image x (host_fed x (end.line_heard r seen x.host.session dropped image output))
unfolding end.line_heard
host_lined image x output r seen dropped =
    either_way (λ (l : end.HostLeft). Moved image x (host_fed x l)) (eqb seen (length start_answer))
    (λ e. record { moves = host_reads start_answer output ∷ []; may = (bytes_of_answer, tt); leads = refl })
    (λ e. record { moves = []; may = tt; leads = rw (heard_nothing, append-nil x.from_host) })

host_heard : (image : List ℕ) (x : Wired) (output : List ℕ) (h : Heard) (r : Reader) (seen : ℕ) → Sent x.from_board (frames_in h r)
    → Moved image x (host_fed x (end.heard_by h r seen x.host.session image output))
unfolding end.frame_heard
host_heard image x output Nothing r seen may = host_lined image x output r seen false
host_heard image x output (Whole command n) r seen may =
    let f : Frame = frame command (payload_in r.store n) in
    record {
      moves = host_hears_law f output ∷ [];
      may = (may f (Memᴰ.head refl), tt);
      leads =
          ap (λ (l : host_step.Left). host_takes (joined_in x) l)
          (host_count x.host.session command n (payload_in r.store n) image output (payload_short r n));
    }
host_heard image x output Dropped r seen may = host_lined image x output r seen true

-- Any feed.
feed_moves : (image : List ℕ) (x : Wired) (f : Feed) → MayFeed x f → Moved image x (fed image x f)
unfolding board.board_hears board.board_waits end.host_hears end.host_waits
feed_moves image x (board_byte byte reply) may =
    let read = reader.step_of x.board.reader byte in board_heard image x reply read.heard read.reader may
feed_moves image x (board_time ms reply) may = record { moves = board_waits_law ms reply ∷ []; may = (tt, tt); leads = refl }
feed_moves image x board_anew_law may = record { moves = board_opens_law ∷ []; may = (tt, tt); leads = refl }
feed_moves image x (host_byte byte output) may =
    let read = reader.step_of x.host.reader byte in
    host_heard image x output read.heard read.reader (followed start_answer x.host.seen byte) may
feed_moves image x (host_time ms output) may = record { moves = host_waits_law ms output ∷ []; may = (tt, tt); leads = refl }

-- ---- any feeds

feeds_move : (image : List ℕ) (x : Wired) (fs : List Feed) → MayAll image x fs → Moved image x (fed_all image x fs)
feeds_move image x [] may = record { moves = []; may = tt; leads = refl }
feeds_move image x (f ∷ fs) may =
    let one = feed_moves image x f may.0 in
    let rest = feeds_move image (fed image x f) fs may.1 in
    record {
      moves = one.moves ++ rest.moves;
      may = may_append May (after image) (joined_in x) one.moves rest.moves one.may (rw one.leads at rest.may);
      leads =
          rest.leads
          ∙ ap (λ (j : Joined). after_all image j rest.moves) one.leads
          ∙ sym (each_append (after image) (joined_in x) one.moves rest.moves);
    }

-- ---- L1 of bytes

-- Done is said to a frame, a line of text or a time that the joined host would say it to.
line_done : (kind : Kind) (image before : List ℕ) (x : Wired) → InFlash kind image before (joined_in x) → (output : List ℕ) (r : Reader)
    (seen : ℕ) (dropped : Bool) → (end.line_heard r seen x.host.session dropped image output).answer ≡ Done → HasNotice x.host.session
unfolding end.line_heard
line_done kind image before x i output r seen dropped =
    either_way (λ (l : end.HostLeft). l.answer ≡ Done → HasNotice x.host.session) (eqb seen (length start_answer))
    (λ e d. i.done_noticed (host_reads start_answer output) bytes_of_answer d)
    (λ e d. absurd (false≢true (ap is_done d)))

host_done : (kind : Kind) (image before : List ℕ) (x : Wired) → InFlash kind image before (joined_in x) → (output : List ℕ) (h : Heard)
    (r : Reader) (seen : ℕ) → Sent x.from_board (frames_in h r)
    → (end.heard_by h r seen x.host.session image output).answer ≡ Done → HasNotice x.host.session
unfolding end.frame_heard
host_done kind image before x i output Nothing r seen may d = line_done kind image before x i output r seen false d
host_done kind image before x i output (Whole command n) r seen may d =
    let f : Frame = frame command (payload_in r.store n) in
    i.done_noticed (host_hears_law f output) (may f (Memᴰ.head refl))
    (ap (λ (l : host_step.Left). l.answer)
    (sym (host_count x.host.session command n (payload_in r.store n) image output (payload_short r n))) ∙ d)
host_done kind image before x i output Dropped r seen may d = line_done kind image before x i output r seen true d

feed_done : (kind : Kind) (image before : List ℕ) (x : Wired) → InFlash kind image before (joined_in x) → (f : Feed) → MayFeed x f
    → host_answers image x f ≡ Done → HasNotice x.host.session
unfolding end.host_hears end.host_waits
feed_done kind image before x i (board_byte byte reply) may d = absurd (false≢true (ap is_done d))
feed_done kind image before x i (board_time ms reply) may d = absurd (false≢true (ap is_done d))
feed_done kind image before x i board_anew_law may d = absurd (false≢true (ap is_done d))
feed_done kind image before x i (host_byte byte output) may d =
    let read = reader.step_of x.host.reader byte in
    host_done kind image before x i output read.heard read.reader (followed start_answer x.host.seen byte) may d
feed_done kind image before x i (host_time ms output) may d = i.done_noticed (host_waits_law ms output) tt d

pub file_by_bytes : FileByBytes
file_by_bytes kind w image output b flash feeds may =
    let start = wired (opening_of (number_of kind) w image output) b flash in
    let run = feeds_move image start feeds may in
    let x = fed_all image start feeds in
    let i : InFlash kind image flash (joined_in x) =
    rw run.leads (file_in_flash kind w image output b.session flash run.moves run.may) in
    record {
      length_same = i.length_same;
      elsewhere = i.elsewhere;
      noticed = λ n more allowed.
          let further = feeds_move image x more allowed in
          rw (ap (λ (j : Joined). j.flash) further.leads) (i.noticed n further.moves further.may);
      done_noticed = feed_done kind image flash x i;
    }
