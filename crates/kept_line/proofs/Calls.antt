-- L1 of the calls: each is a byte or a time for the ends that the bytes keep, or the board's opening anew, or nothing.
use Rattle.std.specs.Prelude.{ℕ, ◌^◌, ◌≤◌, ◌<◌, true, ◌≡◌, eqb, ltb, length, take}
use mathlib.Core.List.{List, [], ◌∷◌, ◌++◌, append-nil, Memᴰ}
use Rattle.std.proofs.Math.Path.{refl, ap}
use Rattle.std.proofs.Common.{sym, ◌∙◌, arith, ltb-false}
use Rattle.octets.specs.Octets.{Bytes, part_of}
use Rattle.octets.proofs.PartLaws.{part_laid}
use Rattle.octets.proofs.Choice.{either_way}
use Rattle.kinds.specs.Kinds.{number_of}
use Rattle.kinds.specs.declared.Kind.{Kind}
use Rattle.wire.specs.Frame.{Frame}
use Rattle.commands.specs.Commands.{start_text, start_answer}
use Rattle.reader.specs.Reader as reader
use Rattle.reader.specs.Moves as moves
use Rattle.reader_promises.specs.Runs as reader_runs
use Rattle.module_promises.specs.Runs.{heard_in}
use Rattle.module_promises.proofs.RunsLaws.{heard_nothing}
use Rattle.module_model.specs.Answers as module_answers
use Rattle.host_model.specs.Events.{load_done}
use Rattle.host.specs.Step.{opening_of}
use Rattle.host.specs.declared.session.Session.{Session}
use Rattle.host_model.specs.declared.plan.Stage.{Stage}
use Rattle.host_model.specs.declared.plan.Stage.TheVariants.{Text, Asking, Declaring, Sending, Noticing, Restarting}
use Rattle.host_model.specs.declared.waits.Wait.{Wait}
use Rattle.host_model.specs.declared.waits.Phase.{Phase}
use Rattle.host_model.specs.declared.waits.Phase.TheVariants.{Ended, EndedAt, Waiting}
use Rattle.host_end.specs.HostEnd.{HostLeft, host_hears, host_waits}
use Rattle.host_end.specs.Text.{followed}
use Rattle.host_end.specs.declared.end.HostEnd.{HostEnd}
use Rattle.posts.specs.Caller.{called_step, called_of, caller_of, caller_hears, caller_waits}
use Rattle.posts.specs.Post.{PostLeft, opened_post, is_open, silent, begins, listens, post_hears, post_waits}
use Rattle.posts.specs.declared.caller.Caller.{Caller}
use Rattle.posts.specs.declared.post.Post.{Post}
use Rattle.line.proofs.StepsLaws.{each_append, may_append}
use Rattle.line.specs.Wired.{Wired, Feed, board_byte, board_time, board_anew_law, host_byte, host_time, completes, Sent, MayFeed, host_fed, fed, fed_all, MayAll, wired}
use Rattle.line.specs.Promises.{HasNotice, InFlashByBytes}
use Rattle.line.proofs.Wires.{file_by_bytes}
use Rattle.kept_host.specs.Kept.{Kept, stage_number, stage_words}
use Rattle.kept_host.specs.Record.{restarting_stage}
use Rattle.kept_module.specs.Kept as module_kept
use Rattle.kept_caller.specs.Kept.{caller_bytes, caller_in, caller_kept, kept_as, kept_hears, kept_waits}
use Rattle.kept_caller.specs.Promises as caller
use Rattle.kept_caller.proofs.Back as caller_back
use Rattle.kept_caller.proofs.CallLaws.{kept_opening_law, kept_call}
use Rattle.kept_post.specs.Kept as post_kept_law
use Rattle.kept_post.specs.Kept.{post_bytes, post_in, post_kept}
use Rattle.kept_post.specs.Promises as post
use Rattle.kept_post.proofs.Back as post_back
use Rattle.kept_post.proofs.CallLaws as post_calls
use Rattle.kept_line.specs.Called.{Called, Call, post_byte, post_time, caller_byte, caller_time, MayCall, post_called, caller_called, ours, called, caller_answers, called_all, MayCalls, begun}
use Rattle.kept_line.specs.Promises.{FileByCalls}
use Rattle.kept_line.proofs.Done.{hears_tells, waits_tells}

-- The ends that the bytes keep, on one line.
abbrev wired_in : Called → Wired
wired_in x = record {
  host = (caller_in x.caller).end;
  board = (post_in x.post).board;
  flash = x.flash;
  from_host = x.from_host;
  from_board = x.from_board;
}

-- Both ends are as the calls leave them.
record Good (x : Called) : Type 0 where
  c : Caller
  st : List ℕ
  caller_is : x.caller ≡ caller_kept c st
  caller_keeps : caller.Keeps c
  caller_room : caller_bytes ≤ length st
  p : Post
  pst : List ℕ
  post_is : x.post ≡ post_kept p pst
  post_keeps : post.Keeps p
  post_room : post_bytes ≤ length pst

module _ (x : Called) (g : Good x) where
  caller_in_law : caller_in x.caller ≡ g.c
  caller_in_law = ap caller_in g.caller_is ∙ (caller_back.kept_back g.c g.st g.caller_keeps g.caller_room).0

  post_in_law : post_in x.post ≡ g.p
  post_in_law = ap post_in g.post_is ∙ (post_back.kept_back g.p g.pst g.post_keeps g.post_room).0

  -- A call of the caller tells what the caller's own step leaves, and again there is such a caller.
  own : caller.SameCall kept_hears kept_waits g.c g.st
  own = kept_call g.c g.st g.caller_keeps g.caller_room

  hears_is : (byte : ℕ) (image output : List ℕ)
      → kept_hears x.caller byte image output ≡ kept_as (caller_hears g.c byte image output) (caller_kept g.c g.st)
  hears_is byte image output = ap (λ (s : List ℕ). kept_hears s byte image output) g.caller_is ∙ own.hears_same byte image output

  waits_is : (ms : ℕ) (image output : List ℕ)
      → kept_waits x.caller ms image output ≡ kept_as (caller_waits g.c ms image output) (caller_kept g.c g.st)
  waits_is ms image output = ap (λ (s : List ℕ). kept_waits s ms image output) g.caller_is ∙ own.waits_same ms image output

-- A call is these feeds of the ends.
record Led (image : List ℕ) (x y : Called) : Type 0 where
  feeds : List Feed
  may : MayAll image (wired_in x) feeds
  leads : wired_in y ≡ fed_all image (wired_in x) feeds
  good : Good y

-- ---- a call of the caller

-- What a step of the caller leaves, and how the call tells it.
module _ (image : List ℕ) (x : Called) (g : Good x) (k : Kept) (l : HostLeft) (same : k ≡ kept_as (called_of g.c l) (caller_kept g.c g.st))
    (keeps : caller.Keeps (called_of g.c l).caller)
  where
    after : List ℕ
    after = caller_kept g.c g.st

    after_room : caller_bytes ≤ length after
    unfolding after
    after_room = rw (caller_back.kept_back g.c g.st g.caller_keeps g.caller_room).1 g.caller_room

    caller_good : Good (caller_called x k)
    unfolding after
    caller_good = record {
      c = (called_of g.c l).caller;
      st = after;
      caller_is = ap (λ (k : Kept). k.state) same;
      caller_keeps = keeps;
      caller_room = after_room;
      p = g.p;
      pst = g.pst;
      post_is = g.post_is;
      post_keeps = g.post_keeps;
      post_room = g.post_room;
    }

    caller_leads : wired_in (caller_called x k) ≡ host_fed (wired_in x) l
    unfolding called_step caller_good
    caller_leads =
        let whole : Caller → Kept → Wired = λ c k. record {
          host = c.end;
          board = (post_in x.post).board;
          flash = x.flash;
          from_host = x.from_host ++ heard_in (take k.count k.output);
          from_board = x.from_board;
        } in
        ap (λ (c : Caller). whole c k) (caller_in_law (caller_called x k) caller_good) ∙ ap (whole (called_of g.c l).caller) same

    -- So the call is one feed of the host's end.
    caller_led : (f : Feed) → MayFeed (wired_in x) f → host_fed (wired_in x) l ≡ fed image (wired_in x) f → Led image x (caller_called x k)
    caller_led f may e = record { feeds = f ∷ []; may = (may, tt); leads = caller_leads ∙ e; good = caller_good }

caller_hears_law : (image : List ℕ) (x : Called) (byte : ℕ) (output : List ℕ) → Good x → MayCall x (caller_byte byte output)
    → Led image x (called image x (caller_byte byte output))
caller_hears_law image x byte output g may =
    caller_led image x g _ (host_hears g.c.end byte image output) (hears_is x g byte image output) ((own x g).hears_keeps byte image output)
    (host_byte byte output) may
    (ap (λ (c : Caller). host_fed (wired_in x) (host_hears c.end byte image output)) (sym (caller_in_law x g)))

caller_waits_law : (image : List ℕ) (x : Called) (ms : ℕ) (output : List ℕ) → Good x → Led image x (called image x (caller_time ms output))
caller_waits_law image x ms output g =
    caller_led image x g _ (host_waits g.c.end ms image output) (waits_is x g ms image output) ((own x g).waits_keeps ms image output)
    (host_time ms output) tt
    (ap (λ (c : Caller). host_fed (wired_in x) (host_waits c.end ms image output)) (sym (caller_in_law x g)))

-- ---- a call of the post

-- What the board's side of the line is after a step of a post.
abbrev went_to : Wired → PostLeft → Wired
went_to y l = record {
  host = y.host;
  board = l.post.board;
  flash = l.flash;
  from_host = y.from_host;
  from_board = y.from_board ++ heard_in (take (module_answers.count_in l.answer) l.reply);
}

record Goes (image : List ℕ) (y : Wired) (l : PostLeft) : Type 0 where
  feeds : List Feed
  may : MayAll image y feeds
  leads : went_to y l ≡ fed_all image y feeds

-- The start text's answer holds no frame.
answer_frames : heard_in start_answer ≡ []
unfolding heard_in reader_runs.handed_by reader.step_of reader.known_step moves.move_of reader.known_of reader.fresh
answer_frames = refl

module _ (image : List ℕ) (host : HostEnd) (p : Post) (flash : List ℕ) (from_host from_board : List Frame) where
  y : Wired
  y = record { host = host; board = p.board; flash = flash; from_host = from_host; from_board = from_board }

  -- Nothing is said and nothing changes but what is counted.
  stays : (q : Post) (reply : List ℕ) → q.board ≡ p.board → Goes image y (silent q flash reply)
  unfolding y
  stays q reply e = record { feeds = []; may = tt; leads = rw (e, heard_nothing, append-nil from_board) }

  -- The start text is whole.
  begins_goes : (reply : List ℕ) → Goes image y (begins p flash reply)
  unfolding begins opened_post y part_of
  begins_goes reply =
      either_way (Goes image y) (ltb (length reply) (length start_answer)) (λ _. stays p reply refl)
      (λ e. record {
        feeds = board_anew_law ∷ [];
        may = (tt, tt);
        leads = rw (part_laid reply 0 start_answer (ltb-false _ _ e), answer_frames, append-nil from_board);
      })

  listens_goes : (seen : ℕ) (reply : List ℕ) → Goes image y (listens p seen flash reply)
  unfolding listens
  listens_goes seen reply = either_way (Goes image y) (eqb seen (length start_text)) (λ _. begins_goes reply) (λ _. stays _ reply refl)

  hears_goes : (byte : ℕ) (reply : List ℕ) → (is_open p ≡ true → Sent from_host (completes p.board.reader byte))
      → Goes image y (post_hears p byte flash reply)
  unfolding post_hears y
  hears_goes byte reply may =
      either_way (Goes image y) (is_open p) (λ o. record { feeds = board_byte byte reply ∷ []; may = (may o, tt); leads = refl })
      (λ _. listens_goes (followed start_text p.seen byte) reply)

  waits_goes : (ms : ℕ) (reply : List ℕ) → Goes image y (post_waits p ms flash reply)
  unfolding post_waits y
  waits_goes ms reply =
      either_way (Goes image y) (is_open p) (λ _. record { feeds = board_time ms reply ∷ []; may = (tt, tt); leads = refl }) (λ _. stays p reply refl)

module _ (image : List ℕ) (x : Called) (g : Good x) (k : module_kept.Kept) (l : PostLeft)
    (same : k ≡ post_kept_law.kept_as l (post_kept g.p g.pst)) (keeps : post.Keeps l.post)
  where
    post_good : Good (post_called x k)
    post_good = record {
      c = g.c;
      st = g.st;
      caller_is = g.caller_is;
      caller_keeps = g.caller_keeps;
      caller_room = g.caller_room;
      p = l.post;
      pst = post_kept g.p g.pst;
      post_is = ap (λ (k : module_kept.Kept). k.state) same;
      post_keeps = keeps;
      post_room = rw (post_back.kept_back g.p g.pst g.post_keeps g.post_room).1 g.post_room;
    }

    post_leads : wired_in (post_called x k) ≡ went_to (wired_in x) l
    unfolding post_good
    post_leads =
        let whole : Post → module_kept.Kept → Wired = λ p k. record {
          host = (caller_in x.caller).end;
          board = p.board;
          flash = k.flash;
          from_host = x.from_host;
          from_board = x.from_board ++ heard_in (take k.count k.reply);
        } in
        ap (λ (p : Post). whole p k) (post_in_law (post_called x k) post_good) ∙ ap (whole l.post) same

    post_led : Goes image (y image (caller_in x.caller).end g.p x.flash x.from_host x.from_board) l → Led image x (post_called x k)
    unfolding y
    post_led goes =
        let here : wired_in x ≡ y image (caller_in x.caller).end g.p x.flash x.from_host x.from_board =
        ap (λ (p : Post). y image (caller_in x.caller).end p x.flash x.from_host x.from_board) (post_in_law x g) in
        record {
          feeds = goes.feeds;
          may = rw here goes.may;
          leads = post_leads ∙ goes.leads ∙ ap (λ (w : Wired). fed_all image w goes.feeds) (sym here);
          good = post_good;
        }

post_hears_law : (image : List ℕ) (x : Called) (byte : ℕ) (reply : List ℕ) → Good x → length x.flash < 2 ^ 64 → MayCall x (post_byte byte reply)
    → Led image x (called image x (post_byte byte reply))
post_hears_law image x byte reply g short may =
    let own = post_calls.kept_call g.p g.pst g.post_keeps g.post_room in
    let may_here : is_open g.p ≡ true → Sent x.from_host (completes g.p.board.reader byte) = rw (post_in_law x g) at may in
    let same = ap (λ (s : List ℕ). post_kept_law.kept_hears s byte x.flash reply) g.post_is ∙ own.hears_same byte x.flash reply in
    let keeps = own.hears_keeps byte x.flash reply (λ o f m. (may_here o f m).1) short in
    post_led image x g _ _ same keeps (hears_goes image _ g.p x.flash x.from_host x.from_board byte reply may_here)

post_waits_law : (image : List ℕ) (x : Called) (ms : ℕ) (reply : List ℕ) → Good x → Led image x (called image x (post_time ms reply))
post_waits_law image x ms reply g =
    let own = post_calls.kept_call g.p g.pst g.post_keeps g.post_room in
    let same = ap (λ (s : List ℕ). post_kept_law.kept_waits s ms x.flash reply) g.post_is ∙ own.waits_same ms x.flash reply in
    post_led image x g _ _ same (own.waits_keeps ms x.flash reply) (waits_goes image _ g.p x.flash x.from_host x.from_board ms reply)

call_led : (image : List ℕ) (x : Called) (m : Call) → Good x → length x.flash < 2 ^ 64 → MayCall x m → Led image x (called image x m)
call_led image x (post_byte byte reply) g short may = post_hears_law image x byte reply g short may
call_led image x (post_time ms reply) g short may = post_waits_law image x ms reply g
call_led image x (caller_byte byte output) g short may = caller_hears_law image x byte output g may
call_led image x (caller_time ms output) g short may = caller_waits_law image x ms output g

-- ---- a run

may_there : (image : List ℕ) (v w : Wired) (fs : List Feed) → v ≡ w → MayAll image v fs → MayAll image w fs
may_there image v w fs e may = rw (sym e) may

-- A run of calls, each while the flash has its length, is a run of feeds.
run_led : (image before : List ℕ) (x : Called) → length before < 2 ^ 64
    → ((fs : List Feed) → MayAll image (wired_in x) fs → length (fed_all image (wired_in x) fs).flash ≡ length before) → Good x → (ms : List Call)
    → MayCalls image x ms → Led image x (called_all image x ms)
run_led image before x short keeps g [] may = record { feeds = []; may = tt; leads = refl; good = g }
run_led image before x short keeps g (m ∷ ms) may =
    let now : length x.flash ≡ length before = keeps [] tt in
    let one = call_led image x m g (rw now short) may.0 in
    let next : Called = called image x m in
    let on : (fs : List Feed) → MayAll image (wired_in next) fs → length (fed_all image (wired_in next) fs).flash ≡ length before = λ fs allowed.
    ap (λ (w : Wired). length (fed_all image w fs).flash) one.leads
    ∙ ap (λ (w : Wired). length w.flash) (sym (each_append (fed image) (wired_in x) one.feeds fs))
    ∙ keeps (one.feeds ++ fs)
    (may_append MayFeed (fed image) (wired_in x) one.feeds fs one.may (rw one.leads at allowed)) in
    let rest = run_led image before next short on one.good ms may.1 in
    let rest_may : MayAll image (fed_all image (wired_in x) one.feeds) rest.feeds =
    may_there image _ _ rest.feeds one.leads rest.may in
    record {
      feeds = one.feeds ++ rest.feeds;
      may = may_append MayFeed (fed image) (wired_in x) one.feeds rest.feeds one.may rest_may;
      leads =
          rest.leads
          ∙ ap (λ (w : Wired). fed_all image w rest.feeds) one.leads
          ∙ sym (each_append (fed image) (wired_in x) one.feeds rest.feeds);
      good = rest.good;
    }

-- ---- what the view says

-- Stage 6 is the one after the notice.
stage_noticed : (s : Session) → stage_number s.phase ≡ restarting_stage → HasNotice s
stage_noticed s h = go s.phase refl h
  where
    at_stage : (w : Wait) → s.phase ≡ Waiting w → (stage : Stage) → w.stage ≡ stage → (stage_words stage).stage ≡ restarting_stage → HasNotice s
    at_stage w e Text f h = absurd (omega (arith, h))
    at_stage w e (Asking rate) f h = absurd (omega (arith, h))
    at_stage w e (Declaring rate) f h = absurd (omega (arith, h))
    at_stage w e (Sending rate size number) f h = absurd (omega (arith, h))
    at_stage w e (Noticing rate size) f h = absurd (omega (arith, h))
    at_stage w e (Restarting rate size) f h = record { wait = w; rate = rate; size = size; phase_is = e; stage_is = f }

    go : (phase : Phase) → s.phase ≡ phase → stage_number phase ≡ restarting_stage → HasNotice s
    go Ended e h = absurd (omega (arith, h))
    go (EndedAt kind rate) e h = absurd (omega (arith, h))
    go (Waiting w) e h = at_stage w e w.stage refl h

noticed_stage : (s : Session) → HasNotice s → stage_number s.phase ≡ restarting_stage
noticed_stage s n = rw (n.phase_is, n.stage_is)

-- ---- done by its number

-- A call of the caller that answers by that number is a feed to which the host says done, after a notice.
call_done : (kind : Kind) (image before : List ℕ) (x : Called) → Good x → InFlashByBytes kind image before (wired_in x) → (m : Call) → MayCall x m
    → caller_answers ours image x m ≡ load_done → HasNotice (caller_in x.caller).end.session
unfolding called_step
call_done kind image before x g i (post_byte byte reply) may d = absurd (omega (arith, d))
call_done kind image before x g i (post_time ms reply) may d = absurd (omega (arith, d))
call_done kind image before x g i (caller_byte byte output) may d =
    let may_here : Sent x.from_board (completes g.c.end.reader byte) = rw (caller_in_law x g) at may in
    let bytes : (f : Frame) → Memᴰ f (completes g.c.end.reader byte) → Bytes f.payload = λ f m. (may_here f m).1 in
    i.done_noticed (host_byte byte output) may
    (rw (caller_in_law x g)
    (hears_tells g.c.end byte image output g.caller_keeps.arisen bytes
    (sym (ap (λ (k : Kept). k.answer) (hears_is x g byte image output)) ∙ d)))
call_done kind image before x g i (caller_time ms output) may d =
    i.done_noticed (host_time ms output) tt
    (rw (caller_in_law x g)
    (waits_tells g.c.end ms image output g.caller_keeps.arisen
    (sym (ap (λ (k : Kept). k.answer) (waits_is x g ms image output)) ∙ d)))

-- ---- L1 of the calls

pub file_by_calls : FileByCalls
unfolding called_step
file_by_calls kind w image output st p pst flash calls room short wish post_room keeps flash_short may =
    let own = kept_opening_law st (number_of kind) w image output room short wish in
    let o = opening_of (number_of kind) w image output in
    let start : Called = begun (caller.kept_opened st (number_of kind) w image output) (post_kept p pst) flash in
    let g : Good start = record {
      c = caller_of o.session;
      st = st;
      caller_is = ap (λ x. x.state) own.0;
      caller_keeps = own.1;
      caller_room = room;
      p = p;
      pst = pst;
      post_is = refl;
      post_keeps = keeps;
      post_room = post_room;
    } in
    let same : wired_in start ≡ wired o p.board flash = rw (caller_in_law start g, post_in_law start g, own.0) in
    let by_bytes : (fs : List Feed) → MayAll image (wired_in start) fs → InFlashByBytes kind image flash (fed_all image (wired_in start) fs) = λ fs allowed.
    rw same (file_by_bytes kind w image output p.board flash fs (rw same at allowed)) in
    let run = run_led image flash start flash_short (λ fs allowed. (by_bytes fs allowed).length_same) g calls may in
    let x : Called = called_all image start calls in
    let i : InFlashByBytes kind image flash (wired_in x) = rw run.leads (by_bytes run.feeds run.may) in
    let on : (fs : List Feed) → MayAll image (wired_in x) fs → length (fed_all image (wired_in x) fs).flash ≡ length flash = λ fs allowed.
    ap (λ (w : Wired). length (fed_all image w fs).flash) run.leads
    ∙ ap (λ (w : Wired). length w.flash) (sym (each_append (fed image) (wired_in start) run.feeds fs))
    ∙ (by_bytes (run.feeds ++ fs)
    (may_append MayFeed (fed image) (wired_in start) run.feeds fs run.may (rw run.leads at allowed))).length_same in
    record {
      length_same = i.length_same;
      elsewhere = i.elsewhere;
      accepted = λ says more allowed.
          let further = run_led image flash x flash_short on run.good more allowed in
          rw (ap (λ (w : Wired). w.flash) further.leads)
          (i.noticed (stage_noticed (caller_in x.caller).end.session says) further.feeds further.may);
      done_accepted = λ m allowed d.
          noticed_stage (caller_in x.caller).end.session (call_done kind image flash x run.good i m allowed d);
    }
