-- Wrong calls of one end, the rest ours, and a proof for each that L1 of the calls fails of it, by a run of no or one call over small lists.
use Rattle.std.specs.Prelude.{ℕ, ◌^◌, ◌<◌, ◌≡◌, refl, length, drop, get_or}
use mathlib.Core.List.{List, [], ◌∷◌, Memᴰ}
use Rattle.std.proofs.Common.{inl, sym, ap, ◌∙◌, arith}
use Rattle.octets.specs.Octets.{laid}
use Rattle.kinds.specs.Kinds as kinds
use Rattle.kinds.specs.Kinds.{number_of}
use Rattle.kinds.specs.declared.Kind.{Kind}
use Rattle.kinds.specs.declared.Kind.TheVariants as kind
use Rattle.flat.specs.Backs.{zeros, zeros_room}
use Rattle.wire.specs.Frame.{Frame}
use Rattle.reader.specs.Moves as moves
use Rattle.reader.specs.Reader as reader
use Rattle.host.specs.Step.{Wishes, opening_of, sends}
use Rattle.host_model.specs.Nexts.{plan_next}
use Rattle.host_model.specs.declared.waits.Phase.TheVariants.{Ended}
use Rattle.host_model.specs.Events.{load_done}
use Rattle.host_model.specs.declared.plan.Rate.TheVariants.{R9600}
use Rattle.host_model.specs.declared.plan.Start.TheVariants.{WithText}
use Rattle.host_model.specs.declared.plan.Same.TheVariants.{GoOn}
use Rattle.posts.specs.Caller.{caller_of}
use Rattle.posts.specs.Post.{waiting_post}
use Rattle.line.specs.Wired.{completes, Sent}
use Rattle.kept_host.specs.Record.{restarting_stage}
use Rattle.kept_module.specs.Kept as module_kept
use Rattle.kept_host.specs.Kept as host_kept
use Rattle.kept_caller.specs.Kept as caller
use Rattle.kept_caller.specs.Kept.{caller_bytes, caller_in}
use Rattle.kept_caller.proofs.Back as caller_back
use Rattle.kept_caller.proofs.CallLaws.{kept_opening_law}
use Rattle.kept_caller.specs.Promises.{kept_opened}
use Rattle.kept_post.specs.Kept as post
use Rattle.kept_post.specs.Kept.{post_bytes, post_kept, post_in}
use Rattle.kept_post.specs.Promises.{Keeps}
use Rattle.kept_post.proofs.Back as post_back
use Rattle.kept_post.proofs.CallLaws.{kept_made}
use Rattle.kept_line.specs.Called.{Called, Call, post_byte, caller_byte, caller_time, Ends, ours, MayBy, all_by, begun}
use Rattle.kept_line.specs.Promises.{InFlashByCalls, FileByCallsOf}

-- ---- one load, at its opening

ones : List ℕ
ones = 1 ∷ 1 ∷ 1 ∷ 1 ∷ []

blank : List ℕ
blank = 0 ∷ 0 ∷ 0 ∷ 0 ∷ 0 ∷ 0 ∷ 0 ∷ 0 ∷ []

wishes : Wishes
wishes = record { first = R9600; wish = 1024; start = WithText; same = GoOn }

short_blank : length blank < 2 ^ 64
unfolding blank
short_blank = omega arith

short_ones : length ones < 2 ^ 64
unfolding ones
short_ones = omega arith

short_wish : wishes.wish < 2 ^ 64
unfolding wishes
short_wish = omega arith

waiting_keeps : Keeps waiting_post
waiting_keeps = (kept_made (zeros post_bytes) blank (zeros_room post_bytes) short_blank).1

start : Kind → Called
start k = begun (kept_opened (zeros caller_bytes) (number_of k) wishes ones []) (post_kept waiting_post (zeros post_bytes)) blank

-- What the promise says of some calls from there.
promised : (e : Ends) → FileByCallsOf e → (k : Kind) (calls : List Call) → MayBy e ones (start k) calls
    → InFlashByCalls e k ones blank (all_by e ones (start k) calls)
unfolding start
promised e promise k calls may =
    promise k wishes ones [] (zeros caller_bytes) waiting_post (zeros post_bytes) blank calls (zeros_room caller_bytes) short_ones short_wish
    (zeros_room post_bytes) waiting_keeps short_blank may

-- ---- a view that says 6 at once

pub eager : Ends
eager = record {
  post_hears_law = post.kept_hears;
  post_waits_law = post.kept_waits;
  caller_hears_law = caller.kept_hears;
  caller_waits_law = caller.kept_waits;
  stage = λ st. restarting_stage;
}

-- Nothing was sent, and the range does not hold the image.
pub eager_refuted : FileByCallsOf eager → ⊥
unfolding eager start ones blank laid
eager_refuted promise =
    let holds = (promised eager promise kind.Upgrade [] tt).accepted refl [] tt in
    let first : ◌≡◌ {A = ℕ} 0 1 = ap (λ (l : List ℕ). get_or l 0 0) holds.there in omega (arith, first)

-- ---- a module that writes on any byte, session or not

pub scribbles : Ends
scribbles = record {
  post_hears_law = λ st byte flash reply. module_kept.kept 0 0 st (9 ∷ drop 1 flash) reply;
  post_waits_law = post.kept_waits;
  caller_hears_law = caller.kept_hears;
  caller_waits_law = caller.kept_waits;
  stage = ours.stage;
}

-- No frame is complete with this byte, so the line may let it through.
nobody : (f : Frame) → Memᴰ f [] → ⊥
nobody f = elim [ ]

fresh_complete : completes reader.fresh 0 ≡ []
unfolding reader.step_of reader.known_step reader.known_of reader.fresh moves.move_of
fresh_complete = refl

none_complete : completes waiting_post.board.reader 0 ≡ []
unfolding waiting_post
none_complete = fresh_complete

-- The first byte lies before the range of navigation code.
pub scribbles_refuted : FileByCallsOf scribbles → ⊥
unfolding scribbles start blank
scribbles_refuted promise =
    let back = (post_back.kept_back waiting_post (zeros post_bytes) waiting_keeps (zeros_room post_bytes)).0 in
    let may : Sent (start kind.Navigation).from_host (completes (post_in (post_kept waiting_post (zeros post_bytes))).board.reader 0) =
    rw (back, none_complete) (λ f m. absurd (nobody f m)) in
    let touched = (promised scribbles promise kind.Navigation (post_byte 0 [] ∷ []) ((λ _. may), tt)).elsewhere 0 (inl (omega arith)) in
    let first : ◌≡◌ {A = ℕ} 9 0 = touched in omega (arith, first)

-- ---- a host that says done on any byte, and one that says it after any time

pub boasts : Ends
boasts = record {
  post_hears_law = post.kept_hears;
  post_waits_law = post.kept_waits;
  caller_hears_law = λ st byte image output. host_kept.kept load_done 0 0 st output;
  caller_waits_law = caller.kept_waits;
  stage = ours.stage;
}

pub tires : Ends
tires = record {
  post_hears_law = post.kept_hears;
  post_waits_law = post.kept_waits;
  caller_hears_law = caller.kept_hears;
  caller_waits_law = λ st ms image output. host_kept.kept load_done 0 0 st output;
  stage = ours.stage;
}

-- Without room for its first message the session has ended at its opening.
ended : (opening_of (number_of kind.Upgrade) wishes ones []).session.phase ≡ Ended
unfolding opening_of plan_next sends wishes ones kinds.fits_file kinds.kind_of
ended = refl

begun_in : caller_in (start kind.Upgrade).caller ≡ caller_of (opening_of (number_of kind.Upgrade) wishes ones []).session
unfolding start
begun_in =
    let own = kept_opening_law (zeros caller_bytes) (number_of kind.Upgrade) wishes ones [] (zeros_room caller_bytes) short_ones short_wish in
    ap (λ o. caller_in o.state) own.0 ∙ (caller_back.kept_back _ (zeros caller_bytes) own.1 (zeros_room caller_bytes)).0

-- So its view does not say 6.
not_six : ours.stage (start kind.Upgrade).caller ≡ restarting_stage → ⊥
not_six six =
    let begun_stage : ours.stage (start kind.Upgrade).caller ≡ 0 = rw (begun_in, ended) in
    let stage : ◌≡◌ {A = ℕ} 0 6 = sym begun_stage ∙ six in omega (arith, stage)

pub boasts_refuted : FileByCallsOf boasts → ⊥
unfolding boasts
boasts_refuted promise =
    let may : Sent (start kind.Upgrade).from_board (completes (caller_in (start kind.Upgrade).caller).end.reader 0) =
    rw (begun_in, fresh_complete) (λ f m. absurd (nobody f m)) in
    not_six ((promised boasts promise kind.Upgrade [] tt).done_accepted (caller_byte 0 []) may refl)

pub tires_refuted : FileByCallsOf tires → ⊥
unfolding tires
tires_refuted promise = not_six ((promised tires promise kind.Upgrade [] tt).done_accepted (caller_time 0 []) tt refl)
