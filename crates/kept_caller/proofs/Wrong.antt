-- Wrong ways to keep a caller, to open one and to call it, and a proof for each that the promise fails of it, by one caller or opening and
-- a buffer of zeros.
use Rattle.std.specs.Prelude.{ℕ, ◌^◌, ◌≤◌, ◌<◌, List, [], ◌∷◌, ◌≡◌, refl, length}
use Rattle.std.proofs.Common.{ap, arith}
use Rattle.octets.specs.Octets.{laid, over, number_at, little, spelled}
use Rattle.flat.specs.Backs.{zeros, zeros_room, one_kept, unchanged}
use Rattle.flat.specs.Words.{spelled_all}
use Rattle.kinds.specs.Kinds.{kind_of, fits_file}
use Rattle.kinds.specs.declared.Kind.TheVariants.{Navigation}
use Rattle.reader.specs.Reader as reader
use Rattle.reader.specs.Reader.{fresh}
use Rattle.reader.specs.Moves as moves
use Rattle.host_model.specs.Nexts.{time_next}
use Rattle.host_model.specs.Events.{number_in, count_in}
use Rattle.host_model.specs.Waits.{wait, wait_fits}
use Rattle.host_model.specs.declared.plan.Rate.TheVariants.{R9600}
use Rattle.host_model.specs.declared.plan.Start.TheVariants.{WithText}
use Rattle.host_model.specs.declared.plan.Same.TheVariants.{GoOn}
use Rattle.host_model.specs.declared.plan.Stage.TheVariants.{Text}
use Rattle.host_model.specs.declared.waits.Phase.{Phase}
use Rattle.host_model.specs.declared.waits.Phase.TheVariants.{Ended, EndedAt, Waiting}
use Rattle.host.specs.Session.{session, arises}
use Rattle.host.specs.Step.{Wishes, ended_of, plan_of, step_of, opening_of}
use Rattle.host_end.specs.Text as text
use Rattle.host_end.specs.HostEnd.{end_with, line_heard, host_hears, host_waits}
use Rattle.posts.specs.Caller.{caller_with, caller_of, called_step, caller_hears, caller_waits}
use Rattle.posts.specs.declared.caller.Caller.{Caller}
use Rattle.kept_reader.specs.Kept.{reader_kept, bytes_of}
use Rattle.kept_reader.proofs.KeptRun.{fresh_whole}
use Rattle.kept_host.specs.Kept.{words_of, Kept, kept, Opened, opened, wishes_known, opening_by}
use Rattle.kept_caller.specs.Kept.{caller_bytes, session_place, counts_of, caller_kept, caller_in, kept_hears, kept_waits}
use Rattle.kept_caller.specs.Promises.{Keeps, KeptBackOf, Opens, Moves, KeptOpeningOf, KeptCallOf}
use Rattle.kept_caller.proofs.Back.{kept_back}

-- ---- ways to keep a caller

-- Three messages were resent, five frames dropped.
busy : Caller
busy = caller_with (end_with fresh 2 (ended_of 8)) 3 5

busy_keeps : Keeps busy
unfolding busy arises
busy_keeps = record {
  whole = fresh_whole;
  arisen = refl;
  real = record { image_real = omega arith; wish_real = omega arith };
  seen_small = omega arith;
  resent_small = omega arith;
  dropped_small = omega arith;
}

-- Whatever is read back is the caller that was kept.
back_of : (kept : Caller → List ℕ → List ℕ) → KeptBackOf kept → caller_in (kept busy (zeros caller_bytes)) ≡ busy
back_of kept promise = (promise busy (zeros caller_bytes) busy_keeps (zeros_room caller_bytes)).0

-- What is counted is not written.
pub forgets : Caller → List ℕ → List ℕ
forgets c st = laid (reader_kept c.end.reader st) session_place (spelled_all (words_of c.end.session))

pub forgets_refuted : KeptBackOf forgets → ⊥
unfolding busy zeros forgets caller_in reader_kept bytes_of laid over spelled_all spelled words_of number_at little fresh
forgets_refuted promise =
    let resent : ◌≡◌ {A = ℕ} 0 3 = ap (λ (c : Caller). c.resent) (back_of forgets promise) in omega (arith, resent)

-- It is written one word early: the count of messages resent then has the place of the text.
pub shifts : Caller → List ℕ → List ℕ
shifts c st = laid (laid (reader_kept c.end.reader st) 1043 (spelled_all (counts_of c))) session_place (spelled_all (words_of c.end.session))

pub shifts_refuted : KeptBackOf shifts → ⊥
unfolding busy zeros shifts caller_in reader_kept bytes_of laid over spelled_all spelled words_of number_at little fresh
shifts_refuted promise =
    let seen : ◌≡◌ {A = ℕ} 3 2 = ap (λ (c : Caller). c.end.seen) (back_of shifts promise) in omega (arith, seen)

-- ---- calls

-- A call that leaves the bytes as they are leaves the caller as it was.
as_it_was : (a b : Caller) → Keeps a → Keeps b → caller_kept a (zeros caller_bytes) ≡ caller_kept b (caller_kept a (zeros caller_bytes)) → a ≡ b
as_it_was a b k l = unchanged Keeps caller_bytes caller_kept caller_in kept_back a b (zeros caller_bytes) k l (zeros_room caller_bytes)

-- Nothing happens at such a call.
pub idle : Moves
idle st _ _ output = kept 0 0 0 st output

-- No byte is heard: two bytes of the answer to the start text stay heard, whatever comes.
forgotten : busy ≡ (caller_hears busy 0 [] []).caller → ⊥
unfolding busy reader.fresh reader.step_of reader.known_of reader.known_step moves.move_of host_hears line_heard called_step text.followed text.stands
forgotten same = let seen : ◌≡◌ {A = ℕ} 2 0 = ap (λ (c : Caller). c.end.seen) same in omega (arith, seen)

pub deaf_refuted : KeptCallOf idle kept_waits → ⊥
unfolding idle
deaf_refuted promise =
    let said = promise busy (zeros caller_bytes) busy_keeps (zeros_room caller_bytes) in
    forgotten (as_it_was busy _ busy_keeps (said.hears_keeps 0 [] []) (ap (λ (k : Kept). k.state) (said.hears_same 0 [] [])))

-- No time passes, for a caller that awaits the answer to the start text.
calling : Caller
calling = caller_of (session 4 (Waiting (wait (plan_of Navigation (record { first = R9600; wish = 1; start = WithText; same = GoOn })) Text 0 0)))

calling_keeps : Keeps calling
unfolding calling arises wait_fits fits_file
calling_keeps = record {
  whole = fresh_whole;
  arisen = refl;
  real = record { image_real = omega arith; wish_real = omega arith };
  seen_small = omega arith;
  resent_small = omega arith;
  dropped_small = omega arith;
}

four : List ℕ
four = 1 ∷ 2 ∷ 3 ∷ 4 ∷ []

waited_in : Phase → ℕ
waited_in Ended = 0
waited_in (EndedAt _ _) = 0
waited_in (Waiting w) = w.waited

counted : calling ≡ (caller_waits calling 1 four []).caller → ⊥
unfolding calling four waited_in host_waits called_step step_of arises wait_fits fits_file time_next
counted same = let waited : ◌≡◌ {A = ℕ} 0 1 = ap (λ (c : Caller). waited_in c.end.session.phase) same in omega (arith, waited)

pub timeless_refuted : KeptCallOf kept_hears idle → ⊥
unfolding idle
timeless_refuted promise =
    let said = promise calling (zeros caller_bytes) calling_keeps (zeros_room caller_bytes) in
    counted (as_it_was calling _ calling_keeps (said.waits_keeps 1 four []) (ap (λ (k : Kept). k.state) (said.waits_same 1 four [])))

-- ---- openings

-- What the last load has counted goes on.
pub counts_on_law : Opens
counts_on_law st number first wish start same image output =
    let b = opening_by number first wish start same image output in
    let c = caller_in st in
    opened (number_in b.begun.answer) (count_in b.begun.answer) (caller_kept (caller_with (caller_of b.begun.session).end c.resent c.dropped) st)
    b.output

-- The opening of a type that is none, refused, after a load that has resent three messages.
none : Wishes
none = record { first = R9600; wish = 1; start = WithText; same = GoOn }

refused : ℕ → ℕ → Caller
refused resent dropped = caller_with (caller_of (ended_of 0)).end resent dropped

refused_keeps : (resent dropped : ℕ) → resent < 2 ^ 64 → dropped < 2 ^ 64 → Keeps (refused resent dropped)
unfolding refused arises
refused_keeps resent dropped h k = record {
  whole = fresh_whole;
  arisen = refl;
  real = record { image_real = omega arith; wish_real = omega arith };
  seen_small = omega arith;
  resent_small = h;
  dropped_small = k;
}

begins_anew : refused busy.resent busy.dropped ≡ refused 0 0 → ⊥
unfolding busy refused
begins_anew same = let resent : ◌≡◌ {A = ℕ} 3 0 = ap (λ (c : Caller). c.resent) same in omega (arith, resent)

counted_on : KeptOpeningOf counts_on_law → (st : List ℕ) → caller_bytes ≤ length st
    → caller_kept (refused (caller_in st).resent (caller_in st).dropped) st ≡ caller_kept (refused 0 0) st
unfolding counts_on_law none refused opening_by wishes_known opening_of kind_of
counted_on promise st long = ap (λ (o : Opened). o.state) (promise st 0 none [] [] long (omega arith) (omega arith)).0

pub counts_on_refuted : KeptOpeningOf counts_on_law → ⊥
counts_on_refuted promise =
    let back = kept_back busy (zeros caller_bytes) busy_keeps (zeros_room caller_bytes) in
    let long : caller_bytes ≤ length (caller_kept busy (zeros caller_bytes)) = rw back.1 (zeros_room caller_bytes) in
    let left = rw back.0 at (counted_on promise (caller_kept busy (zeros caller_bytes)) long) in
    let keeps = refused_keeps busy.resent busy.dropped busy_keeps.resent_small busy_keeps.dropped_small in
    begins_anew (one_kept Keeps caller_bytes caller_kept caller_in kept_back _ _ _ _ keeps (refused_keeps 0 0 (omega arith) (omega arith)) long long left)
