-- Wrong ways to keep a post, to make one and to call it, and a proof for each that the promise fails of it, by one post and a buffer of zeros.
use Rattle.std.specs.Prelude.{ℕ, ◌^◌, ◌≤◌, ◌<◌, Bool, cond, List, [], ◌∷◌, ◌≡◌, length, replicate}
use Rattle.std.proofs.Common.{sym, ap, ◌∙◌, arith}
use Rattle.octets.specs.Octets.{laid, over, number_at, little, spelled}
use Rattle.flat.specs.Answers.{nothing}
use Rattle.flat.specs.Backs.{zeros, zeros_room, one_kept, unchanged}
use Rattle.flat.specs.Words.{spelled_all}
use Rattle.module_model.specs.Phases.{openable, alive}
use Rattle.module.specs.Session.{opening_of, takes, arises}
use Rattle.module.specs.Step.{time_step, step_of}
use Rattle.reader.specs.Reader.{fresh}
use Rattle.host_end.specs.Text as text
use Rattle.board_end.specs.Board.{board_of, board_waits}
use Rattle.posts.specs.Post.{post_with, waiting_post, opened_post, listens, post_hears, post_waits}
use Rattle.posts.specs.declared.post.Post.{Post}
use Rattle.module_promises.specs.Promises.{online}
use Rattle.module_promises.proofs.Arises.{opening_arises}
use Rattle.kept_reader.specs.Kept.{reader_kept, bytes_of}
use Rattle.kept_reader.proofs.KeptRun.{fresh_whole}
use Rattle.kept_module.specs.Kept.{words_of, Kept, kept, opened}
use Rattle.kept_module.proofs.RunLaws.{opening_flash}
use Rattle.kept_post.specs.Kept.{post_bytes, session_place, counts_of, post_kept, post_in, kept_new, kept_opening, kept_hears, kept_waits}
use Rattle.kept_post.specs.Promises.{Keeps, KeptBackOf, Makes, Opens, Moves, PayloadBytes, KeptMadeOf, KeptCallOf}
use Rattle.kept_post.proofs.Back.{kept_back}
use Rattle.kept_post.proofs.CallLaws.{kept_made}

-- ---- ways to keep a post

-- Two bytes of the start text were heard, five frames dropped.
busy : Post
busy = post_with (board_of (opening_of []).session) 2 5

busy_keeps : Keeps busy
unfolding busy
busy_keeps = record {
  whole = fresh_whole;
  arisen = opening_arises (online []);
  flash_small = rw (opening_flash []) (omega arith);
  seen_small = omega arith;
  dropped_small = omega arith;
}

-- Whatever is read back is the post that was kept.
back_of : (kept : Post → List ℕ → List ℕ) → KeptBackOf kept → post_in (kept busy (zeros post_bytes)) ≡ busy
back_of kept promise = (promise busy (zeros post_bytes) busy_keeps (zeros_room post_bytes)).0

-- What is counted is not written.
pub forgets : Post → List ℕ → List ℕ
forgets p st = laid (reader_kept p.board.reader st) session_place (spelled_all (words_of p.board.session))

pub forgets_refuted : KeptBackOf forgets → ⊥
unfolding busy zeros forgets post_in reader_kept bytes_of laid over spelled_all spelled words_of number_at little fresh opening_of
forgets_refuted promise =
    let dropped : ◌≡◌ {A = ℕ} 0 5 = ap (λ (p : Post). p.dropped) (back_of forgets promise) in omega (arith, dropped)

-- It is written one word early: the count of dropped frames then has the place of the text.
pub shifts : Post → List ℕ → List ℕ
shifts p st = laid (laid (reader_kept p.board.reader st) 1043 (spelled_all (counts_of p))) session_place (spelled_all (words_of p.board.session))

pub shifts_refuted : KeptBackOf shifts → ⊥
unfolding busy zeros shifts post_in reader_kept bytes_of laid over spelled_all spelled words_of number_at little fresh opening_of
shifts_refuted promise =
    let seen : ◌≡◌ {A = ℕ} 5 2 = ap (λ (p : Post). p.seen) (back_of shifts promise) in omega (arith, seen)

-- ---- calls

-- A call that leaves the bytes as they are leaves the post as it was.
as_it_was : (a b : Post) → Keeps a → Keeps b → post_kept a (zeros post_bytes) ≡ post_kept b (post_kept a (zeros post_bytes)) → a ≡ b
as_it_was a b k l = unchanged Keeps post_bytes post_kept post_in kept_back a b (zeros post_bytes) k l (zeros_room post_bytes)

-- Nothing happens at such a call.
pub idle : Moves
idle st _ flash reply = kept 0 0 st flash reply

-- No byte is heard: two bytes of the start text stay heard, whatever comes.
forgotten : busy ≡ (post_hears busy 0 [] []).post → ⊥
unfolding busy post_hears takes opening_of openable alive listens text.followed text.stands
forgotten same = let seen : ◌≡◌ {A = ℕ} 2 0 = ap (λ (p : Post). p.seen) same in omega (arith, seen)

-- Without a session no frame is looked for.
no_payload : PayloadBytes busy 0
unfolding busy takes opening_of openable alive
no_payload o f m = absurd (let z : ◌≡◌ {A = ℕ} 0 1 = ap (λ (b : Bool). cond b 1 0) o in omega (arith, z))

pub deaf_refuted : KeptCallOf idle kept_waits → ⊥
unfolding idle
deaf_refuted promise =
    let said = promise busy (zeros post_bytes) busy_keeps (zeros_room post_bytes) in
    let keeps = said.hears_keeps 0 [] [] no_payload (omega arith) in
    forgotten (as_it_was busy _ busy_keeps keeps (ap (λ (k : Kept). k.state) (said.hears_same 0 [] [])))

-- No time passes, for a post with a session over a flash of one byte.
flash : List ℕ
flash = 255 ∷ []

small : length flash < 2 ^ 64
unfolding flash
small = omega arith

ready : Post
ready = opened_post waiting_post flash

ready_keeps : Keeps ready
unfolding ready
ready_keeps = (kept_made (zeros post_bytes) flash (zeros_room post_bytes) small).3

reply : List ℕ
reply = replicate 64 0

counted : ready ≡ (post_waits ready 1 flash reply).post → ⊥
unfolding ready flash reply opened_post waiting_post post_waits board_waits takes opening_of openable alive step_of time_step arises
counted same = let idles : ◌≡◌ {A = ℕ} 0 1 = ap (λ (p : Post). p.board.session.idle) same in omega (arith, idles)

pub timeless_refuted : KeptCallOf kept_hears idle → ⊥
unfolding idle
timeless_refuted promise =
    let said = promise ready (zeros post_bytes) ready_keeps (zeros_room post_bytes) in
    counted (as_it_was ready _ ready_keeps (said.waits_keeps 1 flash reply) (ap (λ (k : Kept). k.state) (said.waits_same 1 flash reply)))

-- ---- the makings

-- A new post is what the bytes held before.
pub leaves : Makes
leaves st = opened nothing st

dropped_none : busy ≡ waiting_post → ⊥
unfolding busy waiting_post
dropped_none same = let dropped : ◌≡◌ {A = ℕ} 5 0 = ap (λ (p : Post). p.dropped) same in omega (arith, dropped)

waiting_keeps : Keeps waiting_post
waiting_keeps = (kept_made (zeros post_bytes) [] (zeros_room post_bytes) (omega arith)).1

pub leaves_refuted : KeptMadeOf leaves kept_opening → ⊥
unfolding leaves
leaves_refuted promise =
    let long : post_bytes ≤ length (post_kept busy (zeros post_bytes)) = rw (kept_back busy (zeros post_bytes) busy_keeps (zeros_room post_bytes)).1 (zeros_room post_bytes) in
    dropped_none (as_it_was busy waiting_post busy_keeps waiting_keeps (promise (post_kept busy (zeros post_bytes)) [] long (omega arith)).0)

-- No session is opened.
pub shut : Opens
shut st _ = kept_new st

flash_looked_at : waiting_post ≡ ready → ⊥
unfolding waiting_post ready opened_post opening_of openable flash
flash_looked_at same = let size : ◌≡◌ {A = ℕ} 0 1 = ap (λ (p : Post). p.board.session.flash) same in omega (arith, size)

pub shut_refuted : KeptMadeOf kept_new shut → ⊥
unfolding shut ready
shut_refuted promise =
    let said = promise (zeros post_bytes) flash (zeros_room post_bytes) small in
    flash_looked_at (one_kept Keeps post_bytes post_kept post_in kept_back waiting_post ready (zeros post_bytes) (zeros post_bytes) waiting_keeps ready_keeps (zeros_room post_bytes) (zeros_room post_bytes) (sym said.0 ∙ said.2))
