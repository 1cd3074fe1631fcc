-- Calls through kept bytes are the post's own.
use Rattle.std.specs.Prelude.{ℕ, ◌^◌, ◌<◌, true, ◌≡◌, refl, eqb, ltb, length}
use mathlib.Core.List.{List, [], Memᴰ}
use Rattle.std.proofs.Common.{ap, ◌∙◌, arith, le-ltb}
use Rattle.octets.specs.Octets.{Bytes}
use Rattle.octets.proofs.Choice.{either_way, cond_no}
use Rattle.wire.specs.Frame.{Frame, frame}
use Rattle.commands.specs.Commands.{start_text, start_answer}
use Rattle.reader.specs.Reader.{fresh, payload_in, frames_in}
use Rattle.reader.specs.Reader as reader
use Rattle.reader.specs.declared.steps.Reader.{Reader}
use Rattle.reader.specs.declared.steps.Heard.{Heard}
use Rattle.reader.specs.declared.steps.Heard.TheVariants as heard
use Rattle.module.specs.Session.{arises}
use Rattle.module.specs.declared.session.Session.{Session}
use Rattle.module_model.specs.declared.events.Event.{Event}
use Rattle.module_model.specs.declared.events.Event.TheVariants as event
use Rattle.module_promises.specs.Runs.{Given, next_of}
use Rattle.module_promises.specs.Promises.{online}
use Rattle.module_promises.proofs.Arises.{step_arises, opening_arises}
use Rattle.host_end.specs.Text.{followed}
use Rattle.host_end.proofs.TextLaws.{followed_most}
use Rattle.board_end.specs.Board.{BoardLeft, frame_heard, heard_by, board_hears, board_waits}
use Rattle.board_end.specs.declared.board.Board.{Board}
use Rattle.posts.specs.PostLaws.{more_small}
use Rattle.posts.specs.Post.{PostLeft, waiting_post, opened_post, is_open, went_of, begins, listens, post_hears, post_waits}
use Rattle.posts.specs.declared.post.Post.{Post}
use Rattle.kept_reader.specs.Promises.{Whole}
use Rattle.kept_reader.proofs.KeptRun.{fresh_whole, step_whole}
use Rattle.kept_module.proofs.RunLaws.{step_flash, opening_flash}
use Rattle.kept_post.specs.Kept.{post_bytes, post_kept, kept_as, kept_hears, kept_waits, kept_new, kept_opening}
use Rattle.kept_post.specs.Promises.{Keeps, KeptMade, PayloadBytes, KeptCall}
use Rattle.kept_post.proofs.Back.{kept_back}

-- ---- the board after a byte or a time

record KeepsBoard (b : Board) : Type 0 where
  whole : Whole b.reader
  arisen : arises b.session ≡ true
  flash_small : b.session.flash < 2 ^ 64

-- The session after an event, beside a reader.
module _ (r : Reader) (s : Session) (w : Whole r) (a : arises s ≡ true) (small : s.flash < 2 ^ 64) where
  stays : KeepsBoard (record { reader = r; session = s })
  stays = record { whole = w; arisen = a; flash_small = small }

  stepped_keeps : (e : Event) (payload flash reply : List ℕ) → Bytes payload
      → KeepsBoard (record { reader = r; session = next_of s (record { event = e; payload = payload; flash = flash; reply = reply }) })
  stepped_keeps e payload flash reply bytes =
      let g : Given = record { event = e; payload = payload; flash = flash; reply = reply } in
      record { whole = w; arisen = step_arises s g a bytes; flash_small = rw (step_flash s g) small }

  heard_keeps : (h : Heard) (flash reply : List ℕ) → ((f : Frame) → Memᴰ f (frames_in h r) → Bytes f.payload)
      → KeepsBoard (heard_by h r s flash reply).board
  unfolding frame_heard
  heard_keeps heard.Nothing flash reply bytes = stays
  heard_keeps (heard.Frame command n) flash reply bytes =
      stepped_keeps (event.Frame command n) (payload_in r.store n) flash reply
      (bytes (frame command (payload_in r.store n)) (Memᴰ.head refl))
  heard_keeps heard.Dropped flash reply bytes = stays

hears_board : (b : Board) (byte : ℕ) (flash reply : List ℕ) → KeepsBoard b
    → ((f : Frame) → Memᴰ f (reader.frames_of (reader.step_of b.reader byte)) → Bytes f.payload)
    → KeepsBoard (board_hears b byte flash reply).board
unfolding board_hears
hears_board b byte flash reply k bytes =
    let read = reader.step_of b.reader byte in
    heard_keeps read.reader b.session (step_whole b.reader byte k.whole) k.arisen k.flash_small read.heard flash reply bytes

waits_board : (b : Board) (ms : ℕ) (flash reply : List ℕ) → KeepsBoard b → KeepsBoard (board_waits b ms flash reply).board
unfolding board_waits
waits_board b ms flash reply k =
    stepped_keeps b.reader b.session k.whole k.arisen k.flash_small (event.Elapsed ms) [] flash reply tt

-- ---- the post

board_of_law : (p : Post) → Keeps p → KeepsBoard p.board
board_of_law p k = record { whole = k.whole; arisen = k.arisen; flash_small = k.flash_small }

went_keeps : (p : Post) (l : BoardLeft) → Keeps p → KeepsBoard l.board → Keeps (went_of p l).post
went_keeps p l k b = record {
  whole = b.whole;
  arisen = b.arisen;
  flash_small = b.flash_small;
  seen_small = omega arith;
  dropped_small = more_small p.dropped l.dropped k.dropped_small;
}

-- With a session opened anew.
opened_keeps : (p : Post) (flash : List ℕ) → p.dropped < 2 ^ 64 → length flash < 2 ^ 64 → Keeps (opened_post p flash)
unfolding opened_post
opened_keeps p flash d short = record {
  whole = fresh_whole;
  arisen = opening_arises (online flash);
  flash_small = rw (opening_flash flash) short;
  seen_small = omega arith;
  dropped_small = d;
}

seen_follows : (seen byte : ℕ) → followed start_text seen byte < 2 ^ 32
seen_follows seen byte =
    let size : length start_text ≡ 12 = refl in
    let most = followed_most start_text seen byte (omega (arith, size)) in
    omega (arith, most, size)

listens_keeps : (p : Post) (seen : ℕ) (flash reply : List ℕ) → Keeps p → seen < 2 ^ 32 → length flash < 2 ^ 64
    → Keeps (listens p seen flash reply).post
unfolding listens begins
listens_keeps p seen flash reply k small short =
    either_way (λ (l : PostLeft). Keeps l.post) (eqb seen (length start_text))
    (λ _. either_way (λ (l : PostLeft). Keeps l.post) (ltb (length reply) (length start_answer)) (λ _. k)
    (λ _. opened_keeps p flash k.dropped_small short))
    (λ _. record {
      whole = k.whole;
      arisen = k.arisen;
      flash_small = k.flash_small;
      seen_small = small;
      dropped_small = k.dropped_small;
    })

hears_keeps : (p : Post) (byte : ℕ) (flash reply : List ℕ) → Keeps p → PayloadBytes p byte → length flash < 2 ^ 64
    → Keeps (post_hears p byte flash reply).post
unfolding post_hears
hears_keeps p byte flash reply k bytes short =
    either_way (λ (l : PostLeft). Keeps l.post) (is_open p)
    (λ o. went_keeps p (board_hears p.board byte flash reply) k (hears_board p.board byte flash reply (board_of_law p k) (bytes o)))
    (λ _. listens_keeps p (followed start_text p.seen byte) flash reply k (seen_follows p.seen byte) short)

waits_keeps : (p : Post) (ms : ℕ) (flash reply : List ℕ) → Keeps p → Keeps (post_waits p ms flash reply).post
unfolding post_waits
waits_keeps p ms flash reply k =
    either_way (λ (l : PostLeft). Keeps l.post) (is_open p)
    (λ _. went_keeps p (board_waits p.board ms flash reply) k (waits_board p.board ms flash reply (board_of_law p k)))
    (λ _. k)

pub kept_call : KeptCall
unfolding kept_hears kept_waits
kept_call p st k room =
    let back = kept_back p st k room in
    let after : List ℕ = post_kept p st in
    let long = le-ltb (length after) post_bytes (rw back.1 room) in
    record {
      hears_same = λ byte flash reply.
          cond_no _ _ _ long ∙ ap (λ (x : Post). kept_as (post_hears x byte flash reply) after) back.0;
      hears_keeps = λ byte flash reply bytes short. hears_keeps p byte flash reply k bytes short;
      waits_same = λ ms flash reply.
          cond_no _ _ _ long ∙ ap (λ (x : Post). kept_as (post_waits x ms flash reply) after) back.0;
      waits_keeps = λ ms flash reply. waits_keeps p ms flash reply k;
    }

-- ---- the makings

waiting_keeps : Keeps waiting_post
unfolding waiting_post
waiting_keeps = record {
  whole = fresh_whole;
  arisen = opening_arises (online []);
  flash_small = rw (opening_flash []) (omega arith);
  seen_small = omega arith;
  dropped_small = omega arith;
}

pub kept_made : KeptMade
unfolding kept_new kept_opening
kept_made st flash room short =
    let long = le-ltb (length st) post_bytes room in
    let none : waiting_post.dropped < 2 ^ 64 = waiting_keeps.dropped_small in
    (rw long, waiting_keeps, rw long, opened_keeps waiting_post flash none short)
