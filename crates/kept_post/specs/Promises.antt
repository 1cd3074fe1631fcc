-- What is promised of a post that is kept as bytes, to be read without the proofs. Each statement is proved in the file named beside it.
use Rattle.std.specs.Prelude.{ℕ, ◌^◌, ◌≤◌, ◌<◌, true, ◌≡◌, length}
use mathlib.Core.List.{List, Memᴰ}
use Rattle.octets.specs.Octets.{Bytes}
use Rattle.wire.specs.Frame.{Frame}
use Rattle.reader.specs.Reader.{frames_of, step_of}
use Rattle.module.specs.Session.{arises}
use Rattle.posts.specs.Post.{is_open, waiting_post, opened_post, post_hears, post_waits}
use Rattle.posts.specs.declared.post.Post.{Post}
use Rattle.kept_reader.specs.Promises.{Whole}
use Rattle.kept_module.specs.Kept.{Kept, Opened}
use Rattle.kept_post.specs.Kept.{post_bytes, post_kept, post_in, kept_as, kept_hears, kept_waits, kept_new, kept_opening}

-- A post as these calls leave it: a reader with a store of 1,035 bytes, a session that can arise over a flash whose length fits eight
-- bytes, counts as large as their places.
pub record Keeps (p : Post) : Type 0 where
  pub whole : Whole p.board.reader
  pub arisen : arises p.board.session ≡ true
  pub flash_small : p.board.session.flash < 2 ^ 64
  pub seen_small : p.seen < 2 ^ 32
  pub dropped_small : p.dropped < 2 ^ 64

-- Such a post, put into bytes with room for it, is read there as it was; the buffer keeps its length. Stated of a way to keep one, proved of ours
-- (Back.antt), refuted for wrong ones (Wrong.antt).
abbrev pub KeptBackOf : (Post → List ℕ → List ℕ) → Type 0
KeptBackOf kept =
    (p : Post) (st : List ℕ) → Keeps p → post_bytes ≤ length st → (post_in (kept p st) ≡ p) × (length (kept p st) ≡ length st)

abbrev pub KeptBack : Type 0
KeptBack = KeptBackOf post_kept

-- Calls over bytes: a post is made, with or without a session; a byte or milliseconds.
abbrev pub Makes : Type 0
Makes = List ℕ → Opened

abbrev pub Opens : Type 0
Opens = List ℕ → List ℕ → Opened

abbrev pub Moves : Type 0
Moves = List ℕ → ℕ → List ℕ → List ℕ → Kept

-- In bytes with room a post that waits is made, and one with a session open over a flash, and each is such a post. Stated of two calls, proved
-- of ours (Calls.antt), refuted for wrong ones (Wrong.antt).
abbrev pub KeptMadeOf : Makes → Opens → Type 0
KeptMadeOf makes opens =
    (st flash : List ℕ) → post_bytes ≤ length st → length flash < 2 ^ 64
    → ((makes st).state ≡ post_kept waiting_post st) × Keeps waiting_post
    × ((opens st flash).state ≡ post_kept (opened_post waiting_post flash) st) × Keeps (opened_post waiting_post flash)

abbrev pub KeptMade : Type 0
KeptMade = KeptMadeOf kept_new kept_opening

-- The payload of a frame that a byte completes for an open session is bytes, as it is wherever bytes are fed.
abbrev pub PayloadBytes : Post → ℕ → Type 0
PayloadBytes p byte = is_open p ≡ true → (f : Frame) → Memᴰ f (frames_of (step_of p.board.reader byte)) → Bytes f.payload

-- A call answers what the post's own step does and leaves just that, and again such a post.
pub record SameCall (hears waits : Moves) (p : Post) (st : List ℕ) : Type 0 where
  pub hears_same : (byte : ℕ) (flash reply : List ℕ)
      → hears (post_kept p st) byte flash reply ≡ kept_as (post_hears p byte flash reply) (post_kept p st)
  pub hears_keeps : (byte : ℕ) (flash reply : List ℕ) → PayloadBytes p byte → length flash < 2 ^ 64
      → Keeps (post_hears p byte flash reply).post
  pub waits_same : (ms : ℕ) (flash reply : List ℕ)
      → waits (post_kept p st) ms flash reply ≡ kept_as (post_waits p ms flash reply) (post_kept p st)
  pub waits_keeps : (ms : ℕ) (flash reply : List ℕ) → Keeps (post_waits p ms flash reply).post

-- So from every post that is made, through any calls. Stated of two calls, proved of ours (Calls.antt), refuted for wrong ones
-- (Wrong.antt).
abbrev pub KeptCallOf : Moves → Moves → Type 0
KeptCallOf hears waits = (p : Post) (st : List ℕ) → Keeps p → post_bytes ≤ length st → SameCall hears waits p st

abbrev pub KeptCall : Type 0
KeptCall = KeptCallOf kept_hears kept_waits
