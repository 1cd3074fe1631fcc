-- A module on a line that waits for the start text, kept as bytes: a reader's record, the words that count, a session's record; how they are
-- read again, and what a byte or a time leaves.
use Rattle.std.specs.Prelude.{ℕ, ◌+◌, Bool, cond, List, [], ◌∷◌, ltb, length, drop, Option, None, Some}
use Rattle.octets.specs.Octets.{number_at, laid}
use Rattle.refusals.specs.Refusals.{no_room, refusal_number}
use Rattle.kinds.specs.Kinds.{number_of}
use Rattle.flat.specs.Answers.{nothing}
use Rattle.flat.specs.Words.{spelled_all, low_half, high_half}
use Rattle.module_model.specs.Answers.{numbered, number_in, count_in}
use Rattle.board_end.specs.Board.{board_with}
use Rattle.posts.specs.Post.{PostLeft, post_with, waiting_post, opened_post, post_hears, post_waits}
use Rattle.posts.specs.View.{view_of, idle_of}
use Rattle.posts.specs.declared.post.Post.{Post}
use Rattle.posts.specs.declared.view.View as declared
use Rattle.posts.specs.declared.view.Stand.{Stand}
use Rattle.posts.specs.declared.view.Stand.TheVariants as stand
use Rattle.kinds.specs.declared.Kind.{Kind}
use Rattle.kept_reader.specs.Kept.{reader_bytes, reader_in, reader_kept}
use Rattle.kept_module.specs.Record.{record_bytes}
use Rattle.kept_module.specs.Kept.{words_of, session_in, Kept, kept, Opened, opened}

-- Where each part stands, and how long the record is.
abbrev pub seen_place : ℕ
seen_place = reader_bytes

abbrev pub dropped_place : ℕ
dropped_place = seen_place + 4

abbrev pub session_place : ℕ
session_place = seen_place + 12

abbrev pub post_bytes : ℕ
post_bytes = session_place + record_bytes

-- What is counted: how much of the start text has been heard, frames dropped.
abbrev pub counts_of : Post → List ℕ
counts_of p = low_half p.seen ∷ low_half p.dropped ∷ high_half p.dropped ∷ []

-- The bytes with a post in them: its reader at the front, behind it what is counted, then the record of its session.
unfoldable pub post_kept : Post → List ℕ → List ℕ
post_kept p st =
    laid (laid (reader_kept p.board.reader st) seen_place (spelled_all (counts_of p))) session_place (spelled_all (words_of p.board.session))

-- The post in some bytes: each part as it is read by itself.
unfoldable pub post_in : List ℕ → Post
post_in st =
    post_with (board_with (reader_in st) (session_in (drop session_place st))) (number_at 4 st seen_place) (number_at 8 st dropped_place)

-- 2 and nothing written for bytes without room; else a post in them: one that waits,
abbrev pub put : Post → List ℕ → Opened
put p st = cond (ltb (length st) post_bytes) (opened (refusal_number no_room) st) (opened nothing (post_kept p st))

unfoldable pub kept_new : List ℕ → Opened
kept_new st = put waiting_post st

-- or one with a session open over the flash, if one can be opened there.
unfoldable pub kept_opening : List ℕ → List ℕ → Opened
kept_opening st flash = put (opened_post waiting_post flash) st

-- What a step of the post leaves, with the post in the bytes.
abbrev pub kept_as : PostLeft → List ℕ → Kept
kept_as l st = kept (number_in (numbered l.answer)) (count_in l.answer) (post_kept l.post st) l.flash l.reply

-- 2 and nothing changed for bytes without room; else a byte,
unfoldable pub kept_hears : List ℕ → ℕ → List ℕ → List ℕ → Kept
kept_hears st byte flash reply =
    cond (ltb (length st) post_bytes) (kept (refusal_number no_room) 0 st flash reply) (kept_as (post_hears (post_in st) byte flash reply) st)

-- or some milliseconds.
unfoldable pub kept_waits : List ℕ → ℕ → List ℕ → List ℕ → Kept
kept_waits st ms flash reply =
    cond (ltb (length st) post_bytes) (kept (refusal_number no_room) 0 st flash reply) (kept_as (post_waits (post_in st) ms flash reply) st)

-- What a screen, or a file of the flash, needs.
pub record View : Type 0 where
  pub stand : ℕ
  pub number : ℕ
  pub base : ℕ
  pub extent : ℕ
  pub written : ℕ
  pub dropped : ℕ
  pub idle : Bool

abbrev pub seen_as : ℕ → ℕ → ℕ → ℕ → ℕ → ℕ → Bool → View
seen_as stand number base extent written dropped idle =
    record { stand = stand; number = number; base = base; extent = extent; written = written; dropped = dropped; idle = idle }

-- How far the session is, by its number.
abbrev pub stand_number : Stand → ℕ
stand_number stand.Closed = 0
stand_number stand.Ready = 1
stand_number stand.Begun = 2
stand_number stand.Loading = 3
stand_number stand.Done = 4

-- The type of the transfer; 0 where there is none.
abbrev pub kind_number : Option Kind → ℕ
kind_number None = 0
kind_number (Some k) = number_of k

abbrev pub type_in : declared.View → ℕ
type_in v = kind_number v.kind

-- The view of the post, and what is counted.
abbrev pub view_on : Post → View
view_on p =
    let v = view_of p in
    seen_as (stand_number v.stand) (type_in v) v.base v.extent v.written p.dropped (idle_of p)

abbrev pub view_in : List ℕ → View
view_in st = view_on (post_in st)
