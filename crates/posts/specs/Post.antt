-- A post: a board that waits for the start text, answers it and opens a session; after a restart or an idle close it waits again.
use Rattle.std.specs.Prelude.{ℕ, ◌+◌, ◌%◌, ◌^◌, Bool, cond, List, [], length, ◌==◌, nat_lt}
use Rattle.octets.specs.Octets.{laid}
use Rattle.commands.specs.Commands.{start_text, start_answer}
use Rattle.module.specs.Session.{opening_of, takes}
use Rattle.module_model.specs.Answers.{Answer}
use Rattle.module_model.specs.declared.events.Answer.TheVariants.{Nothing, Sent}
use Rattle.board_end.specs.Board.{BoardLeft, board_of, board_hears, board_waits}
use Rattle.board_end.specs.declared.board.Board.{Board}
use Rattle.host_end.specs.Text.{followed}
use Rattle.posts.specs.declared.post.Post.{Post}
use Rattle.posts.specs.declared.post.PostStep.{PostStep}

-- All that a byte or a time leaves.
pub record PostLeft : Type 0 where
  pub post : Post
  pub answer : Answer
  pub flash : List ℕ
  pub reply : List ℕ

abbrev pub post_left : PostStep → List ℕ → List ℕ → PostLeft
post_left r flash reply = record { post = r.post; answer = r.answer; flash = flash; reply = reply }

abbrev pub post_with : Board → ℕ → ℕ → Post
post_with b seen dropped = record { board = b; seen = seen; dropped = dropped }

-- A count of 64 bits, one more where something happened.
unfoldable pub more_of : ℕ → Bool → ℕ
more_of n happened = cond happened ((n + 1) % 2 ^ 64) n

-- Without a session: one opened over nothing is closed.
unfoldable pub waiting_post : Post
waiting_post = post_with (board_of (opening_of []).session) 0 0

-- With a session opened over the flash, and a fresh reader.
unfoldable pub opened_post : Post → List ℕ → Post
opened_post p flash = post_with (board_of (opening_of flash).session) 0 p.dropped

abbrev pub is_open : Post → Bool
is_open p = takes p.board.session

-- Nothing is said, flash and reply stay.
abbrev pub silent : Post → List ℕ → List ℕ → PostLeft
silent p flash reply = record { post = p; answer = Nothing; flash = flash; reply = reply }

-- What the board's step leaves.
abbrev pub went_of : Post → BoardLeft → PostLeft
went_of p l = record { post = post_with l.board 0 (more_of p.dropped l.dropped); answer = l.answer; flash = l.flash; reply = l.reply }

-- The start text is whole: its answer, and a session. Without room for the answer nothing happens.
unfoldable pub begins : Post → List ℕ → List ℕ → PostLeft
begins p flash reply =
    cond (nat_lt (length reply) (length start_answer)) (silent p flash reply)
    (record { post = opened_post p flash; answer = Sent (length start_answer); flash = flash; reply = laid reply 0 start_answer })

-- A byte without a session: so much of the start text has been heard.
unfoldable pub listens : Post → ℕ → List ℕ → List ℕ → PostLeft
listens p seen flash reply =
    cond (seen == length start_text) (begins p flash reply) (silent (post_with p.board seen p.dropped) flash reply)

-- One byte. While a session is open texts are not looked at.
unfoldable pub post_hears : Post → ℕ → List ℕ → List ℕ → PostLeft
post_hears p byte flash reply =
    cond (is_open p) (went_of p (board_hears p.board byte flash reply)) (listens p (followed start_text p.seen byte) flash reply)

-- Some milliseconds. Without a session nobody counts them.
unfoldable pub post_waits : Post → ℕ → List ℕ → List ℕ → PostLeft
post_waits p ms flash reply = cond (is_open p) (went_of p (board_waits p.board ms flash reply)) (silent p flash reply)
