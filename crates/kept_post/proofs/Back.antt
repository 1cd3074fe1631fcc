-- A post is read from its bytes as it was.
use Rattle.std.specs.Prelude.{ℕ, ◌≤◌, List, ◌≡◌, refl, length, drop}
use Rattle.std.proofs.Common.{ap, ◌∙◌, arith}
use Rattle.octets.specs.Octets.{number_at}
use Rattle.flat.specs.Found.{Words, eight_back}
use Rattle.posts.specs.declared.post.Post.{Post}
use Rattle.kept_reader.proofs.Beside.{beside_of, BesideBack, beside_back}
use Rattle.kept_module.specs.Record.{record_bytes}
use Rattle.kept_module.specs.Kept.{words_of, session_in}
use Rattle.kept_module.proofs.CallLaws.{words_count}
use Rattle.kept_module.proofs.KeptLaws as session
use Rattle.kept_post.specs.Kept.{post_bytes, session_place, seen_place, dropped_place, counts_of, post_kept, post_in}
use Rattle.kept_post.specs.Promises.{Keeps, KeptBack}

counts_small : (p : Post) → Words (counts_of p)
counts_small p = (omega arith, (omega arith, (omega arith, tt)))

module _ (p : Post) (st : List ℕ) (k : Keeps p) (room : post_bytes ≤ length st) where
  abbrev all : List ℕ
  all = beside_of p.board.reader (counts_of p) session_place (words_of p.board.session) st

  found : BesideBack p.board.reader (counts_of p) (words_of p.board.session) st session_place
  found =
      beside_back _ _ _ st session_place k.whole (counts_small p) refl (rw (words_count p.board.session) (omega (arith, room)))

  seen_back : number_at 4 all seen_place ≡ p.seen
  seen_back = omega (arith, found.words.0, k.seen_small)

  dropped_back : number_at 8 all dropped_place ≡ p.dropped
  dropped_back = eight_back all dropped_place p.dropped k.dropped_small found.words.1.0 found.words.1.1.0

  session_back : session_in (drop session_place all) ≡ p.board.session
  session_back =
      let s = p.board.session in
      let long : record_bytes ≤ length (drop session_place st) = omega (arith, found.room, words_count s) in
      ap session_in found.behind ∙ (session.kept_back s (drop session_place st) k.arisen k.flash_small long).1

  back : post_in all ≡ p
  unfolding post_in
  back = rw (found.reader, seen_back, dropped_back, session_back)

pub kept_back : KeptBack
unfolding post_kept
kept_back p st k room = (back p st k room, (found p st k room).long)
