-- A caller is read from its bytes as it was.
use Rattle.std.specs.Prelude.{ℕ, ◌≤◌, List, ◌≡◌, refl, length, drop}
use Rattle.std.proofs.Common.{ap, ◌∙◌, arith}
use Rattle.octets.specs.Octets.{number_at}
use Rattle.flat.specs.Found.{Words, eight_back}
use Rattle.posts.specs.declared.caller.Caller.{Caller}
use Rattle.kept_reader.proofs.Beside.{beside_of, BesideBack, beside_back}
use Rattle.kept_host.specs.Record.{record_bytes}
use Rattle.kept_host.specs.Kept.{words_of, session_in}
use Rattle.kept_host.proofs.KeptLaws.{words_count}
use Rattle.kept_host.proofs.Back as session
use Rattle.kept_caller.specs.Kept.{caller_bytes, session_place, seen_place, resent_place, dropped_place, counts_of, caller_kept, caller_in}
use Rattle.kept_caller.specs.Promises.{Keeps, KeptBack}

counts_small : (c : Caller) → Words (counts_of c)
counts_small c = (omega arith, (omega arith, (omega arith, (omega arith, (omega arith, tt)))))

module _ (c : Caller) (st : List ℕ) (k : Keeps c) (room : caller_bytes ≤ length st) where
  abbrev all : List ℕ
  all = beside_of c.end.reader (counts_of c) session_place (words_of c.end.session) st

  found : BesideBack c.end.reader (counts_of c) (words_of c.end.session) st session_place
  found =
      beside_back _ _ _ st session_place k.whole (counts_small c) refl (rw (words_count c.end.session) (omega (arith, room)))

  seen_back : number_at 4 all seen_place ≡ c.end.seen
  seen_back = omega (arith, found.words.0, k.seen_small)

  resent_back : number_at 8 all resent_place ≡ c.resent
  resent_back = eight_back all resent_place c.resent k.resent_small found.words.1.0 found.words.1.1.0

  dropped_back : number_at 8 all dropped_place ≡ c.dropped
  dropped_back = eight_back all dropped_place c.dropped k.dropped_small found.words.1.1.1.0 found.words.1.1.1.1.0

  session_back : session_in (drop session_place all) ≡ c.end.session
  session_back =
      let s = c.end.session in
      let long : record_bytes ≤ length (drop session_place st) = omega (arith, found.room, words_count s) in
      ap session_in found.behind ∙ (session.kept_back s (drop session_place st) k.arisen k.real long).1

  back : caller_in all ≡ c
  unfolding caller_in
  back = rw (found.reader, seen_back, resent_back, dropped_back, session_back)

pub kept_back : KeptBack
unfolding caller_kept
kept_back c st k room = (back c st k room, (found c st k room).long)
