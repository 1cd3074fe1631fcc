-- What the writer has accepted is a block that is read back.
use Rattle.std.specs.Prelude.{◌≡◌, refl, length, drop}
use Rattle.std.proofs.Common.{drop_at}
use Rattle.octets.specs.Octets.{over}
use Rattle.octets.proofs.OctetsLaws.{take_over}
use Rattle.kinds.specs.KindsLaws.{number_of_kind}
use Rattle.refusals.specs.Written.{written}
use Rattle.ubf_model.specs.Pack.{block_bytes, pack_of}
use Rattle.ubf_model.proofs.PackLaws.{texts_of_test, length_block, pack_passed, pack_accepted}
use Rattle.ubf_promises.specs.Promises.{Packable, PackedRead}
use Rattle.ubf_promises.proofs.ReadWritten.{read_written}

-- Fields that were accepted pass the tests, so they were written as their block.
pub packed_read : PackedRead
unfolding over
packed_read f output small bytes h =
    let a = pack_accepted f output h in
    let p : Packable a.kind f = record {
      numbered = number_of_kind f.number a.kind a.known;
      based = a.based;
      sized = a.sized;
      behind_header = a.behind_header;
      spelled_start = small;
      texts = a.texts;
      image_bytes = bytes;
    } in
    let wrote : pack_of f output ≡ written (block_bytes f) output =
    pack_passed a.kind f output a.known a.based a.sized a.behind_header a.texts a.room in
    let size = length_block f a.behind_header (texts_of_test f a.texts) in
    rw wrote (record {
      kind = a.kind;
      numbered = p.numbered;
      based = a.based;
      counted = size;
      reads = λ rest. rw (take_over (block_bytes f) output (length (block_bytes f)) refl) (read_written a.kind f rest p);
      past = drop_at (block_bytes f) (drop (length (block_bytes f)) output) (length (block_bytes f)) refl;
    })
