-- `write`: what the tests have let through has a header that can be laid; then header and image are the block.
use Rattle.std.specs.Prelude.{◌+◌, ◌≤◌, true, ◌≡◌, length, Ok}
use Rattle.std.proofs.Common.{sym, ap, ◌∙◌, arith}
use borrow.Author.Tests.{le-leb}
use Rattle.octets.proofs.Choice.{cond_yes}
use Rattle.octets.specs.Octets.{over, lay_all}
use Rattle.kinds.specs.Kinds.{kind_of}
use Rattle.ubf_model.specs.Block.{header_size, texts_fit}
use Rattle.ubf_model.specs.Pack.{Fields, gathered, bytes_of, block_bytes, body_pieces, pack_of}
use Rattle.ubf_model.proofs.PackLaws.{texts_of_test, length_block, block_built, body_built, fits_short}
use Rattle.ubf_block.proofs.pack.write.Goals as goal

pub lay_header-requires : goal.lay_header-requires
lay_header-requires c = record {
  texts = sym c.fit.ensures ∙ c.if-not-fit.false;
  spelled_length = fits_short (kind_of c.args.numbers.number) _ (sym c.image_fits.ensures ∙ c.if-not-image_fits.false);
  room = omega arith;
}

pub returns : goal.returns
unfolding pack_of
returns c =
    let a = c.args in
    let f : Fields = gathered a.numbers a.model.now a.version.now a.name.now a.date.now a.image.now in
    let texts : texts_fit f.model f.version f.name f.date ≡ true = sym c.fit.ensures ∙ c.if-not-fit.false in
    let behind : header_size ≤ f.start = omega arith in
    let room : bytes_of f ≤ length a.out.now = omega arith in
    let size : f.start + length f.image + 4 ≡ length (block_bytes f) = omega (arith, length_block f behind (texts_of_test f texts)) in
    let put : c.lay_image.new.out ≡ over (block_bytes f) a.out.now =
    c.lay_image.ensures
    ∙ body_built f _ behind
    ∙ ap (λ l. lay_all l header_size (body_pieces f)) c.lay_header.ensures
    ∙ block_built f a.out.now behind texts room in
    (λ i. record { answer = Ok (size i); output = put i })
    ∙ sym
    (cond_yes _ _ _ (sym c.type_pairs.ensures ∙ c.if-not-type_pairs.false)
    ∙ cond_yes _ _ _ (sym c.image_fits.ensures ∙ c.if-not-image_fits.false)
    ∙ cond_yes _ _ _ (le-leb header_size f.start behind)
    ∙ cond_yes _ _ _ texts
    ∙ cond_yes _ _ _ (le-leb (bytes_of f) (length a.out.now) room))
