-- `lay_header`: each text fits its field, and the output is as long as it was.
use native.Mathlib.Omega.{arith}
use Rattle.ubf_model.specs.Block.{model_size, version_size, name_size, date_size}
use Rattle.ubf_model.proofs.PackLaws.{TextsFit, texts_of_test, fits_field}
use Rattle.std.specs.Prelude.{ℕ, List}
use Rattle.ubf_model.specs.Pack.{Fields}
use Rattle.ubf_model.specs.Room.{HeaderRoom}
use Rattle.ubf_block.proofs.pack.lay_header.Goals as goal

-- The texts of a header that can be laid fit.
fit_of : (f : Fields) (output : List ℕ) → HeaderRoom f output → TextsFit f
fit_of f output room = texts_of_test f room.texts

pub lay_text-requires : goal.lay_text-requires
lay_text-requires c =
    let fit = fit_of _ _ c.requires in
    ((fits_field model_size _ fit.model).0, search (arith, c.requires.room))

pub lay_text-requires-2 : goal.lay_text-requires-2
lay_text-requires-2 c =
    let fit = fit_of _ _ c.requires in
    ((fits_field version_size _ fit.version).0, search (arith, c.requires.room))

pub lay_text-requires-3 : goal.lay_text-requires-3
lay_text-requires-3 c =
    let fit = fit_of _ _ c.requires in
    ((fits_field name_size _ fit.name).0, search (arith, c.requires.room))

pub lay_text-requires-4 : goal.lay_text-requires-4
lay_text-requires-4 c =
    let fit = fit_of _ _ c.requires in
    ((fits_field date_size _ fit.date).0, search (arith, c.requires.room))
