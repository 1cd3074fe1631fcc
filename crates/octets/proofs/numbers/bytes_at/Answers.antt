-- `octets::bytes_at`: where all bytes are there, they are what is read.
use Rattle.std.proofs.Common.{List, ℕ, ◌≡◌, ◌≤◌, ◌∙◌, ap, sym, arith, length, length-take, take_all, replicate}
use Rattle.octets.specs.Octets.{part_of, laid}
use Rattle.octets.proofs.Words.{whole_read}
use Rattle.octets.proofs.numbers.bytes_at.Goals as goal

pub returns-in-Some : goal.returns-in-Some
unfolding part_of
returns-in-Some g c =
    let a = c.args in
    let h = c.in-Some.ensures.cases in
    let there : List ℕ = c.part-there.result.now in
    let few : length there ≤ g.row.N = rw c.part-there.ensures (simp length-take (omega arith)) in
    let size : length there ≡ g.row.N = omega (arith, h) in
    let same : c.in-Some.whole.now ≡ there = h.same ∙ take_all g.row.N there few in
    same ∙ sym (whole_read g.row.N there size) ∙ ap (laid (replicate {A = ℕ} g.row.N 0) 0) c.part-there.ensures
