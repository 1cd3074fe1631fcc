-- `begin`: wishes that are none, and the opening with those read.
use Rattle.std.specs.Prelude.{ℕ, Bool, ◌≡◌, refl, true, false, ◌&&◌, leb}
use Rattle.std.proofs.Math.Path.{sym, ap}
use Rattle.std.proofs.Common.{◌∙◌}
use Rattle.octets.proofs.Choice.{cond_yes, cond_no}
use Rattle.host_model.specs.Stages.{number_of_rate}
use Rattle.host_model.specs.Wishes.{number_of_start, number_of_same}
use Rattle.host_model.specs.declared.plan.Start.{Start}
use Rattle.host_model.specs.declared.plan.Start.TheVariants.{WithText, AtOnce}
use Rattle.host_model.specs.declared.plan.Same.{Same}
use Rattle.host_model.specs.declared.plan.Same.TheVariants.{GoOn, Stop}
use Rattle.host.specs.Step.{Wishes}
use Rattle.kept_host.specs.Kept.{start_number, same_number, wishes_known, wishes_in, begun_as, opening_by}
use Rattle.kept_host.proofs.Run.{wishes_known_law, wishes_back}
use Rattle.kept_host.proofs.opening.begin.Goals.{in_default-via-in-Ok+in-Ok+in_default, in_default-via-in-Ok+in_default, in_default-via-in_default}
use Rattle.kept_host.proofs.opening.begin.Goals as goal

start_kept : (s : Start) → number_of_start s ≡ start_number s
start_kept WithText = refl
start_kept AtOnce = refl

same_kept : (s : Same) → number_of_same s ≡ same_number s
same_kept GoOn = refl
same_kept Stop = refl

-- Numbers that are those of some wishes are known, and read as these.
taken : (first start same : ℕ) (w : Wishes) → number_of_rate w.first ≡ first → number_of_start w.start ≡ start → number_of_same w.same ≡ same
    → (wishes_known first start same ≡ true) × (wishes_in first w.wish start same ≡ w)
taken first start same w f s m = rw (← f, ← s, ← m, start_kept w.start, same_kept w.same) (wishes_known_law w, wishes_back w)

-- One number that is none is enough.
no_rate : (a b x : Bool) → (a && b) ≡ false → (a && (b && x)) ≡ false
no_rate true b x e = rw e
no_rate false b x e = refl

no_start : (a b x : Bool) → (a && (b && (false && x))) ≡ false
no_start true true x = refl
no_start true false x = refl
no_start false b x = refl

no_same : (a b x : Bool) → (a && (b && (x && false))) ≡ false
no_same true true true = refl
no_same true true false = refl
no_same true false x = refl
no_same false b x = refl

pub returns-in_default : goal.returns-in_default
unfolding opening_by wishes_known
returns-in_default c =
    let a = c.args in
    let none : wishes_known a.first a.start a.same ≡ false =
    elim c.in_default.branch [
      | in_default-via-in-Ok+in-Ok+in_default w ↦ rw ((rw w.in_default.is-2 at c.try_from-3.ensures).1) (no_same (leb 1 a.first) (leb a.first 5) (leb a.start 1))
      | in_default-via-in-Ok+in_default w ↦ rw ((rw w.in_default.is-1 at c.try_from-2.ensures).1) (no_start (leb 1 a.first) (leb a.first 5) (leb a.same 1))
      | in_default-via-in_default w ↦ no_rate (leb 1 a.first) (leb a.first 5) _ (rw w.in_default.is-0 at c.try_from.ensures).1
    ] in
    rw c.over.ensures (sym (cond_no _ _ _ none))

pub returns : goal.returns
unfolding opening_by
returns c =
    let a = c.args in
    let o = c.in-Ok-Ok-Ok in
    let t = taken a.first a.start a.same (record { first = o.first; wish = a.wish; start = o.start; same = o.same }) o.ensures o.ensures' o.ensures'' in
    rw c.numbered.ensures
    (ap begun_as c.opening-stepped.ensures
    ∙ rw (← t.1)
    (sym (cond_yes _ _ _ t.0)))
