-- Choices by a test, which every layer's definitions are made of.
use Rattle.std.specs.Prelude.{Bool, true, false, cond, not, ◌&&◌, ◌||◌, ◌≡◌, refl}
use Rattle.std.proofs.lemmas.Bool.{false≢true, not-true, not-false}
use Rattle.std.proofs.Common.{sym, ◌∙◌}

-- A test that holds takes the first case, one that fails the second.
pub cond_yes : {A : Type 0} (t : Bool) (x y : A) → t ≡ true → cond t x y ≡ x
cond_yes t x y h = rw h

pub cond_no : {A : Type 0} (t : Bool) (x y : A) → t ≡ false → cond t x y ≡ y
cond_no t x y h = rw h

-- Two choices by one test are related where their cases are.
pub by_test : {A B : Type 0} (R : A → B → Type 0) (t : Bool) {x y : A} {u v : B} → (t ≡ true → R x u) → (t ≡ false → R y v)
    → R (cond t x y) (cond t u v)
by_test R true h k = h refl
by_test R false h k = k refl

-- What holds in both cases of a choice holds of the choice.
pub either_way : {A : Type 0} (P : A → Type 0) (t : Bool) {x y : A} → (t ≡ true → P x) → (t ≡ false → P y) → P (cond t x y)
either_way P true h k = h refl
either_way P false h k = k refl

-- Where two tests both hold, each does.
pub both : (a b : Bool) → (a && b) ≡ true → (a ≡ true) × (b ≡ true)
both true b h = (refl, h)
both false b h = absurd (false≢true h)

-- What follows from each of two tests follows where one of them holds.
pub one_holds : {P : Type 0} (a b : Bool) → (a ≡ true → P) → (b ≡ true → P) → (a || b) ≡ true → P
one_holds true b h k e = h refl
one_holds false b h k e = k e

-- What a call answered, turned round by a test of its negation: the definition that it equals.
pub test_passed : {x t : Bool} → x ≡ t → not x ≡ false → t ≡ true
test_passed {x} e h = sym e ∙ not-false x h

pub test_failed : {x t : Bool} → x ≡ t → not x ≡ true → t ≡ false
test_failed {x} e h = sym e ∙ not-true x h
