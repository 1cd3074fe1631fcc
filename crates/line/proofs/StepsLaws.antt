-- A run of allowed steps behind another.
use Rattle.std.specs.Prelude.{List, [], ◌∷◌, ◌++◌, ◌≡◌, refl}
use Rattle.line.specs.Steps.{after_each, EachMay}

-- A run behind another.
pub each_append : {S M : Type 0} (step : S → M → S) (s : S) (ms ns : List M)
    → after_each step s (ms ++ ns) ≡ after_each step (after_each step s ms) ns
each_append step s [] ns = refl
each_append step s (m ∷ ms) ns = each_append step (step s m) ms ns

pub may_append : {S M : Type 0} (may : S → M → Type 0) (step : S → M → S) (s : S) (ms ns : List M) → EachMay may step s ms
    → EachMay may step (after_each step s ms) ns → EachMay may step s (ms ++ ns)
may_append may step s [] ns a b = b
may_append may step s (m ∷ ms) ns a b = (a.0, may_append may step (step s m) ms ns a.1 b)
