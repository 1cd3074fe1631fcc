-- A run of steps of anything, each allowed where it is made.
use Rattle.std.specs.Prelude.{List, [], ◌∷◌, ◌++◌, ◌≡◌, refl}

-- Where a run leads.
abbrev pub after_each : {S M : Type 0} → (S → M → S) → S → List M → S
after_each step s [] = s
after_each step s (m ∷ ms) = after_each step (step s m) ms

-- Each step of a run is allowed.
abbrev pub EachMay : {S M : Type 0} → (S → M → Type 0) → (S → M → S) → S → List M → Type 0
EachMay may step s [] = Unit
EachMay may step s (m ∷ ms) = may s m × EachMay may step (step s m) ms
