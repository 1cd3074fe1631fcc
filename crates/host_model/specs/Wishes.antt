-- What the start text and the same version are by number: 1 with text, 1 go on.
use Rattle.std.specs.Prelude.{ℕ, ◌≡◌, false, leb, Result, MatchResult}
use Rattle.host_model.specs.declared.plan.Start.{Start}
use Rattle.host_model.specs.declared.plan.Start.TheVariants.{WithText, AtOnce}
use Rattle.host_model.specs.declared.plan.Same.{Same}
use Rattle.host_model.specs.declared.plan.Same.TheVariants.{GoOn, Stop}
use Rattle.host_model.specs.declared.wishes.UnknownStart.{UnknownStart}
use Rattle.host_model.specs.declared.wishes.UnknownSame.{UnknownSame}

abbrev pub number_of_start : Start → ℕ
number_of_start WithText = 1
number_of_start AtOnce = 0

abbrev pub number_of_same : Same → ℕ
number_of_same GoOn = 1
number_of_same Stop = 0

-- The start with a number, or the number, if it is over 1.
abbrev pub StartNumbered : ℕ → Result Start UnknownStart → Type 0
StartNumbered n r = MatchResult r (λ start. number_of_start start ≡ n) (λ e. (e.0 ≡ n) × (leb n 1 ≡ false))

-- What the same version does by number, or the number, if it is over 1.
abbrev pub SameNumbered : ℕ → Result Same UnknownSame → Type 0
SameNumbered n r = MatchResult r (λ same. number_of_same same ≡ n) (λ e. (e.0 ≡ n) × (leb n 1 ≡ false))
