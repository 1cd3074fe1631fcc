-- The rate that a number says, as 0x01 carries it.
use Rattle.std.specs.Prelude.{ℕ, ◌≡◌, Bool, false, ◌&&◌, leb, Result, MatchResult}
use Rattle.host_model.specs.Stages.{number_of_rate}
use Rattle.host_model.specs.declared.plan.Rate.{Rate}
use Rattle.host_model.specs.declared.rate.UnknownRate.{UnknownRate}

-- Whether a rate has the number.
abbrev pub is_rate : ℕ → Bool
is_rate n = leb 1 n && leb n 5

-- The rate with a number, or the number, if no rate has it.
abbrev pub Numbered : ℕ → Result Rate UnknownRate → Type 0
Numbered n r = MatchResult r (λ rate. number_of_rate rate ≡ n) (λ e. (e.0 ≡ n) × (is_rate n ≡ false))
