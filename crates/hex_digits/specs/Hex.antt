-- Bytes as hex digits.
use Rattle.std.specs.Prelude.{ℕ, ◌+◌, ◌-◌, ◌/◌, ◌%◌, cond, List, [], ◌∷◌, ltb, length, take}
use Rattle.octets.specs.Octets.{over}

-- The character of a digit: 0 to 9, then capital A to F.
unfoldable pub digit_of : ℕ → ℕ
digit_of n = cond (ltb n 10) (48 + n) (65 + (n - 10))

-- Two digits a byte, the high one first.
unfoldable pub hex_of : List ℕ → List ℕ
hex_of [] = []
hex_of (b ∷ bs) = digit_of (b / 16) ∷ digit_of (b % 16) ∷ hex_of bs

-- How many digits were put, and the output.
pub record Shown : Type 0 where
  pub count : ℕ
  pub output : List ℕ

-- The digits of as many bytes as there is room for; the output past them is as lent.
unfoldable pub show_of : List ℕ → List ℕ → Shown
show_of bytes output =
    let shown = hex_of (take (length output / 2) bytes) in
    record { count = length shown; output = over shown output }
