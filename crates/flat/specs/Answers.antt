-- Two answers by number; those of readers, sessions and files stand with their enums. A refusal is answered by its own number.
use Rattle.std.specs.Prelude.{ℕ}

abbrev pub nothing : ℕ
nothing = 0

abbrev pub unknown : ℕ
unknown = 106
