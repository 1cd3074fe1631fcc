-- Which texts are numbers, and which paths are opened and written to. What stands in a file is the operating system's.
use Rattle.std.specs.Prelude.{ℕ, ◌≤◌, ◌/◌, Bool, cond, ◌&&◌, leb, List, [], length, Option, Some, None, IsUtf8}
use Rattle.std.specs.Str.{all_ascii_digits}
use Rattle.std.specs.Str.Parse.{digits_value}

-- Digits alone, 1 to 16 of them.
abbrev pub is_numeral : List ℕ → Bool
is_numeral text = all_ascii_digits text && leb 1 (length text) && leb (length text) 16

-- The number that digits write, where all of them but the last write at most 2 ^ 32 - 1.
abbrev pub number_in : List ℕ → Option ℕ
number_in text = cond (is_numeral text && leb (digits_value 10 text / 10) 4294967295) (Some (digits_value 10 text)) None

-- A path of more than 4,096 bytes opens nothing, as the empty one does.
abbrev pub opened_by : List ℕ → List ℕ
opened_by path = cond (leb (length path) 4096) path []

-- A path that is written to is a text, and has room for the name of the part beside it.
abbrev pub Writable : List ℕ → Type 0
Writable path = (length path ≤ 4090) × IsUtf8 path
