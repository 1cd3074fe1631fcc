-- What an opening and a read of a line may answer. Which bytes come, and whether they do, is the operating system's.
use Rattle.std.specs.Prelude.{ℕ, ◌≤◌, Bool, true, false, not, List, ◌≡◌, Result, Ok, Err}
use Rattle.octets.specs.Octets.{same_bytes}
use Rattle.refusals.specs.Refusals.{text_of}
use Rattle.cable.specs.declared.Cable.{Cable}
use Rattle.cable.specs.declared.Cable.TheVariants.{Standard, Terminal}
use Rattle.cable.specs.declared.Came.{Came}
use Rattle.cable.specs.declared.Came.TheVariants.{Bytes, Silence, End}

-- The path of standard input and output.
abbrev pub dash : List ℕ
dash = text_of "-"

abbrev pub is_terminal_of : {F : Type 0} → Cable F → Bool
is_terminal_of Standard = false
is_terminal_of (Terminal file) = true

-- A line is a terminal unless its path is the dash, and the dash never fails.
abbrev pub Opens : {F E : Type 0} → Result (Cable F) E → List ℕ → Type 0
Opens (Ok cable) path = same_bytes path dash ≡ not (is_terminal_of cable)
Opens (Err error) path = same_bytes path dash ≡ false

-- Bytes that came are some, and within the buffer. An empty read is silence on a terminal only, and the end only elsewhere.
abbrev pub Comes : {E : Type 0} → Result Came E → Bool → ℕ → Type 0
Comes (Ok (Bytes n)) terminal room = (1 ≤ n) × (n ≤ room)
Comes (Ok Silence) terminal room = terminal ≡ true
Comes (Ok End) terminal room = terminal ≡ false
Comes (Err error) terminal room = Unit
