-- What a call that writes answers and leaves.
use Rattle.std.specs.Prelude.{ℕ, List, length, Result, Ok, Err}
use Rattle.octets.specs.Octets.{over}
use Rattle.refusals.specs.declared.Refusal.{Refusal}
use Rattle.refusals.specs.Refusals.{refusal_number}

-- The answer and the lent output at the end of a call.
pub record Out : Type 0 where
  pub answer : Result ℕ Refusal
  pub output : List ℕ

-- The same answer by number: a refusal has document 01's.
abbrev pub numbered : Result ℕ Refusal → Result ℕ ℕ
numbered (Ok n) = Ok n
numbered (Err refusal) = Err (refusal_number refusal)

-- What each case says in numbers. A refusal is any number and says its own, and no byte is written. Bytes written are no refusal and have no
-- number there; theirs, and that of every such answer, is from 100 on, as C is given it.
abbrev pub bytes_written : ℕ
bytes_written = 100

abbrev pub number_in : Result ℕ ℕ → ℕ
number_in (Ok n) = bytes_written
number_in (Err number) = number

abbrev pub count_in : {R : Type 0} → Result ℕ R → ℕ
count_in (Ok n) = n
count_in (Err refusal) = 0

-- A refusal leaves the output as lent.
abbrev pub refused : Refusal → List ℕ → Out
refused refusal output = record { answer = Err refusal; output = output }

-- A stretch written at the front; the output past it is as lent.
abbrev pub written : List ℕ → List ℕ → Out
written stretch output = record { answer = Ok (length stretch); output = over stretch output }
