-- What each case of an answer says, in numbers.
use Rattle.refusals.specs.declared.Refusal.{Refusal}
use Rattle.refusals.specs.Refusals.{refusal_number}
use Rattle.std.specs.Prelude.{ℕ}
use Rattle.refusals.specs.Written.{bytes_written}
use Rattle.host_model.specs.declared.events.Answer as declared
use Rattle.host_model.specs.declared.events.Answer.TheVariants.{Nothing, Sent, Done, Refused, Failed}

-- An answer of a session, its refusals by name.
abbrev pub Answer : Type 0
Answer = declared.Answer Refusal

-- An answer by number: a refusal is any number.
abbrev pub AnswerByNumber : Type 0
AnswerByNumber = declared.Answer ℕ

-- The same answer by number: a refusal has document 01's.
abbrev pub numbered : Answer → AnswerByNumber
numbered Nothing = Nothing
numbered (Sent n) = Sent n
numbered Done = Done
numbered (Refused refusal) = Refused (refusal_number refusal)
numbered (Failed refusal passed n) = Failed (refusal_number refusal) passed n

-- Its number: a refusal's own; what is no refusal has none in document 01, and is numbered as C is given it, nothing 0.
abbrev pub load_done : ℕ
load_done = 103

abbrev pub number_in : AnswerByNumber → ℕ
number_in Nothing = 0
number_in (Sent n) = bytes_written
number_in Done = load_done
number_in (Refused number) = number
number_in (Failed number passed n) = number

-- The module's byte that is passed on.
abbrev pub passed_in : {R : Type 0} → declared.Answer R → ℕ
passed_in Nothing = 0
passed_in (Sent n) = 0
passed_in Done = 0
passed_in (Refused refusal) = 0
passed_in (Failed refusal passed n) = passed

-- How many bytes are to be sent.
abbrev pub count_in : {R : Type 0} → declared.Answer R → ℕ
count_in Nothing = 0
count_in (Sent n) = n
count_in Done = 0
count_in (Refused refusal) = 0
count_in (Failed refusal passed n) = n
