-- What each case of an answer says, in numbers.
use Rattle.refusals.specs.declared.Refusal.{Refusal}
use Rattle.refusals.specs.Refusals.{refusal_number}
use Rattle.std.specs.Prelude.{ℕ, Bool, true, false}
use Rattle.refusals.specs.Written.{bytes_written}
use Rattle.module_model.specs.declared.events.Answer as declared
use Rattle.module_model.specs.declared.events.Answer.TheVariants.{Nothing, Sent, Refused}

-- An answer of a session, its refusals by name.
abbrev pub Answer : Type 0
Answer = declared.Answer Refusal

-- An answer by number: a refusal is any number.
abbrev pub AnswerByNumber : Type 0
AnswerByNumber = declared.Answer ℕ

-- The same answer by number: a refusal has document 01's.
abbrev pub numbered : Answer → AnswerByNumber
numbered Nothing = Nothing
numbered (Sent n) = Sent n
numbered (Refused refusal) = Refused (refusal_number refusal)

-- Its number: a refusal's own; what is no refusal has none in document 01, and is numbered as C is given it, nothing 0.
abbrev pub number_in : AnswerByNumber → ℕ
number_in Nothing = 0
number_in (Sent n) = bytes_written
number_in (Refused number) = number

-- How many bytes are sent.
abbrev pub count_in : {R : Type 0} → declared.Answer R → ℕ
count_in Nothing = 0
count_in (Sent n) = n
count_in (Refused refusal) = 0

abbrev pub is_refused : {R : Type 0} → declared.Answer R → Bool
is_refused Nothing = false
is_refused (Sent n) = false
is_refused (Refused refusal) = true
