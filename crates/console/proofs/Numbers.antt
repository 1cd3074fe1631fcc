-- Texts of digits, by the words of std.
use Rattle.std.specs.Prelude.{ℕ, ◌<◌, ◌^◌, ◌&&◌, true, List, [], ◌∷◌, length, Result, None, IsUtf8, ◌≡◌, refl}
use Rattle.std.specs.Char.{is_ascii_digit}
use Rattle.std.specs.List.{list_all}
use Rattle.std.specs.Result.{OkIff}
use Rattle.std.specs.Str.{all_ascii_digits}
use Rattle.std.specs.Str.Parse.{ParsesUnsigned, digits_value}
use Rattle.std.proofs.Common.{ap, rules, arith}
use Rattle.std.proofs.lemmas.Str.{IsUtf8-from_ascii}
use Rattle.std.proofs.lemmas.Str.Parse.{IsNumeralModel, numerals_by_value, tells_all_ascii_digits, parse_digits}
use Rattle.std.proofs.lemmas.Fmt.{IsAscii-from_digits}
use Rattle.console.specs.Console.{number_in}

pub digits_all : (bs : List ℕ) → list_all is_ascii_digit bs ≡ all_ascii_digits bs
digits_all [] = refl
digits_all (b ∷ bs) = ap (λ r. is_ascii_digit b && r) (digits_all bs)

digits : IsNumeralModel (λ bs. all_ascii_digits bs ≡ true) (digits_value 10)
digits = numerals_by_value _ tells_all_ascii_digits

pub digits_text : (bs : List ℕ) → all_ascii_digits bs ≡ true → IsUtf8 bs
digits_text bs p = IsUtf8-from_ascii bs (IsAscii-from_digits bs (digits.to bs p))

pub digits_parsed : {E : Type 0} (bs : List ℕ) (r : Result ℕ E) → ParsesUnsigned 64 10 bs r → all_ascii_digits bs ≡ true → OkIff r ((0 < length bs) × (digits_value 10 bs < 2 ^ 64)) (digits_value 10 bs)
digits_parsed bs r h p = parse_digits digits 64 bs r h p

-- Digits that std does not read are no number.
pub unread : (bs : List ℕ) → ¬ ((0 < length bs) × (digits_value 10 bs < 2 ^ 64)) → number_in bs ≡ None
unread bs n = search (rules, arith)
