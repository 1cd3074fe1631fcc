-- The refusals of document 01's table by name, their numbers, and the words beside each.
use Prim.Native.Char.{code}
use Rattle.std.specs.Prelude.{ℕ, ◌≡◌, min, cond, List, [], ◌∷◌, eqb, length, Result, MatchResult}
use Prim.Native.String.{String}
use Rattle.octets.specs.Octets.{laid}
use Rattle.refusals.specs.declared.Refusal.{Refusal}
use Rattle.refusals.specs.declared.UnknownNumber.{UnknownNumber}
use Rattle.refusals.specs.declared.Refusal.TheVariants.{PayloadTooLong, NoRoom, WrongLength, FileEnds, WrongMark, WrongType, WrongStart, WrongImageLength, NotZeroFilled, WrongImageCheck, WrongPieces, NoAnswer, ModuleRefused, BadNotice}

abbrev pub payload_too_long : Refusal
payload_too_long = PayloadTooLong

abbrev pub no_room : Refusal
no_room = NoRoom

abbrev pub wrong_length : Refusal
wrong_length = WrongLength

abbrev pub file_ends : Refusal
file_ends = FileEnds

abbrev pub wrong_mark : Refusal
wrong_mark = WrongMark

abbrev pub wrong_type : Refusal
wrong_type = WrongType

abbrev pub wrong_start : Refusal
wrong_start = WrongStart

abbrev pub wrong_image_length : Refusal
wrong_image_length = WrongImageLength

abbrev pub not_zero_filled : Refusal
not_zero_filled = NotZeroFilled

abbrev pub wrong_image_check : Refusal
wrong_image_check = WrongImageCheck

abbrev pub wrong_pieces : Refusal
wrong_pieces = WrongPieces

abbrev pub no_answer : Refusal
no_answer = NoAnswer

abbrev pub module_refused : Refusal
module_refused = ModuleRefused

abbrev pub bad_notice : Refusal
bad_notice = BadNotice

-- The number of each.
abbrev pub refusal_number : Refusal → ℕ
refusal_number PayloadTooLong = 1
refusal_number NoRoom = 2
refusal_number WrongLength = 3
refusal_number FileEnds = 4
refusal_number WrongMark = 5
refusal_number WrongType = 6
refusal_number WrongStart = 7
refusal_number WrongImageLength = 8
refusal_number NotZeroFilled = 9
refusal_number WrongImageCheck = 10
refusal_number WrongPieces = 11
refusal_number NoAnswer = 20
refusal_number ModuleRefused = 21
refusal_number BadNotice = 22

-- A text as the numbers of its characters.
abbrev pub text_of : String → List ℕ
text_of String.[] = []
text_of (String.◌∷◌ c cs) = code c ∷ text_of cs

-- A row of the table of words.
pub record Row : Type 0 where
  pub number : ℕ
  pub words : List ℕ

abbrev pub row : Refusal → String → Row
row refusal words = record { number = refusal_number refusal; words = text_of words }

-- The table of words, one row a number.
abbrev pub table : List Row
table =
    row payload_too_long "payload over 1,030 bytes"
    ∷ row no_room "output too small"
    ∷ row wrong_length "flash or image of the wrong length"
    ∷ row file_ends "file ends inside a block"
    ∷ row wrong_mark "mark is not AT"
    ∷ row wrong_type "type or address not known"
    ∷ row wrong_start "image starts inside the header"
    ∷ row wrong_image_length "image length not allowed"
    ∷ row not_zero_filled "gap or text not filled with zeros"
    ∷ row wrong_image_check "image check differs"
    ∷ row wrong_pieces "piece size 0 or too many pieces"
    ∷ row no_answer "no fitting answer after 3 repeats"
    ∷ row module_refused "the module refused"
    ∷ row bad_notice "the module reports a failure"
    ∷ []

-- A number that the table does not have says so.
abbrev pub unknown_words : List ℕ
unknown_words = text_of "unknown refusal number"

-- The words of a number in a table.
abbrev pub words_in : List Row → ℕ → List ℕ
words_in [] n = unknown_words
words_in (r ∷ rs) n = cond (eqb r.number n) r.words (words_in rs n)

-- The words of a number.
unfoldable pub words_of : ℕ → List ℕ
words_of n = words_in table n

-- The refusal with a number, or the number, if no refusal has it.
abbrev pub Numbered : ℕ → Result Refusal UnknownNumber → Type 0
Numbered n r = MatchResult r (λ refusal. refusal_number refusal ≡ n) (λ e. (e.0 ≡ n) × (words_of n ≡ unknown_words))

-- What saying a text leaves: how many bytes of it stand at the front of the output, and the output.
pub record Said : Type 0 where
  pub count : ℕ
  pub output : List ℕ

-- As much of the text as fits; the output past it is as lent.
abbrev pub say_of : List ℕ → List ℕ → Said
say_of text output = record { count = min (length text) (length output); output = laid output 0 text }
