-- The record of a session: the place of each number in it, its size, and the numbers of the stages. Whatever is added comes last.
use Rattle.std.specs.Prelude.{ℕ, ◌*◌}

-- Image length and wish, of eight bytes each; each number behind them has four.
abbrev pub image_place : ℕ
image_place = 0

abbrev pub wish_place : ℕ
wish_place = 8

abbrev pub stage_place : ℕ
stage_place = 16

abbrev pub type_place : ℕ
type_place = 20

abbrev pub first_place : ℕ
first_place = 24

abbrev pub rate_place : ℕ
rate_place = 28

abbrev pub start_place : ℕ
start_place = 32

abbrev pub same_place : ℕ
same_place = 36

abbrev pub size_place : ℕ
size_place = 40

abbrev pub number_place : ℕ
number_place = 44

abbrev pub waited_place : ℕ
waited_place = 48

abbrev pub repeats_place : ℕ
repeats_place = 52

abbrev pub record_words : ℕ
record_words = 14

-- Its bytes: 56.
abbrev pub record_bytes : ℕ
record_bytes = 4 * record_words

-- The stages by number.
abbrev pub ended_stage : ℕ
ended_stage = 0

abbrev pub text_stage : ℕ
text_stage = 1

abbrev pub asking_stage : ℕ
asking_stage = 2

abbrev pub declaring_stage : ℕ
declaring_stage = 3

abbrev pub sending_stage : ℕ
sending_stage = 4

abbrev pub noticing_stage : ℕ
noticing_stage = 5

abbrev pub restarting_stage : ℕ
restarting_stage = 6
