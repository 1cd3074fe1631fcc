-- The record of a session: the place of each number in it, its size, and the numbers of the phases. Whatever is added comes last.
use Rattle.std.specs.Prelude.{ℕ, ◌*◌}

-- The flash length, of eight bytes; each number behind it has four.
abbrev pub flash_place : ℕ
flash_place = 0

abbrev pub idle_place : ℕ
idle_place = 8

abbrev pub phase_place : ℕ
phase_place = 12

abbrev pub type_place : ℕ
type_place = 16

abbrev pub length_place : ℕ
length_place = 20

abbrev pub size_place : ℕ
size_place = 24

abbrev pub number_place : ℕ
number_place = 28

abbrev pub written_place : ℕ
written_place = 32

abbrev pub record_words : ℕ
record_words = 9

-- Its bytes: 36.
abbrev pub record_bytes : ℕ
record_bytes = 4 * record_words

-- The phases by number.
abbrev pub closed_phase : ℕ
closed_phase = 0

abbrev pub ready_phase : ℕ
ready_phase = 1

abbrev pub begun_phase : ℕ
begun_phase = 2

abbrev pub loading_phase : ℕ
loading_phase = 3

abbrev pub done_phase : ℕ
done_phase = 4
