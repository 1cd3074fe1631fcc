-- An image cut into pieces of one size. Pieces are numbered from 1.
use Rattle.std.specs.Prelude.{ℕ, ◌+◌, ◌*◌, ◌-◌, ◌/◌, cond, List, eqb}
use Rattle.octets.specs.Octets.{part_of}

-- How many pieces there are: length / size rounded up; none where the size is 0.
unfoldable pub count_of : ℕ → ℕ → ℕ
count_of length size = cond (eqb size 0) 0 ((length + (size - 1)) / size)

-- Where a piece begins in the image.
abbrev pub offset_of : ℕ → ℕ → ℕ
offset_of size number = (number - 1) * size

-- How long a piece is: each but the last has the size, the last has the rest.
unfoldable pub size_at : ℕ → ℕ → ℕ → ℕ
size_at length size number = cond (eqb number (count_of length size)) (length - offset_of size (count_of length size)) size

-- A piece of an image.
abbrev pub piece_of : List ℕ → ℕ → ℕ → List ℕ
piece_of image size number = part_of image (offset_of size number) size
