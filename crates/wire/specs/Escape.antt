-- The marks of the wire, and how a content byte that looks like one is escaped. This file alone knows the mask; Pairs has document 01's table.
use Rattle.std.specs.Prelude.{ℕ, Bool, cond, ◌||◌, List, [], ◌∷◌, ◌++◌, eqb}
use Rattle.std.specs.Int.Bits.{bit_xor}

-- Every frame begins with the head.
abbrev pub head_mark : ℕ
head_mark = 0xDB

-- The escape stands before a byte that would look like a mark.
abbrev pub escape_mark : ℕ
escape_mark = 0xDC

-- Every frame ends with the tail.
abbrev pub tail_mark : ℕ
tail_mark = 0xDE

-- A marked byte has bit 4 inverted behind the escape, and the same inverts it back.
abbrev pub escape_mask : ℕ
escape_mask = 0x10

abbrev pub one_of : ℕ → ℕ → ℕ → ℕ → Bool
one_of b x y z = eqb b x || (eqb b y || eqb b z)

-- These content bytes are escaped.
unfoldable pub is_mark : ℕ → Bool
is_mark b = one_of b head_mark escape_mark tail_mark

-- What follows the escape in place of a mark.
unfoldable pub second_of : ℕ → ℕ
second_of b = bit_xor b escape_mask

-- DC must be followed by CB, CC or CE.
unfoldable pub may_follow : ℕ → Bool
may_follow b = one_of b 0xCB 0xCC 0xCE

-- The content byte that the escape and this byte stand for; DE where it may not follow.
unfoldable pub original_of : ℕ → ℕ
original_of b = cond (may_follow b) (bit_xor b escape_mask) tail_mark

-- One content byte on the wire.
unfoldable pub escape_of : ℕ → List ℕ
escape_of b = cond (is_mark b) (escape_mark ∷ second_of b ∷ []) (b ∷ [])

-- Content on the wire.
unfoldable pub escaped : List ℕ → List ℕ
escaped [] = []
escaped (b ∷ bs) = escape_of b ++ escaped bs
