-- The laws of the escape. What stands above cites these and never the mask itself.
use Rattle.std.specs.Prelude.{ℕ, ◌*◌, ◌≤◌, ◌<◌, Bool, true, false, ◌||◌, List, [], ◌∷◌, ◌++◌, ◌≡◌, refl, eqb, length}
use Rattle.std.proofs.lemmas.Bool.{false≢true}
use Rattle.std.proofs.Common.{true≢false, append_assoc, append-nil, ◌∙◌, arith, eqb-true, length-append}
use Rattle.octets.proofs.Choice.{either_way}
use Rattle.wire.specs.Escape.{head_mark, escape_mark, tail_mark, one_of, is_mark, second_of, may_follow, original_of, escape_of, escaped}

-- Where neither of two tests holds, the first does not.
or_left : (a b : Bool) → (a || b) ≡ false → a ≡ false
or_left true b h = h
or_left false b h = refl

-- Where neither of two tests holds, the second does not.
or_right : (a b : Bool) → (a || b) ≡ false → b ≡ false
or_right true b h = absurd (true≢false h)
or_right false b h = h

-- What holds of three bytes and of every other byte holds of each byte.
pub of_three : (x y z : ℕ) (P : ℕ → Type 0) → P x → P y → P z
    → ((b : ℕ) → eqb b x ≡ false → eqb b y ≡ false → eqb b z ≡ false → P b) → (b : ℕ) → P b
of_three x y z P at_x at_y at_z at_other b = first (eqb b x) (eqb b y) (eqb b z) refl refl refl
  where
    first : (is_x is_y is_z : Bool) → eqb b x ≡ is_x → eqb b y ≡ is_y → eqb b z ≡ is_z → P b
    first true is_y is_z e f g = rw (eqb-true b x e) at_x
    first false true is_z e f g = rw (eqb-true b y f) at_y
    first false false true e f g = rw (eqb-true b z g) at_z
    first false false false e f g = at_other b e f g

-- What holds of three bytes holds of each byte that is one of them.
one_of_law : (x y z : ℕ) (P : ℕ → Type 0) → P x → P y → P z → (b : ℕ) → one_of b x y z ≡ true → P b
one_of_law x y z P at_x at_y at_z =
    of_three x y z (λ b. one_of b x y z ≡ true → P b) (λ h. at_x) (λ h. at_y) (λ h. at_z) (λ b e f g h. absurd (false≢true (rw (e, f, g) at h)))

-- A byte that is none of the marks is not escaped.
pub not_mark : (b : ℕ) → eqb b head_mark ≡ false → eqb b escape_mark ≡ false → eqb b tail_mark ≡ false → is_mark b ≡ false
unfolding is_mark
not_mark b h e t = rw (h, e, t)

-- A byte that is not escaped is not the head.
pub mark_not_head : (b : ℕ) → is_mark b ≡ false → eqb b head_mark ≡ false
unfolding is_mark
mark_not_head b h = or_left (eqb b head_mark) (eqb b escape_mark || eqb b tail_mark) h

-- A byte that is not escaped is neither the escape nor the tail.
neither : (b : ℕ) → is_mark b ≡ false → (eqb b escape_mark || eqb b tail_mark) ≡ false
unfolding is_mark
neither b h = or_right (eqb b head_mark) (eqb b escape_mark || eqb b tail_mark) h

-- A byte that is not escaped is not the escape.
pub mark_not_escape : (b : ℕ) → is_mark b ≡ false → eqb b escape_mark ≡ false
mark_not_escape b h = or_left (eqb b escape_mark) (eqb b tail_mark) (neither b h)

-- A byte that is not escaped is not the tail.
pub mark_not_tail : (b : ℕ) → is_mark b ≡ false → eqb b tail_mark ≡ false
mark_not_tail b h = or_right (eqb b escape_mark) (eqb b tail_mark) (neither b h)

-- What holds of the three marks holds of each byte that is escaped.
each_mark : (P : ℕ → Type 0) → P head_mark → P escape_mark → P tail_mark → (b : ℕ) → is_mark b ≡ true → P b
unfolding is_mark
each_mark = one_of_law head_mark escape_mark tail_mark

-- What holds of the three second bytes holds of each byte that may follow the escape.
each_second : (P : ℕ → Type 0) → P 0xCB → P 0xCC → P 0xCE → (b : ℕ) → may_follow b ≡ true → P b
unfolding may_follow
each_second = one_of_law 0xCB 0xCC 0xCE

-- A mark's second byte may follow the escape.
pub second_follows : (b : ℕ) → is_mark b ≡ true → may_follow (second_of b) ≡ true
unfolding may_follow second_of
second_follows = each_mark (λ b. may_follow (second_of b) ≡ true) refl refl refl

-- A mark's second byte stands for that mark.
pub original_second : (b : ℕ) → is_mark b ≡ true → original_of (second_of b) ≡ b
unfolding may_follow original_of second_of
original_second = each_mark (λ b. original_of (second_of b) ≡ b) refl refl refl

-- What may follow the escape stands for a mark.
pub original_mark : (b : ℕ) → may_follow b ≡ true → is_mark (original_of b) ≡ true
unfolding is_mark may_follow original_of
original_mark = each_second (λ b. is_mark (original_of b) ≡ true) refl refl refl

-- What may follow the escape is the second byte of what it stands for.
pub second_original : (b : ℕ) → may_follow b ≡ true → second_of (original_of b) ≡ b
unfolding second_of may_follow original_of
second_original = each_second (λ b. second_of (original_of b) ≡ b) refl refl refl

-- What may follow the escape is no mark itself.
pub follow_not_mark : (b : ℕ) → may_follow b ≡ true → is_mark b ≡ false
unfolding is_mark
follow_not_mark = each_second (λ b. is_mark b ≡ false) refl refl refl

-- What it stands for is a byte.
pub original_byte : (b : ℕ) → may_follow b ≡ true → original_of b < 256
unfolding may_follow original_of
original_byte = each_second (λ b. original_of b < 256) (omega arith) (omega arith) (omega arith)

-- A mark goes on the wire as the escape and its second byte.
pub escape_mark_law : (b : ℕ) → is_mark b ≡ true → escape_of b ≡ escape_mark ∷ second_of b ∷ []
unfolding escape_of
escape_mark_law b h = rw h

-- Any other byte goes on the wire as it is.
pub escape_plain : (b : ℕ) → is_mark b ≡ false → escape_of b ≡ b ∷ []
unfolding escape_of
escape_plain b h = rw h

-- The escape of two runs is the escape of each, one behind the other.
pub escaped_append : (xs ys : List ℕ) → escaped (xs ++ ys) ≡ escaped xs ++ escaped ys
unfolding escaped
escaped_append [] ys = refl
escaped_append (x ∷ xs) ys = rw (escaped_append xs ys, append_assoc)

-- One content byte more is its escape behind the others.
pub escaped_snoc : (xs : List ℕ) (b : ℕ) → escaped (xs ++ (b ∷ [])) ≡ escaped xs ++ escape_of b
unfolding escaped
escaped_snoc xs b = escaped_append xs (b ∷ []) ∙ rw append-nil

-- A content byte takes one byte or two on the wire, so content at most doubles.
escape_size : (b : ℕ) → length (escape_of b) ≤ 2
unfolding escape_of
escape_size b = either_way (λ (l : List ℕ). length l ≤ 2) (is_mark b) (λ e. omega arith) (λ e. omega arith)

pub escaped_size : (s : List ℕ) → length (escaped s) ≤ 2 * length s
unfolding escaped
escaped_size [] = omega arith
escaped_size (b ∷ s) = rw length-append (omega (arith, escape_size b, escaped_size s))
