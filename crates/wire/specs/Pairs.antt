-- The escape by the mask is the one that document 01 lists. Its table and the statement first, of any escape and of ours; the proof below.
use Rattle.std.specs.Prelude.{ℕ, Bool, false, cond, ◌||◌, List, [], ◌∷◌, ◌≡◌, refl, eqb}
use Rattle.wire.specs.Escape.{is_mark, second_of, may_follow, original_of, escape_of}
use Rattle.wire.specs.EscapeLaws.{of_three}

-- A row: a content byte, and the byte that stands for it behind DC.
pub record Pair : Type 0 where
  pub content : ℕ
  pub second : ℕ

abbrev pair : ℕ → ℕ → Pair
pair c s = record { content = c; second = s }

-- In content DB, DC, DE become DC CB, DC CC, DC CE.
abbrev pub escape_pairs : List Pair
escape_pairs = pair 0xDB 0xCB ∷ pair 0xDC 0xCC ∷ pair 0xDE 0xCE ∷ []

-- A content byte on the wire: DC and the second byte of its row, or itself where it has none.
abbrev pub escape_by : List Pair → ℕ → List ℕ
escape_by [] b = b ∷ []
escape_by (p ∷ ps) b = cond (eqb b p.content) (0xDC ∷ p.second ∷ []) (escape_by ps b)

-- What a byte behind DC stands for: the content byte of its row, DE where it has none.
abbrev pub original_by : List Pair → ℕ → ℕ
original_by [] b = 0xDE
original_by (p ∷ ps) b = cond (eqb b p.second) p.content (original_by ps b)

-- Whether a byte is the second of a row.
abbrev pub is_second : List Pair → ℕ → Bool
is_second [] b = false
is_second (p ∷ ps) b = eqb b p.second || is_second ps b

-- A way to escape: a content byte on the wire, which bytes may follow the escape, what a byte stands for there.
pub record Way : Type 0 where
  pub escape : ℕ → List ℕ
  pub follows : ℕ → Bool
  pub original : ℕ → ℕ

-- Of every byte a way says what the pairs say, and the bytes that may follow are exactly the second bytes of the pairs.
pub record AsListedOf (way : Way) : Type 0 where
  pub escape : (b : ℕ) → way.escape b ≡ escape_by escape_pairs b
  pub follows : (b : ℕ) → way.follows b ≡ is_second escape_pairs b
  pub original : (b : ℕ) → way.original b ≡ original_by escape_pairs b

abbrev pub ours : Way
ours = record { escape = escape_of; follows = may_follow; original = original_of }

abbrev pub AsListed : Type 0
AsListed = AsListedOf ours

-- ---- the proof: at each of three bytes, and at any other

pub as_listed : AsListed
unfolding escape_of is_mark second_of may_follow original_of
as_listed = record {
  escape = of_three 0xDB 0xDC 0xDE (λ b. escape_of b ≡ escape_by escape_pairs b) refl refl refl (λ b e f g. rw (e, f, g));
  follows = of_three 0xCB 0xCC 0xCE (λ b. may_follow b ≡ is_second escape_pairs b) refl refl refl (λ b e f g. rw (e, f, g));
  original = of_three 0xCB 0xCC 0xCE (λ b. original_of b ≡ original_by escape_pairs b) refl refl refl (λ b e f g. rw (e, f, g));
}
