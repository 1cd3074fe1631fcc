-- W5: where the marks stand in a wire form. The statements first, of any wire form and of ours; the proofs below use only the laws of
-- the escape.
use Rattle.std.specs.Prelude.{ℕ, Bool, true, false, ◌≡◌, refl, eqb}
use mathlib.Core.List.Memᴰ
use mathlib.Core.List.{List, [], ◌∷◌, ◌++◌, Memᴰ}
use Rattle.std.proofs.Math.Logic.{⊎_elim}
use Rattle.std.proofs.Common.{sym, arith}
use Rattle.std.proofs.lemmas.Bool.{eqb-false}
use Rattle.wire.specs.Escape.{head_mark, escape_mark, tail_mark, is_mark, second_of, escape_of, escaped}
use Rattle.wire.specs.EscapeLaws.{mark_not_head, mark_not_tail, second_follows, follow_not_mark, escape_mark_law, escape_plain}
use Rattle.wire.specs.Frame.{Frame, content_of, wire_form, wire_of}

-- A wire form: the bytes that a frame has on the wire.
abbrev pub Form : Type 0
Form = Frame → List ℕ

-- A byte that does not stand in the list.
abbrev pub Without : ℕ → List ℕ → Type 0
Without b bs = Memᴰ b bs → ⊥

-- The wire form holds the head only at its front and the tail only at its end.
pub record Marked (wire : List ℕ) : Type 0 where
  pub middle : List ℕ
  pub form : wire ≡ head_mark ∷ (middle ++ (tail_mark ∷ []))
  pub no_head : Without head_mark middle
  pub no_tail_law : Without tail_mark middle

abbrev pub OnlyMarksOf : Form → Type 0
OnlyMarksOf form = (f : Frame) → Marked (form f)

abbrev pub OnlyMarks : Type 0
OnlyMarks = OnlyMarksOf wire_of

-- No wire form is a proper prefix of another.
abbrev pub NoPrefixOf : Form → Type 0
NoPrefixOf form = (f g : Frame) (rest : List ℕ) → form f ++ rest ≡ form g → rest ≡ []

abbrev pub NoPrefix : Type 0
NoPrefix = NoPrefixOf wire_of

-- ---- escaped content holds neither the head nor the tail

-- For either of the two marks: one that no unescaped byte is, and that is not the escape.
module _ (mark : ℕ) (apart : (b : ℕ) → is_mark b ≡ false → eqb b mark ≡ false) (other : mark ≡ escape_mark → ⊥) where
  -- A byte that is not escaped is not the mark.
  not_the_mark : (b : ℕ) → is_mark b ≡ false → mark ≡ b → ⊥
  not_the_mark b h e = eqb-false b mark (apart b h) (sym e)

  -- The mark does not stand in one escaped byte: not as the byte, as the escape or as what follows it.
  not_in_byte : (b : ℕ) → Without mark (escape_of b)
  not_in_byte b = go (is_mark b) refl
    where
      go : (t : Bool) → is_mark b ≡ t → Without mark (escape_of b)
      go true h =
          let second = not_the_mark (second_of b) (follow_not_mark (second_of b) (second_follows b h)) in
          let behind : Without mark (second_of b ∷ []) = λ m. second (Memᴰ.eq_of_singleton m) in
          rw (escape_mark_law b h) (λ m. ⊎_elim other behind (Memᴰ.cases_cons m))
      go false h = rw (escape_plain b h) (λ m. not_the_mark b h (Memᴰ.eq_of_singleton m))

  -- The mark does not stand in escaped content.
  not_in_content : (bs : List ℕ) → Without mark (escaped bs)
  unfolding escaped
  not_in_content [] m = Memᴰ.not-nil m
  not_in_content (b ∷ bs) m = ⊎_elim (not_in_byte b) (not_in_content bs) (Memᴰ.append_cases (escape_of b) m)

-- The head stands only at the front and the tail only at the end.
pub only_marks : OnlyMarks
unfolding wire_of wire_form
only_marks f = record {
  middle = escaped (content_of f);
  form = refl;
  no_head = not_in_content head_mark mark_not_head (omega arith) (content_of f);
  no_tail_law = not_in_content tail_mark mark_not_tail (omega arith) (content_of f);
}

-- ---- no wire form is a proper prefix of another

-- Two runs end in a byte that stands nowhere else in them: where the second is the first and more, there is nothing more.
ends_together : (t : ℕ) (m n rest : List ℕ) → Without t m → Without t n → m ++ (t ∷ []) ++ rest ≡ n ++ (t ∷ []) → rest ≡ []
ends_together t [] [] rest clear_m clear_n e = cc
ends_together t [] (y ∷ n) rest clear_m clear_n e = absurd (clear_n (Memᴰ.head (cc)))
ends_together t (x ∷ m) [] rest clear_m clear_n e = absurd (clear_m (Memᴰ.head (cc)))
ends_together t (x ∷ m) (y ∷ n) rest clear_m clear_n e =
    ends_together t m n rest (λ k. clear_m (Memᴰ.tail k)) (λ k. clear_n (Memᴰ.tail k)) (cc)

-- Nothing stands behind a wire form where the whole is a wire form.
pub no_prefix : NoPrefix
no_prefix f g rest h =
    let first = only_marks f in
    let second = only_marks g in
    let both = rw (first.form, second.form) at h in
    ends_together tail_mark first.middle second.middle rest first.no_tail_law second.no_tail_law (cc both)
