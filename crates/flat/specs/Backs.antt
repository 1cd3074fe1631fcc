-- What is kept as bytes and read back from them: what follows for any way to keep it; and bytes to keep it in.
use Rattle.std.specs.Prelude.{ℕ, ◌≤◌, List, ◌≡◌, length, replicate}
use Rattle.std.proofs.Common.{sym, ap, ◌∙◌, arith}
use Rattle.std.proofs.lemmas.List.{length-replicate}

-- So many bytes, all zero: room for a record of that size.
unfoldable pub zeros : ℕ → List ℕ
zeros n = replicate n 0

pub zeros_room : (n : ℕ) → n ≤ length (zeros n)
unfolding zeros
zeros_room n = rw (length-replicate {A = ℕ} n 0) (omega arith)

-- A way to keep something in n bytes or more, such that it is read there as it was and the buffer keeps its length.
module _ {A : Type 0} (Keeps : A → Type 0) (n : ℕ) (kept : A → List ℕ → List ℕ) (reads : List ℕ → A)
    (back : (a : A) (st : List ℕ) → Keeps a → n ≤ length st → (reads (kept a st) ≡ a) × (length (kept a st) ≡ length st))
  where
    -- Bytes that keep two keep one.
    pub one_kept : (a b : A) (s t : List ℕ) → Keeps a → Keeps b → n ≤ length s → n ≤ length t → kept a s ≡ kept b t → a ≡ b
    one_kept a b s t k l room room2 same = sym (back a s k room).0 ∙ ap reads same ∙ (back b t l room2).0

    -- So a call that leaves the bytes as they are leaves what they keep as it was.
    pub unchanged : (a b : A) (st : List ℕ) → Keeps a → Keeps b → n ≤ length st → kept a st ≡ kept b (kept a st) → a ≡ b
    unchanged a b st k l room same =
        let long : n ≤ length (kept a st) = rw (back a st k room).1 room in
        one_kept a b st (kept a st) k l room long same
