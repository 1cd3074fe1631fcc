-- A flash into which an image is written part by part: how much of it stands there, and that nothing else has changed.
use Rattle.std.specs.Prelude.{ℕ, ◌+◌, ◌-◌, ◌≤◌, ◌<◌, List, ◌⊎◌, ◌≡◌, length, get_or}
use Rattle.std.proofs.Common.{inl, inr, sym, ap, ◌∙◌, arith, get_or-take, get_or-drop, ext_get_or}
use Rattle.std.proofs.Math.Decide.{dec_le, dec_lt}
use Rattle.octets.specs.Octets.{part_of, laid}
use Rattle.octets.proofs.OctetsLaws.{laid_length, laid_before, laid_behind}
use Rattle.octets.proofs.PartLaws.{part_laid, part_most}

-- The first m bytes of an image stand in a flash from a base on.
abbrev pub Filled : List ℕ → ℕ → ℕ → List ℕ → Type 0
Filled image base m flash = (i : ℕ) → i < m → get_or flash (base + i) 0 ≡ get_or image i 0

-- A flash has the length that it had, and the bytes outside the range of the image.
pub record Kept (image : List ℕ) (base : ℕ) (before flash : List ℕ) : Type 0 where
  pub same_length : length flash ≡ length before
  pub elsewhere : (i : ℕ) → (i < base) ⊎ (base + length image ≤ i) → get_or flash i 0 ≡ get_or before i 0

-- A byte of a part, and one of what was laid.
part_byte : (s : List ℕ) (at n i : ℕ) → i < n → get_or (part_of s at n) i 0 ≡ get_or s (at + i) 0
unfolding part_of
part_byte s at n i h = get_or-take n _ i 0 h ∙ get_or-drop at s i 0

laid_byte : (d : List ℕ) (at : ℕ) (s : List ℕ) (i : ℕ) → at + length s ≤ length d → i < length s → get_or (laid d at s) (at + i) 0 ≡ get_or s i 0
laid_byte d at s i h less = sym (part_byte (laid d at s) at (length s) i less) ∙ ap (λ (l : List ℕ). get_or l i 0) (part_laid d at s h)

-- A part of the image is laid where it belongs.
module _ (image : List ℕ) (base o n : ℕ) (flash : List ℕ) (within : o + length (part_of image o n) ≤ length image)
    (inside : base + length image ≤ length flash) where
  abbrev part : List ℕ
  part = part_of image o n

  abbrev now : List ℕ
  now = laid flash (base + o) part

  -- It ends within the flash.
  fits : base + o + length part ≤ length flash
  fits = omega (arith, within, inside)

  -- Its own bytes are those of the image.
  own_byte : (i : ℕ) → o ≤ i → i < o + length part → get_or now (base + i) 0 ≡ get_or image i 0
  own_byte i low high =
      let there : base + i ≡ base + o + (i - o) = omega arith in
      let back : o + (i - o) ≡ i = omega arith in
      ap (λ (x : ℕ). get_or now x 0) there
      ∙ laid_byte flash (base + o) part (i - o) fits (omega arith)
      ∙ part_byte image o n (i - o) (omega (arith, part_most image o n))
      ∙ ap (λ (x : ℕ). get_or image x 0) back

  -- Every other byte stays.
  other_byte : (i : ℕ) → (i < base + o) ⊎ (base + o + length part ≤ i) → get_or now i 0 ≡ get_or flash i 0
  other_byte i (inl low) = laid_before flash (base + o) part i (omega (arith, fits)) low
  other_byte i (inr high) = laid_behind flash (base + o) part i fits high

  -- What stood there of the image still does.
  pub fills_same : (m : ℕ) → Filled image base m flash → Filled image base m now
  fills_same m f i h = go (dec_le o i) (dec_lt i (o + length part))
    where
      go : Dec (o ≤ i) → Dec (i < o + length part) → get_or now (base + i) 0 ≡ get_or image i 0
      go (yes low) (yes high) = own_byte i low high
      go (yes low) (no past) = other_byte (base + i) (inr (omega arith)) ∙ f i h
      go (no under) high = other_byte (base + i) (inl (omega arith)) ∙ f i h

  -- Where the part begins behind what stood there, both stand there.
  pub fills_more : Filled image base o flash → Filled image base (o + length part) now
  fills_more f i h = go (dec_le o i)
    where
      go : Dec (o ≤ i) → get_or now (base + i) 0 ≡ get_or image i 0
      go (yes low) = own_byte i low h
      go (no under) = other_byte (base + i) (inl (omega arith)) ∙ f i (omega arith)

  -- Nothing else changes.
  pub keeps_more : (before : List ℕ) → Kept image base before flash → Kept image base before now
  keeps_more before k = record {
    same_length = laid_length flash (base + o) part fits ∙ k.same_length;
    elsewhere = λ i out. go i out ∙ k.elsewhere i out;
  }
    where
      go : (i : ℕ) → (i < base) ⊎ (base + length image ≤ i) → get_or now i 0 ≡ get_or flash i 0
      go i (inl low) = other_byte i (inl (omega arith))
      go i (inr high) = other_byte i (inr (omega (arith, within)))

-- Where all of the image stands there and nothing else has changed, the flash is what it was with the image laid into it.
pub whole : (image : List ℕ) (base : ℕ) (before flash : List ℕ) → base + length image ≤ length before → Kept image base before flash
    → Filled image base (length image) flash → flash ≡ laid before base image
whole image base before flash inside k f =
    ext_get_or 0 flash (laid before base image) (k.same_length ∙ sym (laid_length before base image inside)) each
  where
    each : (i : ℕ) → i < length flash → get_or flash i 0 ≡ get_or (laid before base image) i 0
    each i h = go (dec_lt i base) (dec_lt i (base + length image))
      where
        go : Dec (i < base) → Dec (i < base + length image) → get_or flash i 0 ≡ get_or (laid before base image) i 0
        go (yes low) high = k.elsewhere i (inl low) ∙ sym (laid_before before base image i (omega arith) low)
        go (no over) (yes high) =
            let there : i ≡ base + (i - base) = omega arith in
            ap (λ (x : ℕ). get_or flash x 0) there
            ∙ f (i - base) (omega arith)
            ∙ sym (laid_byte before base image (i - base) inside (omega arith))
            ∙ ap (λ (x : ℕ). get_or (laid before base image) x 0) (sym there)
        go (no over) (no past) =
            k.elsewhere i (inr (omega arith)) ∙ sym (laid_behind before base image i inside (omega arith))
