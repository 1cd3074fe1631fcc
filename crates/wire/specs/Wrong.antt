-- Wrong escapes, each ours but for one thing, and where document 01's table says otherwise.
use Rattle.std.specs.Prelude.{ℕ, true, cond, List, [], ◌∷◌, ◌≡◌, refl, get_or}
use Rattle.std.proofs.Common.{true≢false, ap, arith}
use Rattle.std.specs.Int.Bits.{bit_xor}
use Rattle.wire.specs.Escape.{escape_mark, tail_mark, escape_mask, is_mark, second_of, may_follow, original_of, escape_of}
use Rattle.wire.specs.Pairs.{Way, ours, AsListedOf}

-- Our escape, but by any mask.
abbrev pub masked : ℕ → Way
masked mask = record {
  escape = λ b. cond (is_mark b) (escape_mark ∷ bit_xor b mask ∷ []) (b ∷ []);
  follows = may_follow;
  original = λ b. cond (may_follow b) (bit_xor b mask) tail_mark;
}

-- By our mask it is ours.
masked_ours : masked escape_mask ≡ ours
unfolding escape_of second_of original_of
masked_ours = refl

-- A mask that makes another byte than CB of DB is not the one.
other_mask : (mask : ℕ) → (bit_xor 0xDB mask ≡ 0xCB → ⊥) → AsListedOf (masked mask) → ⊥
unfolding is_mark
other_mask mask other promise = other (ap (λ (wire : List ℕ). get_or wire 1 0) (promise.escape 0xDB))

-- Bit 3 in place of bit 4: D3 for DB.
pub mask_08_refuted : AsListedOf (masked 0x08) → ⊥
mask_08_refuted = other_mask 0x08 (λ (e : 0xD3 ≡ 0xCB). omega (arith, e))

-- Bit 5 besides bit 4: EB for DB.
pub mask_30_refuted : AsListedOf (masked 0x30) → ⊥
mask_30_refuted = other_mask 0x30 (λ (e : 0xEB ≡ 0xCB). omega (arith, e))

-- Our escape, but undone without the test of followers.
abbrev pub untested : Way
untested = record { escape = escape_of; follows = may_follow; original = λ b. bit_xor b escape_mask }

pub untested_refuted : AsListedOf untested → ⊥
untested_refuted promise =
    let zero : ◌≡◌ {A = ℕ} 0x10 0xDE = promise.original 0x00 in
    omega (arith, zero)

-- Our escape, but any byte may follow.
abbrev pub any_follows : Way
any_follows = record { escape = escape_of; follows = λ b. true; original = original_of }

pub any_follows_refuted : AsListedOf any_follows → ⊥
any_follows_refuted promise = true≢false (promise.follows 0x00)

-- Our escape, but DC itself goes out inverted.
abbrev pub escape_inverted : Way
escape_inverted = record { escape = λ b. cond (is_mark b) (bit_xor escape_mark escape_mask ∷ second_of b ∷ []) (b ∷ []); follows = may_follow; original = original_of }

pub escape_inverted_refuted : AsListedOf escape_inverted → ⊥
unfolding is_mark
escape_inverted_refuted promise =
    let first : ◌≡◌ {A = ℕ} 0xCC 0xDC = ap (λ (wire : List ℕ). get_or wire 0 0) (promise.escape 0xDB) in
    omega (arith, first)

-- Our escape, but undone by inverting DC in place of the byte behind it.
abbrev pub inverts_escape : Way
inverts_escape = record { escape = escape_of; follows = may_follow; original = λ b. cond (may_follow b) (bit_xor escape_mark escape_mask) tail_mark }

pub inverts_escape_refuted : AsListedOf inverts_escape → ⊥
unfolding may_follow
inverts_escape_refuted promise =
    let head : ◌≡◌ {A = ℕ} 0xCC 0xDB = promise.original 0xCB in
    omega (arith, head)
