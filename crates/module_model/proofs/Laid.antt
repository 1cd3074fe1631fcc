-- The flash after so many packets of an image, and what the last of them says.
use Rattle.std.specs.Prelude.{ℕ, ◌+◌, ◌*◌, ◌-◌, ◌≤◌, ◌<◌, List, [], ◌∷◌, ◌++◌, ◌≡◌, refl, length, take}
use Rattle.std.proofs.Common.{ap, ◌∙◌, zero-mul, arith, eq-eqb, length-take-le}
use Rattle.octets.specs.Octets.{laid}
use Rattle.octets.proofs.OctetsLaws.{laid_nothing, laid_length, laid_next}
use Rattle.kinds.specs.Kinds.{base_of}
use Rattle.pieces.specs.Pieces.{size_at, piece_of}
use Rattle.pieces.specs.PiecesLaws.{within, take_more, take_whole}
use Rattle.commands.specs.Commands.{accepted, packet_reply, notice, packet_for}
use Rattle.module_model.specs.Phases.{total_of}
use Rattle.module_model.proofs.PhasesLaws.{Cut, cut_length}
use Rattle.module_model.specs.Rules.{frames_of, put_of, place_of, state_of, taken}
use Rattle.module_model.proofs.Due.{Carries, piece_facts, data_read, written_with, taken_done}
use Rattle.module_model.specs.declared.phases.Pieces.{Pieces}

-- The flash after so many packets.
abbrev pub flash_after : Pieces → List ℕ → List ℕ → ℕ → List ℕ
flash_after p image flash n = laid flash (base_of p.transfer.kind) (take (n * p.size) image)

-- The piece that is due is not empty and ends within the image.
pub due_within : (p : Pieces) (n : ℕ) → Cut p → n < total_of p
    → (1 ≤ size_at p.transfer.extent p.size (n + 1)) × (written_with p n ≤ p.transfer.extent)
due_within p n c less =
    let same : n + 1 - 1 ≡ n = omega arith in
    let w = within p.transfer.extent p.size (n + 1) (cut_length p c) c.some (omega arith) (omega (arith, less)) in
    (w.some, rw same at w.inside)

-- The packets before it hold less than the image.
pub due_short : (p : Pieces) (n : ℕ) → Cut p → n < total_of p → n * p.size < p.transfer.extent
due_short p n c less = let due = due_within p n c less in omega (arith, due.0, due.1)

-- They are that many bytes, and leave the flash as long as it was.
pub front_long : (p : Pieces) (image flash : List ℕ) (n : ℕ) → Carries p image (length flash) → n < total_of p
    → length (take (n * p.size) image) ≡ n * p.size
front_long p image flash n c less = length-take-le (n * p.size) image (omega (arith, due_short p n c.cut less, c.whole))

pub flash_long : (p : Pieces) (image flash : List ℕ) (n : ℕ) → Carries p image (length flash) → n < total_of p
    → length (flash_after p image flash n) ≡ length flash
flash_long p image flash n c less =
    laid_length flash (base_of p.transfer.kind) (take (n * p.size) image)
    (omega (arith, front_long p image flash n c less, due_short p n c.cut less, c.fitting.inside))

-- Before packet 1 the flash is as lent, after packet Total it holds the image.
pub flash_none : (p : Pieces) (image flash : List ℕ) → flash_after p image flash 0 ≡ flash
flash_none p image flash = rw (zero-mul p.size) (laid_nothing flash (base_of p.transfer.kind))

pub flash_whole : (p : Pieces) (image flash : List ℕ) → Carries p image (length flash)
    → flash_after p image flash (total_of p) ≡ laid flash (base_of p.transfer.kind) image
flash_whole p image flash c =
    let some : 1 ≤ length image = omega (arith, c.whole, cut_length p c.cut) in
    ap (laid flash (base_of p.transfer.kind)) (rw (← c.whole) (take_whole image p.size some c.cut.some))

-- The data of the packet that is due are put behind those before it.
pub flash_next_law : (p : Pieces) (image flash : List ℕ) (n : ℕ) → Carries p image (length flash) → n < total_of p
    → laid (flash_after p image flash n) (place_of p (n + 1)) (piece_of image p.size (n + 1)) ≡ flash_after p image flash (n + 1)
flash_next_law p image flash n c less =
    let base = base_of p.transfer.kind in
    let front = take (n * p.size) image in
    let piece = piece_of image p.size (n + 1) in
    let same : n + 1 - 1 ≡ n = omega arith in
    let long = front_long p image flash n c less in
    let f = piece_facts p image (length flash) (n + 1) c (omega arith) (omega (arith, less)) in
    let room : base + length front + length piece ≤ length flash =
    omega (arith, long, f.long, (due_within p n c.cut less).1, c.fitting.inside) in
    let place : place_of p (n + 1) ≡ base + length front = rw (same, long) in
    let more : front ++ piece ≡ take ((n + 1) * p.size) image =
    rw same (rw same at (take_more image p.size (n + 1) (omega arith))) in
    rw place (laid_next flash base front piece room ∙ ap (laid flash base) more)

-- So the decision that takes it puts it there.
pub taken_laid : (p : Pieces) (image flash : List ℕ) (n : ℕ) → Carries p image (length flash) → n < total_of p
    → put_of (taken p (n + 1) (written_with p n)).put (packet_for image p.size (n + 1)) (flash_after p image flash n)
    ≡ flash_after p image flash (n + 1)
taken_laid p image flash n c less = rw (data_read image p.size (n + 1)) (flash_next_law p image flash n c less)

-- The last packet is acknowledged, and the notice of State 0 follows.
pub last_says : (p : Pieces) (n : ℕ) → Cut p → n + 1 ≡ total_of p
    → frames_of (taken p (n + 1) (written_with p n)).say ≡ packet_reply (total_of p) accepted ∷ notice 0 ∷ []
unfolding state_of
last_says p n c last =
    rw (taken_done p n c last, eq-eqb p.transfer.extent p.transfer.extent refl, last)
