-- Two names of the promises, spelled out: what fits, and how a session was opened.
use Rattle.std.specs.Prelude.{ℕ, ◌+◌, ◌≤◌, List, ◌≡◌, refl, length}
use Rattle.kinds.specs.Kinds.{base_of, longest_image}
use Rattle.kinds.specs.declared.Kind.{Kind}
use Rattle.pieces.specs.Pieces.{count_of}
use Rattle.commands.specs.Commands.{largest_packet, largest_total}
use Rattle.module_promises.specs.Promises.{opened, online, opened_by, Fits}

-- An image of 1 to 262,143 bytes that lies within the flash from its base on, in pieces of 1 to 1,024 bytes, at most 65,535 of them.
pub record FitsSpelled (kind : Kind) (image : List ℕ) (size : ℕ) (flash : List ℕ) : Type 0 where
  pub some : 1 ≤ length image
  pub short : length image ≤ longest_image
  pub inside : base_of kind + length image ≤ length flash
  pub size_some : 1 ≤ size
  pub size_most : size ≤ largest_packet
  pub total_most : count_of (length image) size ≤ largest_total

-- This is what fits says, both ways.
pub fits_spelled : (kind : Kind) (image : List ℕ) (size : ℕ) (flash : List ℕ) → Fits kind image size flash → FitsSpelled kind image size flash
fits_spelled kind image size flash f = record {
  some = f.fitting.some;
  short = f.fitting.short;
  inside = f.fitting.inside;
  size_some = f.size_some;
  size_most = f.size_most;
  total_most = f.total_most;
}

pub spelled_fits : (kind : Kind) (image : List ℕ) (size : ℕ) (flash : List ℕ) → FitsSpelled kind image size flash → Fits kind image size flash
spelled_fits kind image size flash f = record {
  fitting = record { some = f.some; short = f.short; inside = f.inside };
  size_some = f.size_some;
  size_most = f.size_most;
  total_most = f.total_most;
}

-- A session opened on the line is the one that the opening over the flash gives.
pub online_opened : (flash : List ℕ) → opened_by (online flash) ≡ opened flash
online_opened flash = refl
