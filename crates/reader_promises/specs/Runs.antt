-- Runs of the reader: the steps' definition folded over bytes.
use Rattle.std.specs.Prelude.{ℕ, suc, ◌+◌, ◌≤◌, List, [], ◌∷◌, ◌++◌, map}
use Rattle.wire.specs.Frame.{Frame}
use Rattle.reader.specs.Reader.{step_of, frames_of}
use Rattle.reader.specs.declared.steps.Reader.{Reader}
use Rattle.reader.specs.declared.steps.Stepped.{Stepped}

-- A frame that was handed out, and the place of its tail.
pub record Placed : Type 0 where
  pub place : ℕ
  pub frame : Frame

abbrev pub placed : ℕ → Frame → Placed
placed k f = record { place = k; frame = f }

-- What a step leaves of a reader and a byte.
abbrev pub Step : Type 0
Step = Reader → ℕ → Stepped

-- The frames that a run by a step hands out, in order, each with the place of its tail. The first byte has the place k.
unfoldable pub handed_by : Step → Reader → ℕ → List ℕ → List Placed
handed_by step r k [] = []
handed_by step r k (b ∷ bs) = map (placed k) (frames_of (step r b)) ++ handed_by step (step r b).reader (suc k) bs

-- The same by our step.
abbrev pub handed_from : Reader → ℕ → List ℕ → List Placed
handed_from r k bs = handed_by step_of r k bs

-- The same with places counted from 0.
abbrev pub handed_of : Reader → List ℕ → List Placed
handed_of r bs = handed_from r 0 bs

-- The same frame with its place counted from n bytes earlier.
abbrev pub later : ℕ → Placed → Placed
later n p = placed (n + p.place) p.frame

-- Places that rise strictly, from k on.
abbrev pub RisingFrom : ℕ → List Placed → Type 0
RisingFrom k [] = Unit
RisingFrom k (p ∷ ps) = (k ≤ p.place) × RisingFrom (suc p.place) ps
