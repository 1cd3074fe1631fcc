-- Runs of calls over bytes that the caller keeps: each call is given the bytes that the one before it left.
use Rattle.std.specs.Prelude.{ℕ, List, [], ◌∷◌}

-- What each call of a run leaves; kept says which bytes of it are handed to the next.
unfoldable pub calls_by : {G K : Type 0} → (List ℕ → G → K) → (K → List ℕ) → List ℕ → List G → List K
calls_by call kept st [] = []
calls_by call kept st (g ∷ gs) = call st g ∷ calls_by call kept (kept (call st g)) gs

-- The bytes after the run.
unfoldable pub bytes_by : {G K : Type 0} → (List ℕ → G → K) → (K → List ℕ) → List ℕ → List G → List ℕ
bytes_by call kept st [] = st
bytes_by call kept st (g ∷ gs) = bytes_by call kept (kept (call st g)) gs
