-- Runs of the host: its step's definition folded over what it is given.
use Rattle.std.specs.Prelude.{ℕ, List, [], ◌∷◌, ◌++◌, take}
use Rattle.host_model.specs.Events.{Answer, count_in}
use Rattle.host.specs.Step.{Left, step_of}
use Rattle.host.specs.declared.session.Session.{Session}
use Rattle.host_model.specs.declared.events.Event.{Event}

-- What a step is given besides the session: payload or line stand in the bytes.
pub record Given : Type 0 where
  pub event : Event
  pub bytes : List ℕ
  pub image : List ℕ
  pub output : List ℕ

abbrev pub leaves : Session → Given → Left
leaves s g = step_of s g.event g.bytes g.image g.output

-- The session after a run.
unfoldable pub after_of : Session → List Given → Session
after_of s [] = s
after_of s (g ∷ gs) = after_of (leaves s g).session gs

-- The bytes that a step sends.
abbrev pub sent_by : Left → List ℕ
sent_by l = take (count_in l.answer) l.output

-- All that a run sends, and its last answer.
unfoldable pub sent_over : Session → List Given → List ℕ
sent_over s [] = []
sent_over s (g ∷ gs) = sent_by (leaves s g) ++ sent_over (leaves s g).session gs

unfoldable pub answers_of : Session → List Given → List Answer
answers_of s [] = []
answers_of s (g ∷ gs) = (leaves s g).answer ∷ answers_of (leaves s g).session gs
