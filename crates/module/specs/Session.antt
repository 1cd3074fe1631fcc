-- The session: its opening, whether it is open, and which numbers of a session can arise.
use Rattle.std.specs.Prelude.{ℕ, Bool, cond, ◌&&◌, ◌||◌, List, length}
use Rattle.refusals.specs.Refusals.{wrong_length}
use Rattle.module_model.specs.Phases.{openable, alive, held, is_closed, closed_arises, written_in}
use Rattle.module_model.specs.declared.phases.Phase.{Phase}
use Rattle.module_model.specs.declared.phases.Phase.TheVariants.{Closed, Ready}
use Rattle.module_model.specs.Answers.{Answer}
use Rattle.module_model.specs.declared.events.Answer.TheVariants.{Nothing, Refused}
use Rattle.module.specs.declared.session.Session.{Session}
use Rattle.module.specs.declared.session.Stepped.{Stepped}

abbrev pub session : ℕ → ℕ → Phase → Session
session flash idle phase = record { flash = flash; idle = idle; phase = phase }

abbrev pub stepped : Session → Answer → Stepped
stepped s a = record { session = s; answer = a }

-- The opening: a ready session with no transfer, or 3 and a closed one that keeps the length.
unfoldable pub opening_of : List ℕ → Stepped
opening_of flash =
    cond (openable (length flash)) (stepped (session (length flash) 0 Ready) Nothing)
    (stepped (session (length flash) 0 Closed) (Refused wrong_length))

-- A session takes events if it is open and could arise. Every other one is taken as closed.
unfoldable pub takes : Session → Bool
takes s = alive s.flash s.idle && held s.phase s.flash

-- How many bytes of the image a session has written: none where there is no transfer, and none if it takes no events.
unfoldable pub written_of : Session → ℕ
written_of s = cond (takes s) (written_in s.phase) 0

-- The numbers of a session could arise from an opening under these rules.
unfoldable pub arises : Session → Bool
arises s = takes s || (is_closed s.phase && closed_arises s.flash s.idle)
