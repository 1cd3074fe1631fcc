-- The laws of Session: each test and the facts that it stands for.
use Rattle.std.specs.Prelude.{true, false, ◌&&◌, ◌≡◌}
use Rattle.std.proofs.lemmas.Bool.{false≢true}
use Rattle.std.proofs.Common.{sym, ◌∙◌}
use Rattle.octets.proofs.Choice.{both, one_holds, cond_yes}
use Rattle.module_model.specs.Phases.{alive, held, is_closed, closed_arises, written_in}
use Rattle.module_model.proofs.PhasesLaws.{Alive, alive_facts, facts_alive}
use Rattle.module.specs.Session.{takes, arises, written_of}
use Rattle.module.specs.declared.session.Session.{Session}

-- A session takes events just where it is alive and its phase holds.
pub takes_facts : (s : Session) → takes s ≡ true → Alive s.flash s.idle × (held s.phase s.flash ≡ true)
unfolding takes
takes_facts s h = let each = both (alive s.flash s.idle) _ h in (alive_facts s.flash s.idle each.0, each.1)

pub facts_takes : (s : Session) → Alive s.flash s.idle → held s.phase s.flash ≡ true → takes s ≡ true
unfolding takes
facts_takes s a h = rw (facts_alive s.flash s.idle a) h

-- A session that arises and is not closed takes events.
pub open_takes : (s : Session) → arises s ≡ true → is_closed s.phase ≡ false → takes s ≡ true
unfolding arises
open_takes s h c =
    one_holds (takes s) (is_closed s.phase && closed_arises s.flash s.idle) (λ t. t)
    (λ e. absurd (false≢true (sym c ∙ (both (is_closed s.phase) _ e).0))) h

-- What one that takes events has written is said by its phase.
pub written_open : (s : Session) → takes s ≡ true → written_of s ≡ written_in s.phase
unfolding written_of
written_open s t = cond_yes (takes s) (written_in s.phase) 0 t
