-- Wrong steps that break M5: the sum of one does not stop at 7,001, one never begins a transfer.
use Rattle.std.specs.Prelude.{◌+◌, Bool, true, false, cond, List, [], ◌∷◌, ◌≡◌, refl, ltb, length}
use Rattle.std.proofs.lemmas.Bool.{false≢true}
use Rattle.std.proofs.Common.{sym, ap, ◌∙◌}
use Rattle.octets.proofs.Choice.{either_way}
use Rattle.kinds.specs.Kinds.{fits_flash}
use Rattle.module_model.specs.Phases.{longest_idle, openable, alive, closed_arises}
use Rattle.module.specs.Session.{session, opening_of, takes, arises}
use Rattle.module.specs.Step.{Left, step_of}
use Rattle.module_promises.specs.Runs.{Step, Given, after_by, next_by}
use Rattle.module_promises.specs.Promises.{Opening, online, opened_by, Reached, ReachedArisesOf, ArisesReachedOf}
use Rattle.module_promises.proofs.Tiny.{zeros64, begun4}
use Rattle.module_promises.proofs.WrongRules.{leaving}
use Rattle.module_model.specs.declared.phases.Phase.{Phase}
use Rattle.module_model.specs.declared.phases.Phase.TheVariants.{Closed, Ready, Begun, Loading, Done}
use Rattle.module_model.specs.declared.events.Event.{Event}
use Rattle.module_model.specs.declared.events.Event.TheVariants.{Frame, Elapsed}
use Rattle.module.specs.declared.session.Session.{Session}
use Rattle.module.specs.declared.session.Stepped.{Stepped}

-- ---- the sum goes on past 7,001

abbrev goes_on : Event → Session → Left → Left
goes_on (Frame command count) s l = l
goes_on (Elapsed ms) s l = cond (ltb longest_idle (s.idle + ms)) (leaving (session s.flash (s.idle + ms) Closed) l) l

abbrev pub counts_on : Step
counts_on s e payload flash reply = goes_on e s (step_of s e payload flash reply)

abbrev long : Given
long = record { event = Elapsed 8000; payload = []; flash = 0 ∷ []; reply = zeros64 }

pub counts_on_refuted : ReachedArisesOf counts_on → ⊥
unfolding after_by opening_of openable arises takes alive closed_arises
counts_on_refuted promise = false≢true (promise (online (0 ∷ [])) (long ∷ []) (tt, tt))

-- ---- no transfer begins

abbrev pub never_begins : Step
never_begins s e payload flash reply =
    let l = step_of s e payload flash reply in leaving (session l.session.flash l.session.idle s.phase) l

-- Whether a phase has a transfer.
abbrev has_transfer : Phase → Bool
has_transfer Closed = false
has_transfer Ready = false
has_transfer (Begun t) = true
has_transfer (Loading p number written) = true
has_transfer (Done p written) = true

-- No run leads to one.
stays : (s : Session) (gs : List Given) → (after_by never_begins s gs).phase ≡ s.phase
unfolding after_by
stays s [] = refl
stays s (g ∷ gs) = stays (next_by never_begins s g) gs

opens : (o : Opening) → has_transfer (opened_by o).phase ≡ false
unfolding opening_of
opens (online flash) = either_way (λ (r : Stepped). has_transfer r.session.phase ≡ false) (openable (length flash)) (λ o. refl) (λ o. refl)

begun_arises : arises begun4 ≡ true
unfolding arises takes alive openable fits_flash
begun_arises = refl

pub never_begins_refuted : ArisesReachedOf never_begins → ⊥
never_begins_refuted promise =
    let r : Reached never_begins begun4 = promise begun4 begun_arises in
    let phase = sym (stays (opened_by r.opening) r.steps) ∙ ap (λ (s : Session). s.phase) r.leads in
    false≢true (sym (opens r.opening) ∙ ap has_transfer phase)
