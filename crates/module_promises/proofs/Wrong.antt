-- Wrong steps and openings, each a small variation of ours, and a promise that it breaks.
use Rattle.std.specs.Prelude.{ℕ, true, cond, List, [], ◌∷◌, ◌≡◌, refl, ltb, length}
use Rattle.std.proofs.lemmas.Bool.{false≢true}
use Rattle.std.proofs.Common.{ap, arith}
use Rattle.refusals.specs.Refusals.{no_room, wrong_length}
use Rattle.module_model.specs.Phases.{openable, alive, closed_arises}
use Rattle.module.specs.Session.{session, stepped, opening_of, takes, arises}
use Rattle.module.specs.Step.{Left, left, smallest_reply, step_of}
use Rattle.module_promises.specs.Runs.{Step, Given}
use Rattle.module_promises.specs.Promises.{online, RefusedLeavesOf}
use Rattle.module_promises.proofs.Arises.{opening_arises}
use Rattle.module_model.specs.declared.phases.Phase.TheVariants.{Closed, Ready}
use Rattle.module_model.specs.declared.events.Event.TheVariants.{Elapsed}
use Rattle.module_model.specs.declared.events.Answer.TheVariants.{Refused}
use Rattle.module.specs.declared.session.Session.{Session}
use Rattle.module.specs.declared.session.Stepped.{Stepped}

-- ---- a refused event leaves the sum

-- Our step, but an event refused with 2 sets the sum to 0.
abbrev pub resets_refused : Step
resets_refused s e payload flash reply =
    cond (ltb (length reply) smallest_reply) (left (stepped (session s.flash 0 s.phase) (Refused no_room)) flash reply)
    (step_of s e payload flash reply)

-- A ready session over a flash of one byte that has waited 5 ms, and an event with no room for a reply.
abbrev waited : Session
waited = session 1 5 Ready

abbrev roomless : Given
roomless = record { event = Elapsed 1; payload = []; flash = 0 ∷ []; reply = [] }

pub resets_refused_refuted : RefusedLeavesOf resets_refused → ⊥
resets_refused_refuted promise =
    let same : ◌≡◌ {A = ℕ} 0 5 = ap (λ (l : Left). l.session.idle) (promise waited roomless no_room refl) in
    omega (arith, same)

-- ---- an opening that arises

-- What an opening gives could arise; it holds of ours.
abbrev pub OpeningArisesOf : (List ℕ → Stepped) → Type 0
OpeningArisesOf opening = (flash : List ℕ) → arises (opening flash).session ≡ true

pub opening_arises_of : OpeningArisesOf opening_of
opening_arises_of flash = opening_arises (online flash)

-- Our opening, but a refused one leaves a sum of 1.
abbrev pub counts_refused : List ℕ → Stepped
counts_refused flash = cond (openable (length flash)) (opening_of flash) (stepped (session (length flash) 1 Closed) (Refused wrong_length))

pub counts_refused_refuted : OpeningArisesOf counts_refused → ⊥
unfolding openable arises takes alive closed_arises
counts_refused_refuted promise = false≢true (promise [])
