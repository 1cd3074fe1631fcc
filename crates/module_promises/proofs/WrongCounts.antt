-- Wrong steps against the promises over the idle sum, the refusals and what moves a transfer.
use Rattle.std.specs.Prelude.{ℕ, ◌+◌, cond, ◌≡◌, refl, eqb, ltb, length}
use Rattle.std.proofs.lemmas.Bool.{false≢true}
use mathlib.Core.List.Memᴰ
use mathlib.Core.List.{List, [], ◌∷◌, Memᴰ}
use Rattle.std.proofs.Common.{ap, arith}
use Rattle.refusals.specs.Refusals.{no_room, wrong_length, refusal_number}
use Rattle.wire.specs.Frame as wire
use Rattle.module_model.specs.Answers.{Answer, numbered, number_in}
use Rattle.module_model.specs.Phases.{alive, openable}
use Rattle.module.specs.Session.{session, stepped, opening_of, takes}
use Rattle.module.specs.Step.{left, smallest_reply, step_of}
use Rattle.module_promises.specs.Runs.{Step, Given, after_by, run_by, heard_in}
use Rattle.module_promises.proofs.RunsLaws.{heard_nothing}
use Rattle.module_promises.proofs.Tiny.{zeros64}
use Rattle.module_promises.specs.Promises.{online, IdleCountsOf, RefusedExactlyOf, Moves, stays, begins, goes_on, closes, OnlyMovesOf}
use Rattle.kinds.specs.declared.Kind.TheVariants.{Upgrade}
use Rattle.module_model.specs.declared.phases.Phase.{Phase}
use Rattle.module_model.specs.declared.phases.Phase.TheVariants.{Closed, Ready, Begun, Loading, Done}
use Rattle.module_model.specs.declared.events.Event.TheVariants.{Frame, Elapsed}
use Rattle.module_model.specs.declared.events.Answer.TheVariants.{Nothing, Refused}
use Rattle.module.specs.declared.session.Session.{Session}

-- ---- time that is refused is counted

abbrev pub counts_refused_time : Step
counts_refused_time s (Frame command count) payload flash reply = step_of s (Frame command count) payload flash reply
counts_refused_time s (Elapsed ms) payload flash reply =
    cond (ltb (length reply) smallest_reply) (left (stepped (session s.flash (s.idle + ms) s.phase) (Refused no_room)) flash reply)
    (step_of s (Elapsed ms) payload flash reply)

-- Five milliseconds, over a flash of one byte, without room for a reply.
abbrev unheard : Given
unheard = record { event = Elapsed 5; payload = []; flash = 0 ∷ []; reply = [] }

pub counts_refused_time_refuted : IdleCountsOf counts_refused_time → ⊥
unfolding after_by run_by opening_of openable takes alive
counts_refused_time_refuted promise =
    let same : ◌≡◌ {A = ℕ} 5 0 = promise (online (0 ∷ [])) (unheard ∷ []) refl in
    omega (arith, same)

-- ---- 3 before 2, and a flash of any length

abbrev pub tests_length_first : Step
tests_length_first s e payload flash reply =
    cond (eqb (length flash) s.flash) (step_of s e payload flash reply) (left (stepped s (Refused wrong_length)) flash reply)

abbrev ready : Session
ready = session 1 0 Ready

abbrev flashless : List ℕ → Given
flashless reply = record { event = Elapsed 5; payload = []; flash = []; reply = reply }

pub tests_length_first_refuted : RefusedExactlyOf tests_length_first → ⊥
tests_length_first_refuted promise =
    let same : refusal_number wrong_length ≡ refusal_number no_room = ap (λ (a : Answer). number_in (numbered a)) ((promise ready (flashless [])).two_when (omega arith)) in
    omega (arith, same)

abbrev pub takes_any_flash : Step
takes_any_flash s e payload flash reply = step_of (session (length flash) s.idle s.phase) e payload flash reply

pub takes_any_flash_refuted : RefusedExactlyOf takes_any_flash → ⊥
unfolding step_of takes alive openable
takes_any_flash_refuted promise =
    let same : ◌≡◌ {A = ℕ} 0 (refusal_number wrong_length) =
    ap (λ (a : Answer). number_in (numbered a)) ((promise ready (flashless zeros64)).three_when (omega arith) (λ e. omega (arith, e))) in
    omega (arith, same)

-- ---- a transfer forgotten in a pause

abbrev pub forgets_in_pause : Step
forgets_in_pause s (Frame command count) payload flash reply = step_of s (Frame command count) payload flash reply
forgets_in_pause s (Elapsed ms) payload flash reply = left (stepped (session s.flash (s.idle + ms) Ready) Nothing) flash reply

abbrev begun : Session
begun = session 4 0 (Begun (record { kind = Upgrade; extent = 4 }))

abbrev pausing : Given
pausing = record { event = Elapsed 5; payload = []; flash = 0 ∷ 0 ∷ 0 ∷ 0 ∷ []; reply = zeros64 }

-- Whether a transfer has begun.
abbrev has_begun : Phase → ℕ
has_begun Closed = 0
has_begun Ready = 0
has_begun (Begun t) = 1
has_begun (Loading p number written) = 0
has_begun (Done p written) = 0

pub forgets_in_pause_refuted : OnlyMovesOf forgets_in_pause → ⊥
forgets_in_pause_refuted promise = go (promise begun pausing tt)
  where
    unsaid : (f : wire.Frame) → Memᴰ f (heard_in []) → ⊥
    unsaid f m = Memᴰ.not-nil (rw heard_nothing at m)

    go : Moves forgets_in_pause begun pausing → ⊥
    go (stays e) = let same : ◌≡◌ {A = ℕ} 0 1 = ap has_begun e in omega (arith, same)
    go (begins m) = unsaid _ m
    go (goes_on k one m) = unsaid _ m
    go (closes e) = false≢true e
