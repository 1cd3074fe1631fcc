-- M3 among refused events: what is taken of a run is a run of its own, in which nobody else writes.
use Rattle.std.specs.Prelude.{Bool, true, false, List, [], ◌∷◌, ◌≡◌, refl, ℕ}
use Rattle.std.proofs.lemmas.Bool.{false≢true}
use Rattle.std.proofs.Common.{ap, ◌∙◌}
use Rattle.refusals.specs.declared.Refusal.{Refusal}
use Rattle.module_model.specs.Answers.{Answer, is_refused}
use Rattle.module_promises.specs.Runs.{Given, Exchange, exchange, next_of, run_of, run_by, carried, carried_by}
use Rattle.module_promises.specs.Promises.{NobodyElse, taken, offered, CleanAmongRefused}
use Rattle.module_promises.proofs.Idle.{refused_leaves}
use Rattle.module_promises.proofs.Clean.{clean_succeeds}
use Rattle.module.specs.Step.{Left}
use Rattle.module_model.specs.declared.events.Answer.TheVariants.{Nothing, Sent, Refused}
use Rattle.module.specs.declared.session.Session.{Session}

-- A refused answer has a refusal.
refused_number : (a : Answer) → is_refused a ≡ true → (n : Refusal) × (a ≡ Refused n)
refused_number Nothing h = absurd (false≢true h)
refused_number (Sent n) h = absurd (false≢true h)
refused_number (Refused n) h = (n, refl)

-- A refused step leaves the session.
refused_stays : (s : Session) (g : Given) → is_refused (exchange s g).left.answer ≡ true → next_of s g ≡ s
refused_stays s g h =
    let why = refused_number (exchange s g).left.answer h in
    ap (λ (l : Left). l.session) (refused_leaves s g why.0 why.1)

-- What is taken of a run is carried from one step that is taken to the next.
taken_carried : (s : Session) (flash : List ℕ) (gs : List Given) → NobodyElse flash (run_of s gs)
    → taken (run_of s gs) ≡ carried s flash (offered (taken (run_of s gs)))
unfolding run_by carried_by
taken_carried s flash [] h = refl
taken_carried s flash (g ∷ gs) h = go (is_refused (exchange s g).left.answer) refl (λ kept. taken_carried (next_of s g) kept gs)
  where
    x : Exchange
    x = exchange s g

    rest : List Exchange
    rest = run_of (next_of s g) gs

    go : (t : Bool) → is_refused x.left.answer ≡ t
        → ((kept : List ℕ) → NobodyElse kept rest → taken rest ≡ carried (next_of s g) kept (offered (taken rest)))
        → taken (x ∷ rest) ≡ carried s flash (offered (taken (x ∷ rest)))
    go true e next =
        rw e (next flash (rw e at h.1) ∙ ap (λ (t : Session). carried t flash (offered (taken rest))) (refused_stays s g e))
    go false e next =
        let lent : g.flash ≡ flash = h.0 e in
        rw (e, ← lent) (ap (λ (l : List Exchange). x ∷ l) (next x.left.flash (rw e at h.1)))

pub clean_among_refused : CleanAmongRefused
clean_among_refused s flash kind image size gs t long fits nobody clean =
    let same = taken_carried s flash gs nobody in
    rw same (clean_succeeds s flash kind image size (offered (taken (run_of s gs))) t long fits clean)
