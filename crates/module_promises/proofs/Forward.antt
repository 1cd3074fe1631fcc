-- What an opening, a frame and time do where the facts for them hold.
use Rattle.std.specs.Prelude.{ℕ, ◌+◌, ◌-◌, ◌≤◌, ◌<◌, true, false, List, ◌≡◌, length}
use Rattle.std.proofs.Common.{ap, ◌∙◌, arith, le-leb}
use Rattle.std.proofs.lemmas.Bool.{lt-leb}
use Rattle.octets.proofs.Choice.{cond_yes, cond_no}
use Rattle.module_model.specs.Phases.{closing_idle, largest_flash, longest_idle, openable, total_of}
use Rattle.module_model.specs.Rules.{decide_of}
use Rattle.module_model.proofs.Due.{Carries, waiting, waiting_held}
use Rattle.module.specs.Session.{session, stepped, opening_of, takes}
use Rattle.module.specs.SessionLaws.{facts_takes, takes_facts}
use Rattle.module.specs.Step.{left, smallest_reply, performed, frame_step, time_step, step_of}
use Rattle.module.specs.StepLaws.{step_open}
use Rattle.module_promises.specs.Runs.{Offer, given, exchange}
use Rattle.module_promises.specs.Promises.{opened, Frames}
use Rattle.module_model.specs.declared.phases.Pieces.{Pieces}
use Rattle.module_model.specs.declared.phases.Phase.TheVariants.{Closed, Ready}
use Rattle.module_model.specs.declared.events.Event.TheVariants.{Elapsed}
use Rattle.module_model.specs.declared.events.Answer.TheVariants.{Nothing}
use Rattle.module.specs.declared.session.Session.{Session}
use Rattle.module.specs.declared.session.Stepped.{Stepped}

-- ---- the opening

-- A flash that can be opened gives a ready session, any other a closed one.
pub opened_ready : (flash : List ℕ) (n : ℕ) → length flash ≡ n → openable n ≡ true → opened flash ≡ session n 0 Ready
unfolding opening_of
opened_ready flash n long can =
    ap (λ (r : Stepped). r.session) (cond_yes (openable (length flash)) _ _ (rw long can)) ∙ rw long

pub opened_closed : (flash : List ℕ) (n : ℕ) → length flash ≡ n → openable n ≡ false → opened flash ≡ session n 0 Closed
unfolding opening_of
opened_closed flash n long cannot =
    ap (λ (r : Stepped). r.session) (cond_no (openable (length flash)) _ _ (rw long cannot)) ∙ rw long

-- A session in such a phase takes events.
pub waiting_takes : (p : Pieces) (image : List ℕ) (flash n : ℕ) → Carries p image flash → n < total_of p → flash ≤ largest_flash
    → takes (session flash 0 (waiting p n)) ≡ true
waiting_takes p image flash n c less most =
    facts_takes (session flash 0 (waiting p n))
    (record { some = omega (arith, c.fitting.some, c.fitting.inside); most = most; waited = omega arith })
    (waiting_held p image flash n c less)

-- ---- steps

-- A frame given to an open session over the flash of the opening, with room for a reply, is decided and performed.
pub frame_taken : (s : Session) (command : ℕ) (payload flash : List ℕ) (o : Offer) → takes s ≡ true → length flash ≡ s.flash
    → Frames command payload o
    → (exchange s (given flash o)).left ≡ performed s (decide_of s.phase command payload flash) payload flash o.reply
unfolding frame_step
frame_taken s command payload flash o t size f =
    step_open s o.event o.payload flash o.reply f.room size t
    ∙ rw (f.event_is, f.payload_is)

-- A wait after which the sum is at most 7,000 is counted.
pub time_counted : (s : Session) (ms : ℕ) (payload flash reply : List ℕ) → takes s ≡ true → length flash ≡ s.flash
    → smallest_reply ≤ length reply → s.idle + ms ≤ longest_idle
    → step_of s (Elapsed ms) payload flash reply ≡ left (stepped (session s.flash (s.idle + ms) s.phase) Nothing) flash reply
unfolding time_step
time_counted s ms payload flash reply t size room short =
    step_open s (Elapsed ms) payload flash reply room size t
    ∙ rw (le-leb ms (longest_idle - s.idle) (omega (arith, short)))

-- A wait after which it is over 7,000 closes, and the sum stops at 7,001.
pub time_closed : (s : Session) (ms : ℕ) (payload flash reply : List ℕ) → takes s ≡ true → length flash ≡ s.flash
    → smallest_reply ≤ length reply → longest_idle < s.idle + ms
    → step_of s (Elapsed ms) payload flash reply ≡ left (stepped (session s.flash closing_idle Closed) Nothing) flash reply
unfolding time_step
time_closed s ms payload flash reply t size room long =
    step_open s (Elapsed ms) payload flash reply room size t
    ∙ rw (lt-leb ms (longest_idle - s.idle) (omega (arith, long, (takes_facts s t).0.waited)))

-- With the wait counted the session still takes events.
pub counted_takes : (s : Session) (idle : ℕ) → takes s ≡ true → idle ≤ longest_idle → takes (session s.flash idle s.phase) ≡ true
counted_takes s idle t short =
    let f = takes_facts s t in
    facts_takes (session s.flash idle s.phase) (record { some = f.0.some; most = f.0.most; waited = short }) f.1
