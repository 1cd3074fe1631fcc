-- Where a decision leads: an accepted packet to a phase that could arise and has accepted it; only an accepted 0x06 closes.
use Rattle.std.specs.Prelude.{ℕ, ◌+◌, ◌*◌, ◌≤◌, ◌<◌, true, false, ◌≡◌, refl, eqb, length}
use Rattle.std.proofs.lemmas.Bool.{false≢true, eqb-false}
use mathlib.Core.List.{List, Memᴰ}
use Rattle.std.proofs.Common.{ap, ◌∙◌, sym, arith, eqb-true}
use Rattle.std.proofs.Math.Decide.{ℕ_discrete}
use Rattle.octets.proofs.Choice.{either_way}
use Rattle.pieces.specs.Pieces.{offset_of, size_at}
use Rattle.pieces.specs.PiecesLaws.{ends_with, size_before, product_step}
use Rattle.commands.specs.Commands.{accepted, restart_command, restart_reply}
use Rattle.module_model.specs.Phases.{total_of, held, is_closed, written_in}
use Rattle.module_model.proofs.PhasesLaws.{Cut, cut_length, loading_facts, facts_loading, facts_done}
use Rattle.module_model.specs.Rules.{data_in, phase_at, frames_of}
use Rattle.module_model.proofs.Outcomes.{Belongs, Outcome, stays, restarts, begins, advances, repeats, Accepted, loading, done}
use Rattle.module_model.proofs.RulesLaws.{phase_last, phase_before}
use Rattle.module_model.specs.declared.phases.Pieces.{Pieces}
use Rattle.module_model.specs.declared.phases.Phase.{Phase}
use Rattle.module_model.specs.declared.phases.Phase.TheVariants.{Closed, Ready, Begun, Loading, Done}
use Rattle.module_model.specs.declared.rules.Decision.{Decision}

-- All packets together are as long as the image.
pub all_written : (p : Pieces) (number : ℕ) (payload : List ℕ) (flash : ℕ) → Belongs p number payload flash → number ≡ total_of p
    → offset_of p.size number + length (data_in payload) ≡ p.transfer.extent
all_written p number payload flash k last =
    let n = p.transfer.extent in
    let data_size : length (data_in payload) ≡ size_at n p.size (total_of p) = k.size_is ∙ ap (size_at n p.size) last in
    ap (λ (i : ℕ). offset_of p.size i + length (data_in payload)) last
    ∙ ap (λ (i : ℕ). offset_of p.size (total_of p) + i) data_size
    ∙ ends_with n p.size (cut_length p k.cut) k.cut.some

-- An accepted packet leads to a phase that could arise.
pub advance_held : (p : Pieces) (number : ℕ) (payload : List ℕ) (flash : ℕ) → Belongs p number payload flash
    → held (phase_at p number (offset_of p.size number + length (data_in payload))) flash ≡ true
unfolding phase_at
advance_held p number payload flash k =
    let n = p.transfer.extent in
    either_way (λ (phase : Phase). held phase flash ≡ true) (eqb number (total_of p))
    (λ e. facts_done p flash _ (record {
      fitting = k.fitting;
      cut = k.cut;
      all = all_written p number payload flash k (eqb-true number (total_of p) e);
    }))
    (λ e.
    let before : number < total_of p =
    let other : number ≡ total_of p → ⊥ = eqb-false number (total_of p) e in omega (arith, k.most, other) in
    facts_loading p flash number _ (record {
      fitting = k.fitting;
      cut = k.cut;
      one = k.one;
      before = before;
      all = omega (arith, k.size_is, size_before n p.size number before, product_step number p.size k.one);
    }))

-- An expected packet leads to a phase that has accepted it.
pub advance_accepted : (p : Pieces) (number : ℕ) (payload : List ℕ) (flash : ℕ) → Belongs p number payload flash
    → Accepted (phase_at p number (offset_of p.size number + length (data_in payload))) p number
advance_accepted p number payload flash k = go (ℕ_discrete number (total_of p))
  where
    written : ℕ
    written = offset_of p.size number + length (data_in payload)

    go : Dec (number ≡ total_of p) → Accepted (phase_at p number written) p number
    go (yes last) = done (phase_last p number written last ∙ ap (Done p) (all_written p number payload flash k last)) last
    go (no more) = loading written (phase_before p number written more) (omega (arith, k.most, more))

-- A phase that has accepted packets 1 to number has written as far as the last of them ends,
pub accepted_written : (phase : Phase) (p : Pieces) (number flash : ℕ) → Accepted phase p number → held phase flash ≡ true → Cut p → 1 ≤ number
    → written_in phase ≡ offset_of p.size number + size_at p.transfer.extent p.size number
accepted_written phase p number flash (loading written e before) h cut one =
    let n = p.transfer.extent in
    let l = loading_facts p flash number written (rw e at h) in
    let ends : number * p.size ≡ offset_of p.size number + size_at n p.size number =
    omega (arith, size_before n p.size number before, product_step number p.size one) in
    ap written_in e ∙ l.all ∙ ends
accepted_written phase p number flash (done e last) h cut one =
    let n = p.transfer.extent in
    ap written_in e
    ∙ sym (ends_with n p.size (cut_length p cut) cut.some)
    ∙ ap (λ (i : ℕ). offset_of p.size i + size_at n p.size i) (sym last)

-- and is not closed.
pub accepted_open : (phase : Phase) (p : Pieces) (number : ℕ) → Accepted phase p number → is_closed phase ≡ false
accepted_open phase p number (loading written e before) = rw e
accepted_open phase p number (done e last) = rw e

-- A phase that could arise is not closed.
pub held_open : (phase : Phase) (flash : ℕ) → held phase flash ≡ true → is_closed phase ≡ false
held_open Closed flash h = absurd (false≢true h)
held_open Ready flash h = refl
held_open (Begun t) flash h = refl
held_open (Loading p number written) flash h = refl
held_open (Done p written) flash h = refl

-- An accepted packet closes nothing.
pub phase_at_open : (p : Pieces) (number written : ℕ) → is_closed (phase_at p number written) ≡ false
unfolding phase_at
phase_at_open p number written = either_way (λ (phase : Phase). is_closed phase ≡ false) (eqb number (total_of p)) (λ e. refl) (λ e. refl)

-- Of the frames only an accepted 0x06 closes.
pub frame_only : (phase : Phase) (command : ℕ) (payload flash : List ℕ) (d : Decision) → is_closed phase ≡ false
    → Outcome phase command payload flash d → is_closed d.phase ≡ true
    → (command ≡ restart_command) × Memᴰ (restart_reply accepted) (frames_of d.say)
frame_only phase command payload flash d o (stays say h e) c = absurd (false≢true (sym o ∙ (rw e at c)))
frame_only phase command payload flash d o (restarts is e) c = (is, rw e (Memᴰ.head refl))
frame_only phase command payload flash d o (begins t is k n f e) c = absurd (false≢true (rw e at c))
frame_only phase command payload flash d o (advances p number is x k e) c = absurd (false≢true (sym (phase_at_open p number _) ∙ (rw e at c)))
frame_only phase command payload flash d o (repeats p number is x k same e) c = absurd (false≢true (sym o ∙ (rw e at c)))
