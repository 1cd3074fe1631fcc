-- The laws of callers as bytes.
use Rattle.kept_host.specs.declared.opening.Begun.{Begun}
use Rattle.std.specs.Prelude.{ℕ, ◌≤◌, cond, ltb, List, [], ◌≡◌, length}
use Rattle.std.proofs.Common.{ap, ◌∙◌}
use Rattle.flat.proofs.Room.{with_room}
use Rattle.host_model.specs.Events.{number_in, count_in}
use Rattle.host.specs.Step.{Left, left}
use Rattle.posts.specs.Caller.{CallerLeft, caller_left, caller_of}
use Rattle.posts.specs.declared.caller.Caller.{Caller}
use Rattle.posts.specs.declared.caller.CallerStep.{CallerStep}
use Rattle.kept_host.specs.Kept.{Kept, kept, opened, opening_by, BegunLeft, begun_as}
use Rattle.kept_host.proofs.KeptLaws.{told_numbered}
use Rattle.kept_host.specs.declared.answers.Told.{Told}
use Rattle.kept_caller.specs.Kept.{caller_bytes, caller_kept, caller_in, kept_as, kept_opening, opened_with, opened_as}

-- A call over bytes with room: the caller read, its step, and what it leaves, put together.
pub call_by : (st output : List ℕ) (short : Kept) (move : Caller → CallerLeft) {after : List ℕ} {answer count passed : ℕ} {c : Caller} {step : CallerStep}
    → caller_bytes ≤ length st → c ≡ caller_in st → caller_left step output ≡ move c
    → kept answer count passed after [] ≡ kept_as (caller_left step []) st
    → kept answer count passed after output ≡ cond (ltb (length st) caller_bytes) short (kept_as (move (caller_in st)) st)
call_by st output short move room read left e =
    ap (λ (k : Kept). kept k.answer k.count k.passed k.state output) e
    ∙ ap (λ (x : CallerLeft). kept_as x st) (left ∙ ap move read)
    ∙ with_room short room

-- An opening.
pub opening_by_law : (st image output out after : List ℕ) (number first wish start same : ℕ) (begun : Begun) (caller : Caller)
    → caller_bytes ≤ length st → record { begun = begun; output = out } ≡ opening_by number first wish start same image output
    → caller ≡ caller_of begun.session → after ≡ caller_kept caller st
    → opened (number_in begun.answer) (count_in begun.answer) after out ≡ kept_opening st number first wish start same image output
unfolding kept_opening
opening_by_law st image output out after number first wish start same begun caller room e c k =
    rw (k, c) (ap (λ (b : BegunLeft). opened_with b st) e ∙ with_room _ room)

pub opened_told : (l : Left) (st : List ℕ) → opened_with (begun_as l) st ≡ opened_as l st
opened_told l st = ap (λ (t : Told). opened t.number t.count (caller_kept (caller_of l.session) st) l.output) (told_numbered l.answer)
