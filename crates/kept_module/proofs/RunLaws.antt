-- Runs over kept bytes are the session's own.
use Rattle.std.specs.Prelude.{ℕ, ◌-◌, ◌≤◌, ◌<◌, true, List, [], ◌∷◌, map, ◌≡◌, refl, leb, length}
use Rattle.std.proofs.Common.{sym, ap, ◌∙◌, le-ltb}
use Rattle.octets.proofs.Choice.{either_way}
use Rattle.flat.specs.Words.{recorded}
use Rattle.flat.specs.Calls.{calls_by, bytes_by}
use Rattle.module_model.specs.Phases.{longest_idle, openable}
use Rattle.module.specs.Session.{opening_of, arises}
use Rattle.module.specs.Step.{Left, time_step}
use Rattle.module_promises.specs.Runs.{Given, exchange, next_of, after_of, after_by, run_of, run_by, AllBytes}
use Rattle.module_promises.proofs.Steps.{Case, refuses, sleeps, waits, hears, step_of_law}
use Rattle.module_promises.specs.Promises.{opened, online}
use Rattle.module_promises.proofs.Arises.{reached_arises}
use Rattle.module.specs.declared.session.Session.{Session}
use Rattle.module.specs.declared.session.Stepped.{Stepped}
use Rattle.kept_module.specs.Record.{record_bytes}
use Rattle.kept_module.specs.Kept.{words_of, Kept, kept_as, kept_step, kept_of, kept_opening}
use Rattle.kept_module.specs.Promises.{called, calls_of, bytes_after, told, KeptRun}
use Rattle.kept_module.proofs.CallLaws.{words_count}
use Rattle.flat.specs.Found.{recorded_again}
use Rattle.kept_module.proofs.KeptLaws.{words_fit, kept_back}

-- ---- the flash length stays

time_flash : (s : Session) (ms : ℕ) → (time_step s ms).session.flash ≡ s.flash
unfolding time_step
time_flash s ms = either_way (λ (r : Stepped). r.session.flash ≡ s.flash) (leb ms (longest_idle - s.idle)) (λ e. refl) (λ e. refl)

pub step_flash : (s : Session) (g : Given) → (next_of s g).flash ≡ s.flash
step_flash s g = go (exchange s g).left (step_of_law s g)
  where
    go : (x : Left) → Case s g x → x.session.flash ≡ s.flash
    go x (refuses n e) = rw e
    go x (sleeps t e) = rw e
    go x (waits t size ms ev e) = rw e (time_flash s ms)
    go x (hears t size command count ev e) = rw e

pub opening_flash : (flash : List ℕ) → (opened flash).flash ≡ length flash
unfolding opening_of
opening_flash flash = either_way (λ (r : Stepped). r.session.flash ≡ length flash) (openable (length flash)) (λ e. refl) (λ e. refl)

-- ---- a step, a run

step_kept : (s : Session) (st : List ℕ) (g : Given) → arises s ≡ true → s.flash < 18446744073709551616 → record_bytes ≤ length st
    → called (recorded (words_of s) st) g ≡ told st (exchange s g)
unfolding kept_step kept_of
step_kept s st g h f room =
    let b = kept_back s st h f room in
    let l = (exchange s g).left in
    let same : length (words_of s) ≡ length (words_of l.session) = words_count s ∙ sym (words_count l.session) in
    rw (b.1, b.0)
    (ap (λ (r : List ℕ). kept_as r l) (recorded_again (words_of s) (words_of l.session) st same (words_fit s st room)))

-- From a session whose every run leads to one that arises.
runs_kept : (st : List ℕ) (s : Session) (gs : List Given) → ((hs : List Given) → AllBytes hs → arises (after_of s hs) ≡ true)
    → s.flash < 18446744073709551616 → AllBytes gs → record_bytes ≤ length st
    → (calls_of (recorded (words_of s) st) gs ≡ map (told st) (run_of s gs))
    × (bytes_after (recorded (words_of s) st) gs ≡ recorded (words_of (after_of s gs)) st)
unfolding calls_by bytes_by run_by after_by
runs_kept st s [] good f bytes room = (refl, refl)
runs_kept st s (g ∷ gs) good f bytes room =
    let x = exchange s g in
    let here : called (recorded (words_of s) st) g ≡ told st x = step_kept s st g (good [] tt) f room in
    let rest = runs_kept st (next_of s g) gs (λ hs b. good (g ∷ hs) (bytes.0, b)) (rw (step_flash s g) f) bytes.1 room in
    (rw here (ap (λ (l : List Kept). told st x ∷ l) rest.0), rw here rest.1)

pub kept_run : KeptRun
unfolding kept_opening
kept_run st flash gs bytes f room =
    let open_test = le-ltb (length st) record_bytes room in
    let runs = runs_kept st (opened flash) gs (reached_arises (online flash)) (rw (opening_flash flash) f) bytes room in
    record { opening_answer = rw open_test; each = rw open_test runs.0; bytes = rw open_test runs.1 }
