-- A session that can arise is read again from its record.
use Rattle.std.specs.Prelude.{ℕ, ◌+◌, ◌/◌, ◌≤◌, ◌<◌, Bool, true, false, cond, List, ◌≡◌, refl, eqb, length}
use Rattle.std.proofs.lemmas.Bool.{false≢true}
use Rattle.std.proofs.Common.{ap, ◌∙◌, arith, eqb-true}
use Rattle.octets.specs.Octets.{number_at}
use Rattle.octets.proofs.Choice.{both, one_holds}
use Rattle.kinds.specs.Kinds.{kind_of, number_of}
use Rattle.kinds.specs.KindsLaws.{kind_of_number, kind_spelled, fits_flash_law}
use Rattle.kinds.specs.declared.Kind.{Kind}
use Rattle.flat.specs.Words.{recorded, low_half, high_half}
use Rattle.module.specs.Session.{arises, takes}
use Rattle.module_model.specs.Phases.{held, is_closed, closed_arises}
use Rattle.module.specs.SessionLaws.{takes_facts}
use Rattle.module_model.proofs.PhasesLaws.{loading_facts, loading_short, done_facts}
use Rattle.module_model.specs.declared.phases.Transfer.{Transfer}
use Rattle.module_model.specs.declared.phases.Pieces.{Pieces}
use Rattle.module_model.specs.declared.phases.Phase.{Phase}
use Rattle.module_model.specs.declared.phases.Phase.TheVariants.{Closed, Ready, Begun, Loading, Done}
use Rattle.module.specs.declared.session.Session.{Session}
use Rattle.kept_module.specs.Record.{flash_place, idle_place, type_place, length_place, size_place, record_bytes}
use Rattle.kept_module.specs.Record.{closed_phase, ready_phase, begun_phase, loading_phase, done_phase}
use Rattle.kept_module.specs.Kept.{row_of, words_by, words_of, kind_by, kind_in, transfer_in, pieces_in, phase_in, fields_in, stands, session_by, session_in, kept_of}
use Rattle.kept_module.specs.Promises.{KeptBack}
use Rattle.kept_module.proofs.CallLaws.{words_count}
use Rattle.flat.specs.Found.{Words, ReadAt, recorded_read, recorded_stands, recorded_same, eight_back, two_back}

-- ---- sessions that a record has room for

-- The numbers of a phase fit words,
record SmallPieces (p : Pieces) (number written : ℕ) : Type 0 where
  length_small : p.transfer.extent < 4294967296
  size_small : p.size < 4294967296
  number_small : number < 4294967296
  written_small : written < 4294967296

abbrev SmallPhase : Phase → Type 0
SmallPhase Closed = Unit
SmallPhase Ready = Unit
SmallPhase (Begun t) = t.extent < 4294967296
SmallPhase (Loading p number written) = SmallPieces p number written
SmallPhase (Done p written) = SmallPieces p 0 written

-- those of a session one or two of them.
record Small (s : Session) : Type 0 where
  flash_small : s.flash < 18446744073709551616
  idle_small : s.idle < 4294967296
  phase_small : SmallPhase s.phase

-- A phase that holds is small,
held_small : (phase : Phase) (flash : ℕ) → held phase flash ≡ true → SmallPhase phase
held_small Closed flash h = tt
held_small Ready flash h = tt
held_small (Begun t) flash h = omega (arith, (fits_flash_law t.kind t.extent flash h).short)
held_small (Loading p number written) flash h =
    let l = loading_facts p flash number written h in
    record {
      length_small = omega (arith, l.fitting.short);
      size_small = omega (arith, l.cut.small);
      number_small = omega (arith, l.before, l.cut.total_most);
      written_small = omega (arith, loading_short p flash number written l, l.fitting.short);
    }
held_small (Done p written) flash h =
    let d = done_facts p flash written h in
    record {
      length_small = omega (arith, d.fitting.short);
      size_small = omega (arith, d.cut.small);
      number_small = omega arith;
      written_small = omega (arith, d.all, d.fitting.short);
    }

-- so is a closed one,
closed_small : (phase : Phase) → is_closed phase ≡ true → SmallPhase phase
closed_small Closed h = tt
closed_small Ready h = tt
closed_small (Begun t) h = absurd (false≢true h)
closed_small (Loading p number written) h = absurd (false≢true h)
closed_small (Done p written) h = absurd (false≢true h)

closed_idle : (flash idle : ℕ) → closed_arises flash idle ≡ true → idle < 4294967296
unfolding closed_arises
closed_idle flash idle h =
    one_holds (eqb idle 0) _ (λ e. omega (arith, eqb-true idle 0 e)) (λ e. omega (arith, eqb-true idle 7001 (both (eqb idle 7001) _ e).0)) h

-- and so is every session that arises.
arises_small : (s : Session) → arises s ≡ true → s.flash < 18446744073709551616 → Small s
unfolding arises
arises_small s h f =
    one_holds (takes s) _
    (λ t. let facts = takes_facts s t in
    record {
      flash_small = f;
      idle_small = omega (arith, facts.0.waited);
      phase_small = held_small s.phase s.flash facts.1;
    })
    (λ e. let each = both (is_closed s.phase) _ e in
    record {
      flash_small = f;
      idle_small = closed_idle s.flash s.idle each.1;
      phase_small = closed_small s.phase each.0;
    })
    h

-- ---- the words of a session

-- Each of them fits a word.
row_small : (flash idle phase kind length size number written : ℕ) → idle < 4294967296 → phase ≤ done_phase → kind < 65536
    → Words (row_of flash idle phase kind length size number written)
row_small flash idle phase kind length size number written i p k =
    (omega arith, (omega arith, (i, (omega arith, (omega arith, (omega arith, (omega arith, (omega arith, (omega arith, tt)))))))))

words_small : (flash idle : ℕ) (phase : Phase) → idle < 4294967296 → Words (words_by flash idle phase)
words_small flash idle Closed i = row_small flash idle closed_phase 0 0 0 0 0 i (omega arith) (omega arith)
words_small flash idle Ready i = row_small flash idle ready_phase 0 0 0 0 0 i (omega arith) (omega arith)
words_small flash idle (Begun t) i =
    row_small flash idle begun_phase (number_of t.kind) t.extent 0 0 0 i (omega arith) (kind_spelled t.kind).0
words_small flash idle (Loading p number written) i =
    row_small flash idle loading_phase (number_of p.transfer.kind) p.transfer.extent p.size number written i (omega arith)
    (kind_spelled p.transfer.kind).0
words_small flash idle (Done p written) i =
    row_small flash idle done_phase (number_of p.transfer.kind) p.transfer.extent p.size 0 written i (omega arith)
    (kind_spelled p.transfer.kind).0

-- ---- read again

-- A type and a small number.
kind_back : (s : List ℕ) (k : Kind) → number_at 4 s type_place ≡ number_of k → kind_in s ≡ k
kind_back s k e = ap kind_by (ap kind_of (two_back s type_place (number_of k) (kind_spelled k).0 e) ∙ kind_of_number k)

low_back : (w x : ℕ) → x < 4294967296 → w ≡ low_half x → w ≡ x
low_back w x small e = omega arith

transfer_back : (s : List ℕ) (t : Transfer) → t.extent < 4294967296 → number_at 4 s type_place ≡ number_of t.kind
    → number_at 4 s length_place ≡ low_half t.extent → transfer_in s ≡ t
transfer_back s t small k n = rw (kind_back s t.kind k, low_back _ t.extent small n)

pieces_back : (s : List ℕ) (p : Pieces) → p.transfer.extent < 4294967296 → p.size < 4294967296
    → number_at 4 s type_place ≡ number_of p.transfer.kind → number_at 4 s length_place ≡ low_half p.transfer.extent
    → number_at 4 s size_place ≡ low_half p.size → pieces_in s ≡ p
pieces_back s p small fits k n m = rw (transfer_back s p.transfer small k n, low_back _ p.size fits m)

-- The phase.
phase_back : (s : List ℕ) (flash idle : ℕ) (phase : Phase) → SmallPhase phase → ReadAt s 0 (words_by flash idle phase) → phase_in s ≡ phase
unfolding phase_in
phase_back s flash idle Closed small r = rw r.1.1.1.0
phase_back s flash idle Ready small r = rw r.1.1.1.0
phase_back s flash idle (Begun t) small r =
    let k = r.1.1.1.1 in rw (r.1.1.1.0, transfer_back s t small k.0 k.1.0)
phase_back s flash idle (Loading p number written) small r =
    let k = r.1.1.1.1 in
    rw (
      r.1.1.1.0,
      pieces_back s p small.length_small small.size_small k.0 k.1.0 k.1.1.0,
      low_back _ number small.number_small k.1.1.1.0,
      low_back _ written small.written_small k.1.1.1.1.0,
    )
phase_back s flash idle (Done p written) small r =
    let k = r.1.1.1.1 in
    rw (
      r.1.1.1.0,
      pieces_back s p small.length_small small.size_small k.0 k.1.0 k.1.1.0,
      low_back _ written small.written_small k.1.1.1.1.0,
    )

-- The words of any phase begin with the flash length and the idle sum.
abbrev Front : List ℕ → ℕ → ℕ → Type 0
Front s flash idle = (number_at 4 s flash_place ≡ low_half flash) × (number_at 4 s (flash_place + 4) ≡ high_half flash) × (number_at 4 s idle_place ≡ idle)

front_back : (s : List ℕ) (flash idle : ℕ) (phase : Phase) → ReadAt s 0 (words_by flash idle phase) → Front s flash idle
front_back s flash idle Closed r = (r.0, r.1.0, r.1.1.0)
front_back s flash idle Ready r = (r.0, r.1.0, r.1.1.0)
front_back s flash idle (Begun t) r = (r.0, r.1.0, r.1.1.0)
front_back s flash idle (Loading p number written) r = (r.0, r.1.0, r.1.1.0)
front_back s flash idle (Done p written) r = (r.0, r.1.0, r.1.1.0)

-- The session.
fields_back : (s : Session) (st : List ℕ) → Small s → ReadAt st 0 (words_of s) → fields_in st ≡ s
unfolding words_of
fields_back s st small r =
    let f = front_back st s.flash s.idle s.phase r in
    rw (
      eight_back st flash_place s.flash small.flash_small f.0 f.1,
      f.2,
      phase_back st s.flash s.idle s.phase small.phase_small r,
    )

-- ---- the promise

pub words_fit : (s : Session) (st : List ℕ) → record_bytes ≤ length st → length (words_of s) ≤ length st / 4
words_fit s st room = rw (words_count s) (omega arith)

back : (s : Session) (st : List ℕ) → Small s → record_bytes ≤ length st → fields_in (recorded (words_of s) st) ≡ s
unfolding words_of
back s st small room =
    fields_back s (recorded (words_of s) st) small
    (recorded_read (words_of s) st (words_fit s st room) (words_small s.flash s.idle s.phase small.idle_small))

pub kept_back : KeptBack
unfolding stands session_in
kept_back s st h f room =
    let b = back s st (arises_small s h f) room in
    let there : stands (recorded (words_of s) st) ≡ true = rw b (recorded_stands (words_of s) st (words_fit s st room)) in
    (there, rw there b)

-- Bytes whose session stays as it was stay as they are, whether they are its record or not.
pub kept_stays : (st : List ℕ) → kept_of st (session_in st) ≡ st
unfolding kept_of session_in stands
kept_stays st = go (stands st) refl
  where
    go : (b : Bool) → stands st ≡ b → cond b (recorded (words_of (session_by b (fields_in st))) st) st ≡ st
    go true e = recorded_same (words_of (fields_in st)) st e
    go false e = refl
