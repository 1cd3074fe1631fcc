-- The laws of Phases: each test and the facts that it stands for.
use Rattle.std.specs.Prelude.{ℕ, ◌*◌, ◌-◌, ◌≤◌, ◌<◌, true, false, ◌≡◌, refl, ltb, leb}
use Rattle.std.proofs.Common.{mul-le-mul_right, arith, leb-true, le-leb, ltb-true, lt-ltb, eqb-true, eq-eqb}
use Rattle.octets.proofs.Choice.{both}
use Rattle.kinds.specs.KindsLaws.{FitsFlash, fits_flash_law, flash_fits}
use Rattle.pieces.specs.PiecesLaws.{counted, count_some}
use Rattle.commands.specs.Commands.{largest_packet, largest_total}
use Rattle.module_model.specs.Phases.{largest_flash, longest_idle, total_of, openable, alive, fits, cuts, loading_arises}
use Rattle.module_model.specs.Phases.{done_arises, held, closed_arises}
use Rattle.module_model.specs.declared.phases.Pieces.{Pieces}
use Rattle.module_model.specs.declared.phases.Phase.{Phase}
use Rattle.module_model.specs.declared.phases.Phase.TheVariants.{Closed, Ready, Begun, Loading, Done}
use Rattle.module_model.specs.Bounds.{BoundedPhase}

-- ---- the flash and the idle sum

-- A flash that can be opened has 1 to 262,144 bytes.
pub openable_sizes : (n : ℕ) → openable n ≡ true → (1 ≤ n) × (n ≤ largest_flash)
unfolding openable
openable_sizes n h = let each = both (leb 1 n) _ h in (leb-true 1 n each.0, leb-true n largest_flash each.1)

pub sizes_openable : (n : ℕ) → 1 ≤ n → n ≤ largest_flash → openable n ≡ true
unfolding openable
sizes_openable n some most = rw (le-leb 1 n some, le-leb n largest_flash most)

-- The flash of an open session could be opened, and its idle sum is not over 7,000.
pub record Alive (flash idle : ℕ) : Type 0 where
  pub some : 1 ≤ flash
  pub most : flash ≤ largest_flash
  pub waited : idle ≤ longest_idle

pub alive_facts : (flash idle : ℕ) → alive flash idle ≡ true → Alive flash idle
unfolding alive
alive_facts flash idle h =
    let each = both (openable flash) _ h in
    let sizes = openable_sizes flash each.0 in
    record { some = sizes.0; most = sizes.1; waited = leb-true idle longest_idle each.1 }

pub facts_alive : (flash idle : ℕ) → Alive flash idle → alive flash idle ≡ true
unfolding alive
facts_alive flash idle a = rw (sizes_openable flash a.some a.most, le-leb idle longest_idle a.waited)

-- The limits are document 01's: 1 and 262,144 bytes open, 0 and 262,145 do not; a sum of 7,000 is alive, 7,001 is not.
pub flash_limits : (openable 0 ≡ false) × (openable 1 ≡ true) × (openable 262144 ≡ true) × (openable 262145 ≡ false)
unfolding openable
flash_limits = (refl, refl, refl, refl)

pub idle_limits : (alive 1 7000 ≡ true) × (alive 1 7001 ≡ false)
unfolding alive openable
idle_limits = (refl, refl)

-- The sum 0 closes, over any flash; 7,001 does over one that could be opened, and no other sum.
pub closed_at_0 : (flash : ℕ) → closed_arises flash 0 ≡ true
unfolding closed_arises
closed_at_0 flash = refl

pub closed_at_limit : (flash : ℕ) → openable flash ≡ true → closed_arises flash 7001 ≡ true
unfolding closed_arises
closed_at_limit flash h = h

pub closed_not_before : (flash : ℕ) → closed_arises flash 7000 ≡ false
unfolding closed_arises
closed_not_before flash = refl

-- ---- the packet size

-- The packet size is 1 to 1,024 and not over the length, and two bytes carry Total.
pub record Cut (p : Pieces) : Type 0 where
  pub some : 1 ≤ p.size
  pub small : p.size ≤ largest_packet
  pub within : p.size ≤ p.transfer.extent
  pub total_most : total_of p ≤ largest_total

pub cuts_facts : (p : Pieces) → cuts p ≡ true → Cut p
unfolding cuts
cuts_facts p h =
    let first = both (leb 1 p.size) _ h in
    let second = both (leb p.size largest_packet) _ first.1 in
    let third = both (leb p.size p.transfer.extent) _ second.1 in
    record {
      some = leb-true 1 p.size first.0;
      small = leb-true p.size largest_packet second.0;
      within = leb-true p.size p.transfer.extent third.0;
      total_most = leb-true (total_of p) largest_total third.1;
    }

pub facts_cuts : (p : Pieces) → Cut p → cuts p ≡ true
unfolding cuts
facts_cuts p c =
    rw (
      le-leb 1 p.size c.some,
      le-leb p.size largest_packet c.small,
      le-leb p.size p.transfer.extent c.within,
      le-leb (total_of p) largest_total c.total_most,
    )

-- The length is then not 0, and there is a packet.
pub cut_length : (p : Pieces) → Cut p → 1 ≤ p.transfer.extent
cut_length p c = omega (arith, c.some, c.within)

pub cut_total : (p : Pieces) → Cut p → 1 ≤ total_of p
cut_total p c = count_some p.transfer.extent p.size (cut_length p c) c.some

-- ---- loading and done

-- While loading, the transfer fits, its size cuts it, and packets 1 to number, fewer than Total, have been written whole.
pub record LoadingOf (p : Pieces) (flash number written : ℕ) : Type 0 where
  pub fitting : FitsFlash p.transfer.kind p.transfer.extent flash
  pub cut : Cut p
  pub one : 1 ≤ number
  pub before : number < total_of p
  pub all : written ≡ number * p.size

pub loading_facts : (p : Pieces) (flash number written : ℕ) → loading_arises p flash number written ≡ true
    → LoadingOf p flash number written
unfolding loading_arises
loading_facts p flash number written h =
    let first = both (fits p.transfer flash) _ h in
    let second = both (cuts p) _ first.1 in
    let third = both (leb 1 number) _ second.1 in
    let fourth = both (ltb number (total_of p)) _ third.1 in
    record {
      fitting = fits_flash_law p.transfer.kind p.transfer.extent flash first.0;
      cut = cuts_facts p second.0;
      one = leb-true 1 number third.0;
      before = ltb-true number (total_of p) fourth.0;
      all = eqb-true written (number * p.size) fourth.1;
    }

pub facts_loading : (p : Pieces) (flash number written : ℕ) → LoadingOf p flash number written
    → loading_arises p flash number written ≡ true
unfolding loading_arises
facts_loading p flash number written l =
    rw (
      flash_fits p.transfer.kind p.transfer.extent flash l.fitting,
      facts_cuts p l.cut,
      le-leb 1 number l.one,
      lt-ltb number (total_of p) l.before,
      eq-eqb written (number * p.size) l.all,
    )

-- What has been written while loading is less than the length.
pub loading_short : (p : Pieces) (flash number written : ℕ) → LoadingOf p flash number written → written < p.transfer.extent
loading_short p flash number written l =
    let total = total_of p in
    let held : number * p.size ≤ (total - 1) * p.size = mul-le-mul_right p.size (omega (arith, l.before)) in
    omega (arith, l.all, held, (counted p.transfer.extent p.size (cut_length p l.cut) l.cut.some).under)

-- When done, the transfer fits, its size cuts it, and all of its length has been written.
pub record DoneOf (p : Pieces) (flash written : ℕ) : Type 0 where
  pub fitting : FitsFlash p.transfer.kind p.transfer.extent flash
  pub cut : Cut p
  pub all : written ≡ p.transfer.extent

pub done_facts : (p : Pieces) (flash written : ℕ) → done_arises p flash written ≡ true → DoneOf p flash written
unfolding done_arises
done_facts p flash written h =
    let first = both (fits p.transfer flash) _ h in
    let second = both (cuts p) _ first.1 in
    record {
      fitting = fits_flash_law p.transfer.kind p.transfer.extent flash first.0;
      cut = cuts_facts p second.0;
      all = eqb-true written p.transfer.extent second.1;
    }

pub facts_done : (p : Pieces) (flash written : ℕ) → DoneOf p flash written → done_arises p flash written ≡ true
unfolding done_arises
facts_done p flash written d =
    rw (
      flash_fits p.transfer.kind p.transfer.extent flash d.fitting,
      facts_cuts p d.cut,
      eq-eqb written p.transfer.extent d.all,
    )

-- ---- the numbers are small

-- The numbers of a phase that holds are small enough for the rules.
pub held_bounded : (phase : Phase) (flash : ℕ) → held phase flash ≡ true → BoundedPhase phase
held_bounded Closed flash h = tt
held_bounded Ready flash h = tt
held_bounded (Begun t) flash h = tt
held_bounded (Loading p number written) flash h =
    let l = loading_facts p flash number written h in
    record {
      one = l.one;
      most = omega (arith, l.before, l.cut.total_most);
      small = l.cut.small;
      short = omega (arith, loading_short p flash number written l, l.fitting.short);
    }
held_bounded (Done p written) flash h =
    let d = done_facts p flash written h in
    record {
      one = cut_total p d.cut;
      most = d.cut.total_most;
      small = d.cut.small;
      short = omega (arith, d.all, d.fitting.short);
    }
