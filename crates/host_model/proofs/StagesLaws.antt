-- The laws of Stages: each test and the facts that it stands for.
use Rattle.std.specs.Prelude.{ℕ, ◌≤◌, true, false, ◌≡◌, leb}
use Rattle.std.proofs.Math.Bool.{not-eq-not}
use Rattle.std.proofs.Common.{sym, arith, leb-true, le-leb}
use Rattle.octets.proofs.Choice.{both}
use Rattle.pieces.specs.Pieces.{count_of}
use Rattle.commands.specs.Commands.{largest_packet, largest_total}
use Rattle.host_model.specs.Stages.{number_of_rate, rate_fits, size_fits, number_fits, stage_fits}
use Rattle.host_model.specs.declared.plan.Rate.{Rate}
use Rattle.host_model.specs.declared.plan.Plan.{Plan}
use Rattle.host_model.specs.declared.plan.Stage.{Stage}
use Rattle.host_model.specs.declared.plan.Stage.TheVariants.{Text, Asking, Declaring, Sending, Noticing, Restarting}
use Rattle.host_model.specs.Small.{Small}

-- A stage is small whatever name it has.
pub small_same : (stage told : Stage) → stage ≡ told → Small stage → Small told
small_same stage told e h = rw (sym e) h

-- ---- the rate

-- A rate fits just where it is not above the first.
pub rate_facts : (first rate : Rate) → rate_fits first rate ≡ true → number_of_rate rate ≤ number_of_rate first
unfolding rate_fits
rate_facts first rate h = leb-true (number_of_rate rate) (number_of_rate first) h

pub facts_rate : (first rate : Rate) → number_of_rate rate ≤ number_of_rate first → rate_fits first rate ≡ true
unfolding rate_fits
facts_rate first rate h = le-leb (number_of_rate rate) (number_of_rate first) h

-- ---- the piece size

-- A piece size is 1 to 1,024, not over the wish, and two bytes carry the number of pieces.
pub record SizeOf (image wish size : ℕ) : Type 0 where
  pub some : 1 ≤ size
  pub small : size ≤ largest_packet
  pub wished : size ≤ wish
  pub carried : count_of image size ≤ largest_total

-- The test says just these four facts.
pub size_facts : (image wish size : ℕ) → size_fits image wish size ≡ true → SizeOf image wish size
unfolding size_fits
size_facts image wish size h =
    let first = both (leb 1 size) _ h in
    let second = both (leb size largest_packet) _ first.1 in
    let third = both (leb size wish) _ second.1 in
    record {
      some = leb-true 1 size first.0;
      small = leb-true size largest_packet second.0;
      wished = leb-true size wish third.0;
      carried = leb-true (count_of image size) largest_total third.1;
    }

pub facts_size : (image wish size : ℕ) → SizeOf image wish size → size_fits image wish size ≡ true
unfolding size_fits
facts_size image wish size s =
    rw (
      le-leb 1 size s.some,
      le-leb size largest_packet s.small,
      le-leb size wish s.wished,
      le-leb (count_of image size) largest_total s.carried,
    )

pub size_no : (image wish size : ℕ) → (SizeOf image wish size → ⊥) → size_fits image wish size ≡ false
size_no image wish size h = not-eq-not.0 (λ e. h (size_facts image wish size e))

-- Of a size within its bounds the number of pieces decides.
pub size_count : (image wish size : ℕ) → 1 ≤ size → size ≤ largest_packet → size ≤ wish
    → size_fits image wish size ≡ leb (count_of image size) largest_total
unfolding size_fits
size_count image wish size some small wished = rw (le-leb 1 size some, le-leb size largest_packet small, le-leb size wish wished)

-- ---- the packet number

-- A packet number is 1 to the number of pieces.
pub record NumberOf (image size number : ℕ) : Type 0 where
  pub one : 1 ≤ number
  pub most : number ≤ count_of image size

-- The test says just these two facts.
pub number_facts : (image size number : ℕ) → number_fits image size number ≡ true → NumberOf image size number
unfolding number_fits
number_facts image size number h =
    let each = both (leb 1 number) _ h in
    record { one = leb-true 1 number each.0; most = leb-true number (count_of image size) each.1 }

pub facts_number : (image size number : ℕ) → NumberOf image size number → number_fits image size number ≡ true
unfolding number_fits
facts_number image size number n = rw (le-leb 1 number n.one, le-leb number (count_of image size) n.most)

pub number_no : (image size number : ℕ) → (NumberOf image size number → ⊥) → number_fits image size number ≡ false
number_no image size number h = not-eq-not.0 (λ e. h (number_facts image size number e))

-- Of a number that is not 0 the number of pieces decides.
pub number_most : (image size number : ℕ) → 1 ≤ number → number_fits image size number ≡ leb number (count_of image size)
unfolding number_fits
number_most image size number one = rw (le-leb 1 number one)

-- ---- the stages whose piece size is set

-- While packets are sent, the rate was asked for, the size cuts the image, and the number is that of a piece.
pub record SendingOf (plan : Plan) (image : ℕ) (rate : Rate) (size number : ℕ) : Type 0 where
  pub asked : number_of_rate rate ≤ number_of_rate plan.first
  pub cut : SizeOf image plan.wish size
  pub this : NumberOf image size number

pub sending_facts : (plan : Plan) (image : ℕ) (rate : Rate) (size number : ℕ)
    → stage_fits plan image (Sending rate size number) ≡ true → SendingOf plan image rate size number
sending_facts plan image rate size number h =
    let first = both (rate_fits plan.first rate) _ h in
    let rest = both (size_fits image plan.wish size) _ first.1 in
    record {
      asked = rate_facts plan.first rate first.0;
      cut = size_facts image plan.wish size rest.0;
      this = number_facts image size number rest.1;
    }

pub facts_sending : (plan : Plan) (image : ℕ) (rate : Rate) (size number : ℕ) → SendingOf plan image rate size number
    → stage_fits plan image (Sending rate size number) ≡ true
facts_sending plan image rate size number s =
    rw (
      facts_rate plan.first rate s.asked,
      facts_size image plan.wish size s.cut,
      facts_number image size number s.this,
    )

-- From the last packet on, the rate was asked for and the size cuts the image. Notice and restart are tested alike.
pub record SentOf (plan : Plan) (image : ℕ) (rate : Rate) (size : ℕ) : Type 0 where
  pub asked : number_of_rate rate ≤ number_of_rate plan.first
  pub cut : SizeOf image plan.wish size

pub sent_facts : (plan : Plan) (image : ℕ) (rate : Rate) (size : ℕ) → stage_fits plan image (Noticing rate size) ≡ true
    → SentOf plan image rate size
sent_facts plan image rate size h =
    let each = both (rate_fits plan.first rate) _ h in
    record { asked = rate_facts plan.first rate each.0; cut = size_facts image plan.wish size each.1 }

pub facts_sent : (plan : Plan) (image : ℕ) (rate : Rate) (size : ℕ) → SentOf plan image rate size
    → stage_fits plan image (Noticing rate size) ≡ true
facts_sent plan image rate size s = rw (facts_rate plan.first rate s.asked, facts_size image plan.wish size s.cut)

-- The packets of a stage that fits are small.
pub stage_small : (plan : Plan) (image : ℕ) (stage : Stage) → stage_fits plan image stage ≡ true → Small stage
stage_small plan image Text h = tt
stage_small plan image (Asking rate) h = tt
stage_small plan image (Declaring rate) h = tt
stage_small plan image (Sending rate size number) h =
    let s = sending_facts plan image rate size number h in
    (s.cut.small, omega (arith, s.this.most, s.cut.carried))
stage_small plan image (Noticing rate size) h = (sent_facts plan image rate size h).cut.small
stage_small plan image (Restarting rate size) h = tt
