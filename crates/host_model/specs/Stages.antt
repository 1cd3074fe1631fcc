-- The stages of a load, and which numbers of a stage can arise.
use Rattle.std.specs.Prelude.{ℕ, Bool, true, false, ◌&&◌, leb}
use Rattle.pieces.specs.Pieces.{count_of}
use Rattle.commands.specs.Commands.{largest_packet, largest_total}
use Rattle.host_model.specs.declared.plan.Rate.{Rate}
use Rattle.host_model.specs.declared.plan.Rate.TheVariants.{R9600, R19200, R38400, R57600, R115200}
use Rattle.host_model.specs.declared.plan.Start.{Start}
use Rattle.host_model.specs.declared.plan.Start.TheVariants.{WithText, AtOnce}
use Rattle.host_model.specs.declared.plan.Plan.{Plan}
use Rattle.host_model.specs.declared.plan.Stage.{Stage}
use Rattle.host_model.specs.declared.plan.Stage.TheVariants.{Text, Asking, Declaring, Sending, Noticing, Restarting}

-- The numbers of the five rates, as 0x01 carries them.
abbrev pub number_of_rate : Rate → ℕ
number_of_rate R9600 = 1
number_of_rate R19200 = 2
number_of_rate R38400 = 3
number_of_rate R57600 = 4
number_of_rate R115200 = 5

-- A rate that was asked for is not above the first.
unfoldable pub rate_fits : Rate → Rate → Bool
rate_fits first rate = leb (number_of_rate rate) (number_of_rate first)

-- The start text is awaited only where it was sent.
abbrev pub text_fits : Start → Bool
text_fits WithText = true
text_fits AtOnce = false

-- A piece size is 1 to 1,024, not over the wish, and two bytes carry the number of pieces.
unfoldable pub size_fits : ℕ → ℕ → ℕ → Bool
size_fits image wish size =
    leb 1 size && (leb size largest_packet && (leb size wish && leb (count_of image size) largest_total))

-- A packet number is 1 to the number of pieces.
unfoldable pub number_fits : ℕ → ℕ → ℕ → Bool
number_fits image size number = leb 1 number && leb number (count_of image size)

abbrev pub stage_fits : Plan → ℕ → Stage → Bool
stage_fits plan image Text = text_fits plan.start
stage_fits plan image (Asking rate) = rate_fits plan.first rate
stage_fits plan image (Declaring rate) = rate_fits plan.first rate
stage_fits plan image (Sending rate size number) =
    rate_fits plan.first rate && (size_fits image plan.wish size && number_fits image size number)
stage_fits plan image (Noticing rate size) = rate_fits plan.first rate && size_fits image plan.wish size
stage_fits plan image (Restarting rate size) = rate_fits plan.first rate && size_fits image plan.wish size
