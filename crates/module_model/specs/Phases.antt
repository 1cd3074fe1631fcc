-- The phases of a session: over which flash one can be opened, and which numbers of a phase can arise.
use Rattle.std.specs.Prelude.{ℕ, ◌*◌, Bool, true, false, ◌&&◌, ◌||◌, eqb, ltb, leb}
use Rattle.kinds.specs.Kinds.{fits_flash}
use Rattle.pieces.specs.Pieces.{count_of}
use Rattle.commands.specs.Commands.{largest_packet, largest_total}
use Rattle.module_model.specs.declared.phases.Transfer.{Transfer}
use Rattle.module_model.specs.declared.phases.Pieces.{Pieces}
use Rattle.module_model.specs.declared.phases.Phase.{Phase}
use Rattle.module_model.specs.declared.phases.Phase.TheVariants.{Closed, Ready, Begun, Loading, Done}

-- The largest flash; the longest idle sum of an open session, and the sum at which one closes and stops.
abbrev pub largest_flash : ℕ
largest_flash = 262144

abbrev pub longest_idle : ℕ
longest_idle = 7000

abbrev pub closing_idle : ℕ
closing_idle = 7001

-- A session can be opened over a flash of 1 to 262,144 bytes.
unfoldable pub openable : ℕ → Bool
openable n = leb 1 n && leb n largest_flash

-- The Total of a transfer whose packet size is set.
abbrev pub total_of : Pieces → ℕ
total_of p = count_of p.transfer.extent p.size

-- ---- which numbers can arise

-- An open session has a flash that could be opened and an idle sum of at most 7,000.
unfoldable pub alive : ℕ → ℕ → Bool
alive flash idle = openable flash && leb idle longest_idle

-- Its transfer passed the tests of its parameters.
abbrev pub fits : Transfer → ℕ → Bool
fits t flash = fits_flash t.kind t.extent flash

-- The packet size passed the tests of packet 1: 1 to 1,024, not over the length, and a Total that two bytes can carry.
unfoldable pub cuts : Pieces → Bool
cuts p = leb 1 p.size && (leb p.size largest_packet && (leb p.size p.transfer.extent && leb (total_of p) largest_total))

-- While loading, packets 1 to number have been written, number being less than Total.
unfoldable pub loading_arises : Pieces → ℕ → ℕ → ℕ → Bool
loading_arises p flash number written =
    fits p.transfer flash && (cuts p && (leb 1 number && (ltb number (total_of p) && eqb written (number * p.size))))

-- When done, all of the length has been written.
unfoldable pub done_arises : Pieces → ℕ → ℕ → Bool
done_arises p flash written = fits p.transfer flash && (cuts p && eqb written p.transfer.extent)

-- What an open phase has gone through could arise over a flash.
abbrev pub held : Phase → ℕ → Bool
held Closed flash = false
held Ready flash = true
held (Begun t) flash = fits t flash
held (Loading p number written) flash = loading_arises p flash number written
held (Done p written) flash = done_arises p flash written

-- How many bytes of the image have been written, as the session counts them.
abbrev pub written_in : Phase → ℕ
written_in Closed = 0
written_in Ready = 0
written_in (Begun t) = 0
written_in (Loading p number written) = written
written_in (Done p written) = written

abbrev pub is_closed : Phase → Bool
is_closed Closed = true
is_closed Ready = false
is_closed (Begun t) = false
is_closed (Loading p number written) = false
is_closed (Done p written) = false

-- A refused opening or an accepted 0x06 closes with the sum 0, over any flash; the sum closes at 7,001, where it stops.
unfoldable pub closed_arises : ℕ → ℕ → Bool
closed_arises flash idle = eqb idle 0 || (eqb idle closing_idle && openable flash)
