-- A module's session kept as bytes: its record, how it is read again, and the step over it.
use Rattle.std.specs.Prelude.{ℕ, Bool, cond, List, [], ◌∷◌, eqb, ltb, length, None, Option, Some}
use Rattle.octets.specs.Octets.{number_at}
use Rattle.refusals.specs.Refusals.{no_room, refusal_number}
use Rattle.kinds.specs.Kinds.{kind_of, number_of}
use Rattle.kinds.specs.declared.Kind.{Kind}
use Rattle.kinds.specs.declared.Kind.TheVariants.{Navigation}
use Rattle.module.specs.Session.{session, opening_of}
use Rattle.module.specs.Step.{Left, step_of}
use Rattle.module_model.specs.Answers.{numbered, number_in, count_in}
use Rattle.module_model.specs.declared.phases.Transfer.{Transfer}
use Rattle.module_model.specs.declared.phases.Pieces.{Pieces}
use Rattle.module_model.specs.declared.phases.Phase.{Phase}
use Rattle.module_model.specs.declared.phases.Phase.TheVariants.{Closed, Ready, Begun, Loading, Done}
use Rattle.module.specs.declared.session.Session.{Session}
use Rattle.module_model.specs.declared.events.Event.{Event}
use Rattle.flat.specs.Words.{recorded, stands_for, low_half, high_half}
use Rattle.kept_module.specs.Record.{flash_place, idle_place, phase_place, type_place, length_place, size_place, number_place, written_place, record_bytes}
use Rattle.kept_module.specs.Record.{closed_phase, ready_phase, begun_phase, loading_phase, done_phase}

-- ---- the record

-- The words of a record, by name.
abbrev pub row_of : ℕ → ℕ → ℕ → ℕ → ℕ → ℕ → ℕ → ℕ → List ℕ
row_of flash idle phase kind length size number written =
    low_half flash ∷ high_half flash ∷ idle ∷ phase ∷ kind ∷ low_half length ∷ low_half size ∷ low_half number ∷ low_half written ∷ []

-- Those of a session whose pieces are set.
abbrev pub pieces_row : ℕ → ℕ → ℕ → Pieces → ℕ → ℕ → List ℕ
pieces_row flash idle phase p number written =
    row_of flash idle phase (number_of p.transfer.kind) p.transfer.extent p.size number written

-- The words of a session by its phase; what a phase does not have is 0.
abbrev pub words_by : ℕ → ℕ → Phase → List ℕ
words_by flash idle Closed = row_of flash idle closed_phase 0 0 0 0 0
words_by flash idle Ready = row_of flash idle ready_phase 0 0 0 0 0
words_by flash idle (Begun t) = row_of flash idle begun_phase (number_of t.kind) t.extent 0 0 0
words_by flash idle (Loading p number written) = pieces_row flash idle loading_phase p number written
words_by flash idle (Done p written) = pieces_row flash idle done_phase p 0 written

unfoldable pub words_of : Session → List ℕ
words_of s = words_by s.flash s.idle s.phase

-- ---- reading it

-- The kind of a type number; one that is none reads as the first, and its record then is another.
abbrev pub kind_by : Option Kind → Kind
kind_by (Some k) = k
kind_by None = Navigation

abbrev pub kind_in : List ℕ → Kind
kind_in st = kind_by (kind_of (number_at 2 st type_place))

abbrev pub transfer_in : List ℕ → Transfer
transfer_in st = record { kind = kind_in st; extent = number_at 4 st length_place }

abbrev pub pieces_in : List ℕ → Pieces
pieces_in st = record { transfer = transfer_in st; size = number_at 4 st size_place }

-- The phase whose numbers stand in the bytes.
unfoldable pub phase_in : List ℕ → Phase
phase_in st =
    cond (eqb (number_at 4 st phase_place) ready_phase) Ready
    (cond (eqb (number_at 4 st phase_place) begun_phase) (Begun (transfer_in st))
    (cond (eqb (number_at 4 st phase_place) loading_phase) (Loading (pieces_in st) (number_at 4 st number_place) (number_at 4 st written_place))
    (cond (eqb (number_at 4 st phase_place) done_phase) (Done (pieces_in st) (number_at 4 st written_place)) Closed)))

-- The session whose numbers stand in the bytes.
abbrev pub fields_in : List ℕ → Session
fields_in st = session (number_at 8 st flash_place) (number_at 4 st idle_place) (phase_in st)

-- The bytes are the record of a session.
unfoldable pub stands : List ℕ → Bool
stands st = stands_for (words_of (fields_in st)) st

-- The session in some bytes; in the record of none a closed session over the flash length that stands there.
abbrev pub session_by : Bool → Session → Session
session_by genuine s = cond genuine s (session s.flash 0 Closed)

unfoldable pub session_in : List ℕ → Session
session_in st = session_by (stands st) (fields_in st)

-- ---- the calls

-- Some bytes once their session has become another: those that are the record of none are left as they are.
unfoldable pub kept_of : List ℕ → Session → List ℕ
kept_of st s = cond (stands st) (recorded (words_of s) st) st

-- All that a call leaves.
pub record Kept : Type 0 where
  pub answer : ℕ
  pub count : ℕ
  pub state : List ℕ
  pub flash : List ℕ
  pub reply : List ℕ

abbrev pub kept : ℕ → ℕ → List ℕ → List ℕ → List ℕ → Kept
kept answer count state flash reply = record { answer = answer; count = count; state = state; flash = flash; reply = reply }

-- What a step leaves, with the session in these bytes.
abbrev pub kept_as : List ℕ → Left → Kept
kept_as st l = kept (number_in (numbered l.answer)) (count_in l.answer) st l.flash l.reply

-- One event given to the session in some bytes.
unfoldable pub kept_step : List ℕ → Event → List ℕ → List ℕ → List ℕ → Kept
kept_step st event payload flash reply =
    let l = step_of (session_in st) event payload flash reply in kept_as (kept_of st l.session) l

-- What an opening leaves.
pub record Opened : Type 0 where
  pub answer : ℕ
  pub state : List ℕ

abbrev pub opened : ℕ → List ℕ → Opened
opened answer state = record { answer = answer; state = state }

-- An opening: 2, and nothing is written, where the record has no room.
unfoldable pub kept_opening : List ℕ → List ℕ → Opened
kept_opening st flash =
    cond (ltb (length st) record_bytes) (opened (refusal_number no_room) st)
    (opened (number_in (numbered (opening_of flash).answer)) (recorded (words_of (opening_of flash).session) st))
