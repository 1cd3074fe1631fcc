-- A host on a line kept as bytes: a reader's record, the words that count, a session's record; how they are read again, and what a byte or a
-- time leaves.
use Rattle.std.specs.Prelude.{ℕ, ◌+◌, cond, List, [], ◌∷◌, ltb, length, drop}
use Rattle.octets.specs.Octets.{number_at, laid}
use Rattle.refusals.specs.Refusals.{no_room, refusal_number}
use Rattle.flat.specs.Words.{spelled_all, low_half, high_half}
use Rattle.host_model.specs.Events.{numbered, number_in, passed_in, count_in}
use Rattle.host_model.specs.Views.{line_number}
use Rattle.host.specs.Session.{session_progress, session_rate}
use Rattle.host.specs.Step.{Left}
use Rattle.host_end.specs.HostEnd.{end_with}
use Rattle.posts.specs.Caller.{CallerLeft, caller_with, caller_of, caller_hears, caller_waits}
use Rattle.posts.specs.declared.caller.Caller.{Caller}
use Rattle.kept_reader.specs.Kept.{reader_bytes, reader_in, reader_kept}
use Rattle.kept_host.specs.Record.{record_bytes}
use Rattle.kept_host.specs.Kept.{stage_number, words_of, session_in, Kept, kept, Opened, opened, opening_by, BegunLeft}

-- Where each part stands, and how long the record is.
abbrev pub seen_place : ℕ
seen_place = reader_bytes

abbrev pub resent_place : ℕ
resent_place = seen_place + 4

abbrev pub dropped_place : ℕ
dropped_place = seen_place + 12

abbrev pub session_place : ℕ
session_place = seen_place + 20

abbrev pub caller_bytes : ℕ
caller_bytes = session_place + record_bytes

-- What is counted: how much of the answer to the start text has been heard, messages resent, frames dropped.
abbrev pub counts_of : Caller → List ℕ
counts_of c = low_half c.end.seen ∷ low_half c.resent ∷ high_half c.resent ∷ low_half c.dropped ∷ high_half c.dropped ∷ []

-- The bytes with a caller in them: its reader at the front, behind it what is counted, then the record of its session.
unfoldable pub caller_kept : Caller → List ℕ → List ℕ
caller_kept c st =
    laid (laid (reader_kept c.end.reader st) seen_place (spelled_all (counts_of c))) session_place (spelled_all (words_of c.end.session))

-- The caller in some bytes: each part as it is read by itself.
unfoldable pub caller_in : List ℕ → Caller
caller_in st =
    caller_with (end_with (reader_in st) (number_at 4 st seen_place) (session_in (drop session_place st))) (number_at 8 st resent_place)
    (number_at 8 st dropped_place)

-- What a step of the caller leaves, with the caller in the bytes.
abbrev pub kept_as : CallerLeft → List ℕ → Kept
kept_as l st = kept (number_in (numbered l.answer)) (count_in l.answer) (passed_in l.answer) (caller_kept l.caller st) l.output

-- 2 and nothing changed for bytes without room; else a byte,
unfoldable pub kept_hears : List ℕ → ℕ → List ℕ → List ℕ → Kept
kept_hears st byte image output =
    cond (ltb (length st) caller_bytes) (kept (refusal_number no_room) 0 0 st output) (kept_as (caller_hears (caller_in st) byte image output) st)

-- or some milliseconds.
unfoldable pub kept_waits : List ℕ → ℕ → List ℕ → List ℕ → Kept
kept_waits st ms image output =
    cond (ltb (length st) caller_bytes) (kept (refusal_number no_room) 0 0 st output) (kept_as (caller_waits (caller_in st) ms image output) st)

-- An opening: its answer, and its session with a fresh reader and nothing counted.
abbrev pub opened_with : BegunLeft → List ℕ → Opened
opened_with b st = opened (number_in b.begun.answer) (count_in b.begun.answer) (caller_kept (caller_of b.begun.session) st) b.output

-- The session's own opening, its answer by number, and its record.
abbrev pub opened_as : Left → List ℕ → Opened
opened_as l st = opened (number_in (numbered l.answer)) (count_in l.answer) (caller_kept (caller_of l.session) st) l.output

unfoldable pub kept_opening : List ℕ → ℕ → ℕ → ℕ → ℕ → ℕ → List ℕ → List ℕ → Opened
kept_opening st number first wish start same image output =
    cond (ltb (length st) caller_bytes) (opened (refusal_number no_room) 0 st output) (opened_with (opening_by number first wish start same image output) st)

-- What a screen needs.
pub record View : Type 0 where
  pub stage : ℕ
  pub rate : ℕ
  pub accepted : ℕ
  pub total : ℕ
  pub resent : ℕ
  pub dropped : ℕ

abbrev pub seen_as : ℕ → ℕ → ℕ → ℕ → ℕ → ℕ → View
seen_as stage rate accepted total resent dropped =
    record { stage = stage; rate = rate; accepted = accepted; total = total; resent = resent; dropped = dropped }

-- The stage, the rate of the line, the packets, and what is counted.
abbrev pub view_of : Caller → View
view_of c =
    let s = c.end.session in
    seen_as (stage_number s.phase) (line_number (session_rate s)) (session_progress s).accepted (session_progress s).total c.resent
    c.dropped

abbrev pub view_in : List ℕ → View
view_in st = view_of (caller_in st)
