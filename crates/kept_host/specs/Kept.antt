-- A host's session kept as bytes: its record, how bytes are read again, and what a call with them leaves.
use Rattle.kept_host.specs.declared.opening.Begun.{Begun}
use Rattle.std.specs.Prelude.{ℕ, Bool, cond, ◌&&◌, List, [], ◌∷◌, eqb, leb, ltb, length, get_or, None, Option, Some}
use Rattle.octets.specs.Octets.{number_at}
use Rattle.refusals.specs.Refusals.{no_room, refusal_number}
use Rattle.kinds.specs.Kinds.{kind_of, number_of}
use Rattle.kinds.specs.declared.Kind.{Kind}
use Rattle.flat.specs.Answers.{unknown}
use Rattle.flat.specs.Words.{low_half, high_half, recorded, stands_for}
use Rattle.host_model.specs.Stages.{number_of_rate}
use Rattle.host_model.specs.declared.plan.Rate.{Rate}
use Rattle.host_model.specs.declared.plan.Rate.TheVariants.{R9600, R19200, R38400, R57600, R115200}
use Rattle.host_model.specs.declared.plan.Start.{Start}
use Rattle.host_model.specs.declared.plan.Start.TheVariants.{WithText, AtOnce}
use Rattle.host_model.specs.declared.plan.Same.{Same}
use Rattle.host_model.specs.declared.plan.Same.TheVariants.{GoOn, Stop}
use Rattle.host_model.specs.declared.plan.Plan.{Plan}
use Rattle.host_model.specs.declared.plan.Stage.{Stage}
use Rattle.host_model.specs.declared.plan.Stage.TheVariants.{Text, Asking, Declaring, Sending, Noticing, Restarting}
use Rattle.host.specs.Session.{session, arises}
use Rattle.host_model.specs.Waits.{wait}
use Rattle.host.specs.Step.{Left, Wishes, step_of, ended_of, opening_of}
use Rattle.host_model.specs.Events.{AnswerByNumber, numbered, number_in, passed_in, count_in}
use Rattle.host_model.specs.declared.waits.Wait.{Wait}
use Rattle.host_model.specs.declared.waits.Phase.{Phase}
use Rattle.host_model.specs.declared.waits.Phase.TheVariants.{Ended, EndedAt, Waiting}
use Rattle.host.specs.declared.session.Session.{Session}
use Rattle.host_model.specs.declared.events.Event.{Event}
use Rattle.host_model.specs.declared.events.Answer.TheVariants.{Refused}
use Rattle.kept_host.specs.Record.{image_place, wish_place, stage_place, type_place, first_place, rate_place, start_place, same_place, size_place, number_place, waited_place, repeats_place}
use Rattle.kept_host.specs.Record.{record_bytes, ended_stage, text_stage, asking_stage, declaring_stage, sending_stage, noticing_stage, restarting_stage}
use Rattle.kept_host.specs.declared.words.Staged.{Staged}
use Rattle.kept_host.specs.declared.answers.Told.{Told}

-- ---- the record of a session

-- What the start text and the same version are in a record: 1 with text, 1 go on.
abbrev pub start_number : Start → ℕ
start_number WithText = 1
start_number AtOnce = 0

abbrev pub same_number : Same → ℕ
same_number GoOn = 1
same_number Stop = 0

abbrev pub stage_at : ℕ → Rate → ℕ → ℕ → Staged
stage_at stage rate size number =
    record { stage = stage; rate = number_of_rate rate; size = low_half size; number = low_half number }

-- The four words of a stage; what it does not have is 0.
abbrev pub stage_words : Stage → Staged
stage_words Text = record { stage = text_stage; rate = 0; size = 0; number = 0 }
stage_words (Asking rate) = stage_at asking_stage rate 0 0
stage_words (Declaring rate) = stage_at declaring_stage rate 0 0
stage_words (Sending rate size number) = stage_at sending_stage rate size number
stage_words (Noticing rate size) = stage_at noticing_stage rate size 0
stage_words (Restarting rate size) = stage_at restarting_stage rate size 0

-- The number of a stage, 0 once the session has ended.
abbrev pub stage_number : Phase → ℕ
stage_number Ended = ended_stage
stage_number (EndedAt kind rate) = ended_stage
stage_number (Waiting w) = (stage_words w.stage).stage

-- The words of a session that waits.
abbrev pub wait_words : ℕ → Staged → Wait → List ℕ
wait_words image s w =
    low_half image ∷ high_half image ∷ low_half w.plan.wish ∷ high_half w.plan.wish
    ∷ s.stage ∷ number_of w.plan.kind ∷ number_of_rate w.plan.first ∷ s.rate
    ∷ start_number w.plan.start ∷ same_number w.plan.same
    ∷ s.size ∷ s.number ∷ w.waited ∷ w.repeats ∷ []

-- The words of an ended one: its image length, the type and the rate of its restart frame where it keeps them, and zeros.
abbrev pub ended_words : ℕ → ℕ → ℕ → List ℕ
ended_words image type rate = low_half image ∷ high_half image ∷ 0 ∷ 0 ∷ ended_stage ∷ type ∷ 0 ∷ rate ∷ 0 ∷ 0 ∷ 0 ∷ 0 ∷ 0 ∷ 0 ∷ []

abbrev pub phase_words : ℕ → Phase → List ℕ
phase_words image Ended = ended_words image 0 0
phase_words image (EndedAt kind rate) = ended_words image (number_of kind) (number_of_rate rate)
phase_words image (Waiting w) = wait_words image (stage_words w.stage) w

-- The words of a session.
unfoldable pub words_of : Session → List ℕ
words_of s = phase_words s.image s.phase

-- ---- a session read from bytes

-- The rate of a number; any other than 2 to 5 is read as 9600.
unfoldable pub rate_in : ℕ → Rate
rate_in n = cond (eqb n 2) R19200 (cond (eqb n 3) R38400 (cond (eqb n 4) R57600 (cond (eqb n 5) R115200 R9600)))

-- 1 is with text and to go on, any other at once and to stop.
unfoldable pub start_in : ℕ → Start
start_in n = cond (eqb n 1) WithText AtOnce

unfoldable pub same_in : ℕ → Same
same_in n = cond (eqb n 1) GoOn Stop

-- The stage of a number; any that is none of a stage before the restart is read as the restart.
unfoldable pub stage_of : ℕ → Rate → ℕ → ℕ → Stage
stage_of n rate size number =
    cond (eqb n text_stage) Text
    (cond (eqb n asking_stage) (Asking rate)
    (cond (eqb n declaring_stage) (Declaring rate)
    (cond (eqb n sending_stage) (Sending rate size number) (cond (eqb n noticing_stage) (Noticing rate size) (Restarting rate size)))))

-- The stage and the plan at their places.
unfoldable pub stage_in : List ℕ → Stage
stage_in st = stage_of (get_or st stage_place 0) (rate_in (get_or st rate_place 0)) (number_at 4 st size_place) (number_at 4 st number_place)

unfoldable pub plan_in : Kind → List ℕ → Plan
plan_in kind st =
    record {
      kind = kind;
      first = rate_in (get_or st first_place 0);
      wish = number_at 8 st wish_place;
      start = start_in (get_or st start_place 0);
      same = same_in (get_or st same_place 0);
    }

-- With a known type: ended at a rate, or waiting.
unfoldable pub kind_phase : Kind → List ℕ → Phase
kind_phase kind st =
    cond (eqb (get_or st stage_place 0) ended_stage) (EndedAt kind (rate_in (get_or st rate_place 0)))
    (Waiting (wait (plan_in kind st) (stage_in st) (number_at 4 st waited_place) (number_at 4 st repeats_place)))

-- A type that is not known is read as a session that has ended.
abbrev pub phase_in : Option Kind → List ℕ → Phase
phase_in (Some kind) st = kind_phase kind st
phase_in None st = Ended

-- The session that the numbers of some bytes say.
unfoldable pub fields_in : List ℕ → Session
fields_in st = session (number_at 8 st image_place) (phase_in (kind_of (number_at 2 st type_place)) st)

-- The bytes begin with the record of that session, and it could arise.
unfoldable pub stands : List ℕ → Bool
stands st = stands_for (words_of (fields_in st)) st && arises (fields_in st)

-- The session that bytes keep; any others keep an ended one over the image length that is in them.
unfoldable pub session_in : List ℕ → Session
session_in st = cond (stands st) (fields_in st) (ended_of (number_at 8 st image_place))

-- The bytes with another session kept in them; those that keep none are left as they are.
unfoldable pub kept_of : List ℕ → Session → List ℕ
kept_of st s = cond (stands st) (recorded (words_of s) st) st

-- ---- answers by number

-- The numbers of an answer, whatever number a refusal has.
abbrev pub told_of : AnswerByNumber → Told
told_of a = record { number = number_in a; count = count_in a; passed = passed_in a }

-- ---- what a call leaves

-- All that an event leaves: the answer's number, the count to send, the byte passed on, the kept bytes, the output.
pub record Kept : Type 0 where
  pub answer : ℕ
  pub count : ℕ
  pub passed : ℕ
  pub state : List ℕ
  pub output : List ℕ

abbrev pub kept : ℕ → ℕ → ℕ → List ℕ → List ℕ → Kept
kept answer count passed state output =
    record { answer = answer; count = count; passed = passed; state = state; output = output }

-- What a step of the session leaves, with the bytes that then keep it.
abbrev pub kept_as : Left → List ℕ → Kept
kept_as l state = kept (number_in (numbered l.answer)) (count_in l.answer) (passed_in l.answer) state l.output

-- An event: the session's own step, from the session kept to the one kept after it.
unfoldable pub kept_step : List ℕ → Event → List ℕ → List ℕ → List ℕ → Kept
kept_step st event bytes image output =
    kept_as (step_of (session_in st) event bytes image output) (kept_of st (step_of (session_in st) event bytes image output).session)

-- All that an opening leaves; it passes no byte on.
pub record Opened : Type 0 where
  pub answer : ℕ
  pub count : ℕ
  pub state : List ℕ
  pub output : List ℕ

abbrev pub opened : ℕ → ℕ → List ℕ → List ℕ → Opened
opened answer count state output = record { answer = answer; count = count; state = state; output = output }

-- What an opening by numbers leaves: the session, its answer by number, and the output.
pub record BegunLeft : Type 0 where
  pub begun : Begun
  pub output : List ℕ

abbrev pub begun_left : Session → AnswerByNumber → List ℕ → BegunLeft
begun_left s answer output = record { begun = record { session = s; answer = answer }; output = output }

-- The session's own opening, its answer by number.
abbrev pub begun_as : Left → BegunLeft
begun_as l = begun_left l.session (numbered l.answer) l.output

-- A session opened over some bytes: its answer, and its record.
abbrev pub opened_with : BegunLeft → List ℕ → Opened
opened_with b st = opened (number_in b.begun.answer) (count_in b.begun.answer) (recorded (words_of b.begun.session) st) b.output

-- The session's own opening, its answer by number, and its record.
abbrev pub opened_as : Left → List ℕ → Opened
opened_as l st = opened (number_in (numbered l.answer)) (count_in l.answer) (recorded (words_of l.session) st) l.output

-- A rate is 1 to 5, start and same are 0 or 1.
unfoldable pub wishes_known : ℕ → ℕ → ℕ → Bool
wishes_known first start same = leb 1 first && (leb first 5 && (leb start 1 && leb same 1))

abbrev pub wishes_in : ℕ → ℕ → ℕ → ℕ → Wishes
wishes_in first wish start same = record { first = rate_in first; wish = wish; start = start_in start; same = same_in same }

-- An opening by numbers: 106 and an ended session for a rate, start or same that is none.
unfoldable pub opening_by : ℕ → ℕ → ℕ → ℕ → ℕ → List ℕ → List ℕ → BegunLeft
opening_by number first wish start same image output =
    cond (wishes_known first start same) (begun_as (opening_of number (wishes_in first wish start same) image output))
    (begun_left (ended_of (length image)) (Refused unknown) output)

-- 2 and nothing written for bytes without room; else the opening, and its session's record.
unfoldable pub kept_opening : List ℕ → ℕ → ℕ → ℕ → ℕ → ℕ → List ℕ → List ℕ → Opened
kept_opening st number first wish start same image output =
    cond (ltb (length st) record_bytes) (opened (refusal_number no_room) 0 st output) (opened_with (opening_by number first wish start same image output) st)
