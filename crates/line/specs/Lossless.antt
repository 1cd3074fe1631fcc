-- A host and a module on a line that loses nothing: which of them takes which frame, turn by turn.
use Rattle.std.specs.Prelude.{ℕ, zero, suc, ◌+◌, ◌*◌, Bool, true, false, ◌||◌, List, [], ◌∷◌, ◌++◌, length}
use Rattle.kinds.specs.Kinds.{number_of}
use Rattle.kinds.specs.declared.Kind.{Kind}
use Rattle.wire.specs.Frame.{Frame}
use Rattle.commands.specs.Commands.{start_answer}
use Rattle.host_model.specs.declared.plan.Start.{Start}
use Rattle.host_model.specs.declared.plan.Start.TheVariants.{WithText, AtOnce}
use Rattle.module_promises.specs.Runs as module_runs
use Rattle.module_promises.specs.Runs.{heard_in}
use Rattle.host.specs.Step as host_step
use Rattle.host.specs.Step.{Wishes, opening_of}
use Rattle.host_promises.specs.Runs as host_runs
use Rattle.host_model.specs.declared.events.Event.TheVariants as host_event
use Rattle.host_model.specs.Events.{Answer}
use Rattle.host_model.specs.declared.events.Answer.TheVariants.{Nothing, Sent, Done, Refused, Failed}
use Rattle.line.specs.Joined.{ModuleSession, HostSession, host_gets, board_gets}

-- The two sessions, the module's flash, the frames under way to each, and whether the host has said that the load is done.
pub record Talk : Type 0 where
  pub host : HostSession
  pub board : ModuleSession
  pub flash : List ℕ
  pub to_board : List Frame
  pub to_host : List Frame
  pub done : Bool

-- Whether an answer says done.
abbrev pub is_done : Answer → Bool
is_done Nothing = false
is_done (Sent n) = false
is_done Done = true
is_done (Refused number) = false
is_done (Failed number passed n) = false

-- The host's turn: what it sends goes behind the frames under way to the module.
abbrev pub host_turn : List ℕ → List ℕ → Talk → Frame → List Frame → Talk
host_turn image output t f rest =
    let l = host_gets image output t.host f in
    record {
      host = l.session;
      board = t.board;
      flash = t.flash;
      to_board = t.to_board ++ heard_in (host_runs.sent_by l);
      to_host = rest;
      done = is_done l.answer || t.done;
    }

-- The module's turn, where no frame is under way to the host: what it sends goes there.
abbrev pub board_turn : List ℕ → Talk → Frame → List Frame → Talk
board_turn reply t f rest =
    let l = board_gets t.flash reply t.board f in
    record {
      host = t.host;
      board = l.session;
      flash = l.flash;
      to_board = rest;
      to_host = heard_in (module_runs.sent_by l);
      done = t.done;
    }

-- One turn: the first frame under way to the host is taken, else the first one under way to the module; else nothing changes.
abbrev pub turn_by : List ℕ → List ℕ → List ℕ → Talk → List Frame → List Frame → Talk
turn_by image output reply t (f ∷ rest) waiting = host_turn image output t f rest
turn_by image output reply t [] (f ∷ rest) = board_turn reply t f rest
turn_by image output reply t [] [] = t

unfoldable pub talk_on : List ℕ → List ℕ → List ℕ → Talk → Talk
talk_on image output reply t = turn_by image output reply t t.to_host t.to_board

-- So many turns.
unfoldable pub talks : List ℕ → List ℕ → List ℕ → ℕ → Talk → Talk
talks image output reply zero t = t
talks image output reply (suc n) t = talks image output reply n (talk_on image output reply t)

-- What the host has left when its first frame is under way: its opening, and with the start text the step that hears its answer.
abbrev pub started_by : Start → List ℕ → List ℕ → host_step.Left → host_step.Left
started_by WithText image output l = host_step.step_of l.session (host_event.Line (length start_answer)) start_answer image output
started_by AtOnce image output l = l

-- The beginning: the host has sent its first frame, the module is in some session over some flash.
abbrev pub talk_from : Kind → Wishes → List ℕ → List ℕ → ModuleSession → List ℕ → Talk
talk_from kind w image output s flash =
    let l = started_by w.start image output (opening_of (number_of kind) w image output) in
    record {
      host = l.session;
      board = s;
      flash = flash;
      to_board = heard_in (host_runs.sent_by l);
      to_host = [];
      done = false;
    }

-- The turns of a load of so many packets: two each for the rate, the parameters, every packet and the restart, and one for the
-- notice.
abbrev pub turns_of : ℕ → ℕ
turns_of total = 2 * total + 7
