-- A caller: a host's end that counts what it resends and what its reader drops.
use Rattle.std.specs.Prelude.{ℕ, Bool, List, nat_lt}
use Rattle.host.specs.Session.{session_repeats}
use Rattle.host.specs.declared.session.Session.{Session}
use Rattle.host_model.specs.Events.{Answer}
use Rattle.host_end.specs.HostEnd.{HostLeft, end_of, host_hears, host_waits}
use Rattle.host_end.specs.declared.end.HostEnd.{HostEnd}
use Rattle.host_end.specs.declared.end.HostStep.{HostStep}
use Rattle.posts.specs.Post.{more_of}
use Rattle.posts.specs.declared.caller.Caller.{Caller}
use Rattle.posts.specs.declared.caller.CallerStep.{CallerStep}

-- All that a byte or a time leaves.
pub record CallerLeft : Type 0 where
  pub caller : Caller
  pub answer : Answer
  pub output : List ℕ

abbrev pub caller_left : CallerStep → List ℕ → CallerLeft
caller_left r output = record { caller = r.caller; answer = r.answer; output = output }

abbrev pub caller_with : HostEnd → ℕ → ℕ → Caller
caller_with e resent dropped = record { end = e; resent = resent; dropped = dropped }

-- A caller at the start.
abbrev pub caller_of : Session → Caller
caller_of s = caller_with (end_of s) 0 0

-- A message was resent: the session counts the repeats of the message under way, and the count has grown.
abbrev pub again : Session → Session → Bool
again before after = nat_lt (session_repeats before) (session_repeats after)

-- What a step of the end leaves.
unfoldable pub called_step : Caller → HostStep → CallerStep
called_step c s = record {
  caller = caller_with s.end (more_of c.resent (again c.end.session s.end.session)) (more_of c.dropped s.dropped);
  answer = s.answer;
}

abbrev pub called_of : Caller → HostLeft → CallerLeft
called_of c l = caller_left (called_step c (record { end = l.end; answer = l.answer; dropped = l.dropped })) l.output

-- One byte, and some milliseconds.
abbrev pub caller_hears : Caller → ℕ → List ℕ → List ℕ → CallerLeft
caller_hears c byte image output = called_of c (host_hears c.end byte image output)

abbrev pub caller_waits : Caller → ℕ → List ℕ → List ℕ → CallerLeft
caller_waits c ms image output = called_of c (host_waits c.end ms image output)
