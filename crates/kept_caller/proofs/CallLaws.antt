-- Calls through kept bytes are the caller's own.
use Rattle.std.specs.Prelude.{ℕ, ◌^◌, ◌<◌, Bool, List, [], ◌≡◌, refl, eqb, length}
use Rattle.std.proofs.Math.Bool.{true, false}
use Rattle.std.proofs.Common.{ap, ◌∙◌, arith, le-ltb}
use Rattle.octets.proofs.Choice.{either_way, cond_yes, cond_no}
use Rattle.commands.specs.Commands.{start_answer}
use Rattle.reader.specs.Reader.{fresh, payload_in}
use Rattle.reader.specs.Reader as reader
use Rattle.reader.specs.declared.steps.Reader.{Reader}
use Rattle.reader.specs.declared.steps.Heard.{Heard}
use Rattle.reader.specs.declared.steps.Heard.TheVariants.{Nothing, Frame, Dropped}
use Rattle.host.specs.Session.{arises}
use Rattle.host.specs.Step.{Wishes, opening_of}
use Rattle.host.specs.declared.session.Session.{Session}
use Rattle.host_model.specs.declared.events.Event.{Event}
use Rattle.host_model.specs.declared.events.Event.TheVariants as event
use Rattle.host_promises.specs.Runs.{Given, leaves, after_of}
use Rattle.host_promises.proofs.Arises.{step_arises, reached_arises}
use Rattle.host_end.specs.Text.{followed}
use Rattle.host_end.proofs.TextLaws.{followed_most}
use Rattle.host_end.specs.HostEnd.{HostLeft, frame_heard, line_heard, heard_by, host_hears, host_waits}
use Rattle.host_end.specs.declared.end.HostEnd.{HostEnd}
use Rattle.posts.specs.PostLaws.{more_small}
use Rattle.posts.specs.Caller.{called_step, called_of, caller_hears, caller_waits}
use Rattle.posts.specs.declared.caller.Caller.{Caller}
use Rattle.kept_reader.specs.Promises.{Whole}
use Rattle.kept_reader.proofs.KeptRun.{fresh_whole, step_whole}
use Rattle.kept_host.specs.Promises.{Real}
use Rattle.kept_host.proofs.Run.{step_real, opening_real, wishes_known_law, wishes_back}
use Rattle.kept_host.specs.Kept.{opening_by, BegunLeft, begun_as}
use Rattle.kept_caller.specs.Kept.{caller_bytes, caller_kept, kept_as, kept_hears, kept_waits, kept_opening, opened_with}
use Rattle.kept_caller.specs.Promises.{Keeps, KeptOpening, KeptCall}
use Rattle.kept_caller.proofs.Back.{kept_back}
use Rattle.kept_caller.proofs.KeptLaws.{opened_told}

-- ---- the end after a byte or a time

record KeepsEnd (e : HostEnd) : Type 0 where
  whole : Whole e.reader
  arisen : arises e.session ≡ true
  real : Real e.session
  seen_small : e.seen < 2 ^ 32

-- The session after an event, beside a reader.
module _ (r : Reader) (seen : ℕ) (s : Session) (w : Whole r) (a : arises s ≡ true) (real : Real s) (small : seen < 2 ^ 32) where
  stepped_keeps : (e : Event) (bytes image output : List ℕ)
      → KeepsEnd (record { reader = r; seen = seen; session = (leaves s (record { event = e; bytes = bytes; image = image; output = output })).session })
  stepped_keeps e bytes image output =
      let g : Given = record { event = e; bytes = bytes; image = image; output = output } in
      record { whole = w; arisen = step_arises s g a; real = step_real s g real; seen_small = small }

  line_keeps : (dropped : Bool) (image output : List ℕ) → KeepsEnd (line_heard r seen s dropped image output).end
  unfolding line_heard
  line_keeps dropped image output =
      either_way (λ (l : HostLeft). KeepsEnd l.end) (eqb seen (length start_answer))
      (λ _. stepped_keeps (event.Line (length start_answer)) start_answer image output)
      (λ _. record { whole = w; arisen = a; real = real; seen_small = small })

  heard_keeps : (h : Heard) (image output : List ℕ) → KeepsEnd (heard_by h r seen s image output).end
  unfolding frame_heard
  heard_keeps Nothing image output = line_keeps false image output
  heard_keeps (Frame command n) image output = stepped_keeps (event.Frame command n) (payload_in r.store n) image output
  heard_keeps Dropped image output = line_keeps true image output

seen_follows : (seen byte : ℕ) → followed start_answer seen byte < 2 ^ 32
seen_follows seen byte =
    let size : length start_answer ≡ 14 = refl in
    let most = followed_most start_answer seen byte (omega (arith, size)) in
    omega (arith, most, size)

hears_end : (e : HostEnd) (byte : ℕ) (image output : List ℕ) → KeepsEnd e → KeepsEnd (host_hears e byte image output).end
unfolding host_hears
hears_end e byte image output k =
    let read = reader.step_of e.reader byte in
    heard_keeps read.reader (followed start_answer e.seen byte) e.session (step_whole e.reader byte k.whole) k.arisen k.real
    (seen_follows e.seen byte) read.heard image output

waits_end : (e : HostEnd) (ms : ℕ) (image output : List ℕ) → KeepsEnd e → KeepsEnd (host_waits e ms image output).end
unfolding host_waits
waits_end e ms image output k =
    stepped_keeps e.reader e.seen e.session k.whole k.arisen k.real k.seen_small (event.Elapsed ms) [] image output

-- ---- the caller

end_of : (c : Caller) → Keeps c → KeepsEnd c.end
end_of c k = record { whole = k.whole; arisen = k.arisen; real = k.real; seen_small = k.seen_small }

called_keeps : (c : Caller) (l : HostLeft) → Keeps c → KeepsEnd l.end → Keeps (called_of c l).caller
unfolding called_step
called_keeps c l k e = record {
  whole = e.whole;
  arisen = e.arisen;
  real = e.real;
  seen_small = e.seen_small;
  resent_small = more_small c.resent _ k.resent_small;
  dropped_small = more_small c.dropped l.dropped k.dropped_small;
}

pub kept_call : KeptCall
unfolding kept_hears kept_waits
kept_call c st k room =
    let back = kept_back c st k room in
    let after : List ℕ = caller_kept c st in
    let long = le-ltb (length after) caller_bytes (rw back.1 room) in
    record {
      hears_same = λ byte image output.
          cond_no _ _ _ long ∙ ap (λ (x : Caller). kept_as (caller_hears x byte image output) after) back.0;
      hears_keeps = λ byte image output. called_keeps c (host_hears c.end byte image output) k (hears_end c.end byte image output (end_of c k));
      waits_same = λ ms image output.
          cond_no _ _ _ long ∙ ap (λ (x : Caller). kept_as (caller_waits x ms image output) after) back.0;
      waits_keeps = λ ms image output. called_keeps c (host_waits c.end ms image output) k (waits_end c.end ms image output (end_of c k));
    }

-- ---- the opening

pub kept_opening_law : KeptOpening
unfolding kept_opening opening_by after_of
kept_opening_law st number w image output room short wish = (
  cond_no _ _ _ (le-ltb (length st) caller_bytes room)
      ∙ ap (λ (b : BegunLeft). opened_with b st)
      (cond_yes _ _ _ (wishes_known_law w) ∙ ap (λ (x : Wishes). begun_as (opening_of number x image output)) (wishes_back w))
      ∙ opened_told (opening_of number w image output) st,
  record {
    whole = fresh_whole;
    arisen = reached_arises number w image output [];
    real = opening_real number w image output short wish;
    seen_small = omega arith;
    resent_small = omega arith;
    dropped_small = omega arith;
  },
)
