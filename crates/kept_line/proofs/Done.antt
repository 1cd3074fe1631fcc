-- The number of done is told by done alone.
use Rattle.refusals.specs.Refusals.{refusal_number}
use Rattle.refusals.specs.declared.Refusal.{Refusal}
use Rattle.std.specs.Prelude.{ℕ, Bool, ◌≡◌, refl, eqb, length}
use Rattle.std.proofs.Math.Bool.{true, false}
use mathlib.Core.List.{List, [], Memᴰ}
use Rattle.std.proofs.Common.{arith, eqb-true, ap}
use Rattle.octets.specs.Octets.{Bytes}
use Rattle.octets.proofs.Choice.{either_way}
use Rattle.wire.specs.Frame.{Frame, frame}
use Rattle.commands.specs.Commands.{start_answer}
use Rattle.reader.specs.Reader.{payload_in, frames_in}
use Rattle.reader.specs.Reader as reader
use Rattle.reader.specs.declared.steps.Reader.{Reader}
use Rattle.reader.specs.declared.steps.Heard.{Heard}
use Rattle.reader.specs.declared.steps.Heard.TheVariants as heard
use Rattle.host.specs.Session.{arises}
use Rattle.host.specs.Step.{Left, phase_step, step_of}
use Rattle.host.specs.declared.session.Session.{Session}
use Rattle.host_model.specs.Events.{Answer, numbered, number_in, load_done}
use Rattle.host_model.specs.declared.events.Answer.TheVariants.{Nothing, Done}
use Rattle.host_model.specs.declared.events.Event.TheVariants as event
use Rattle.host_model.specs.declared.waits.Wait.{Wait}
use Rattle.host_model.specs.declared.waits.Phase.{Phase}
use Rattle.host_model.specs.declared.waits.Phase.TheVariants.{Ended, EndedAt, Waiting}
use Rattle.host_promises.specs.Runs.{Given, leaves}
use Rattle.host_promises.specs.Promises.{RefusedBy, lowest, parameters, packet, packet_0, same_version, failure, Message, again, onward, restart}
use Rattle.host_promises.specs.Promises.{Turn, sends, no_room_law, gives_up, too_many, awaits, finishes, waits, passed_over}
use Rattle.host_promises.proofs.Turns.{every_turn}
use Rattle.host_end.specs.Text.{followed}
use Rattle.host_end.specs.HostEnd.{HostLeft, frame_heard, line_heard, heard_by, host_hears, host_waits}
use Rattle.host_end.specs.declared.end.HostEnd.{HostEnd}

-- An answer that is told as done is done.
abbrev pub Tells : Answer → Type 0
Tells a = number_in (numbered a) ≡ load_done → a ≡ Done

-- 21 and 22 are no such number.
refused_low : (w : Wait) (g : Given) (refusal : Refusal) (passed : ℕ) → RefusedBy w g refusal passed → refusal_number refusal ≡ load_done → ⊥
refused_low w g refusal passed (lowest a b e c) d = omega (arith, ap refusal_number e, d)
refused_low w g refusal passed (parameters rate most a b c f e) d = omega (arith, ap refusal_number e, d)
refused_low w g refusal passed (packet rate size k a b e c) d = omega (arith, ap refusal_number e, d)
refused_low w g refusal passed (packet_0 rate size k a b e c) d = omega (arith, ap refusal_number e, d)
refused_low w g refusal passed (same_version rate size k a b c e f) d = omega (arith, ap refusal_number e, d)
refused_low w g refusal passed (failure rate size a b c e) d = omega (arith, ap refusal_number e, d)

message_tells : (w : Wait) (g : Given) (message : List ℕ) (next : Session) (answer : Answer) → Message w g message next answer → Tells answer
message_tells w g message next answer (again a b c f e) = rw e (λ d. absurd (omega (arith, d)))
message_tells w g message next answer (onward stage a b c e) = rw e (λ d. absurd (omega (arith, d)))
message_tells w g message next answer (restart refusal passed r b c e) = rw e (λ d. absurd (refused_low w g refusal passed r d))

turn_tells : (s : Session) (w : Wait) (g : Given) (x : Left) → Turn s w g x → Tells x.answer
turn_tells s w g x (sends message next answer m room e) = rw e (message_tells w g message next answer m)
turn_tells s w g x (no_room_law message next answer m room e) = rw e (λ d. absurd (omega (arith, d)))
turn_tells s w g x (gives_up a b e) = rw e (λ d. absurd (omega (arith, d)))
turn_tells s w g x (too_many a e) = rw e (λ d. absurd (omega (arith, d)))
turn_tells s w g x (awaits rate size a e) = rw e (λ d. absurd (omega (arith, d)))
turn_tells s w g x (finishes a e) = rw e (λ d. refl)
turn_tells s w g x (waits ms a b e) = rw e (λ d. absurd (omega (arith, d)))
turn_tells s w g x (passed_over e) = rw e (λ d. absurd (omega (arith, d)))

nothing : Tells Nothing
nothing d = absurd (omega (arith, d))

-- A step of any session that arises.
module _ (s : Session) (g : Given) (a : arises s ≡ true) (bytes : Bytes g.bytes) where
  phase_tells : (v w : Phase) → v ≡ w → Tells (phase_step s w g.event g.bytes g.image g.output).answer
      → Tells (phase_step s v g.event g.bytes g.image g.output).answer
  phase_tells v w e h = rw e h

  -- One that has ended says nothing, or 3.
  ended_tells : (phase : Phase) → s.phase ≡ phase → Tells (phase_step s phase g.event g.bytes g.image g.output).answer
      → Tells (leaves s g).answer
  unfolding step_of
  ended_tells phase e here =
      either_way (λ (l : Left). Tells l.answer) (eqb (length g.image) s.image)
      (λ _. either_way (λ (l : Left). Tells l.answer) (arises s) (λ _. phase_tells s.phase phase e here) (λ _. nothing))
      (λ _ d. absurd (omega (arith, d)))

  other_tells : eqb (length g.image) s.image ≡ false → Tells (leaves s g).answer
  unfolding step_of
  other_tells e = rw e (λ d. absurd (omega (arith, d)))

  step_tells : Tells (leaves s g).answer
  step_tells = by_phase s.phase refl
    where
      by_length : (w : Wait) → s.phase ≡ Waiting w → (same : Bool) → eqb (length g.image) s.image ≡ same → Tells (leaves s g).answer
      by_length w e true same =
          turn_tells s w g (leaves s g)
          (every_turn s w g (record { phase_is = e; sound = a; same_length = eqb-true _ _ same; all_bytes_law = bytes }))
      by_length w e false same = other_tells same

      by_phase : (phase : Phase) → s.phase ≡ phase → Tells (leaves s g).answer
      by_phase Ended e = ended_tells Ended e nothing
      by_phase (EndedAt kind rate) e = ended_tells (EndedAt kind rate) e nothing
      by_phase (Waiting w) e = by_length w e (eqb (length g.image) s.image) refl

-- ---- a byte

answer_bytes : Bytes start_answer
answer_bytes = omega arith

module _ (r : Reader) (seen : ℕ) (s : Session) (a : arises s ≡ true) (image output : List ℕ) where
  line_tells : (dropped : Bool) → Tells (line_heard r seen s dropped image output).answer
  unfolding line_heard
  line_tells dropped =
      either_way (λ (l : HostLeft). Tells l.answer) (eqb seen (length start_answer))
      (λ _. step_tells s (record { event = event.Line (length start_answer); bytes = start_answer; image = image; output = output }) a answer_bytes)
      (λ _. nothing)

  heard_tells : (h : Heard) → ((f : Frame) → Memᴰ f (frames_in h r) → Bytes f.payload) → Tells (heard_by h r seen s image output).answer
  unfolding frame_heard
  heard_tells heard.Nothing bytes = line_tells false
  heard_tells (heard.Frame command n) bytes =
      step_tells s (record { event = event.Frame command n; bytes = payload_in r.store n; image = image; output = output }) a
      (bytes (frame command (payload_in r.store n)) (Memᴰ.head refl))
  heard_tells heard.Dropped bytes = line_tells true

-- A byte that is answered by the number of done is answered by done.
pub hears_tells : (e : HostEnd) (byte : ℕ) (image output : List ℕ) → arises e.session ≡ true
    → ((f : Frame) → Memᴰ f (reader.frames_of (reader.step_of e.reader byte)) → Bytes f.payload)
    → Tells (host_hears e byte image output).answer
unfolding host_hears
hears_tells e byte image output a bytes =
    let read = reader.step_of e.reader byte in
    heard_tells read.reader (followed start_answer e.seen byte) e.session a image output read.heard bytes

-- So is a time.
pub waits_tells : (e : HostEnd) (ms : ℕ) (image output : List ℕ) → arises e.session ≡ true → Tells (host_waits e ms image output).answer
unfolding host_waits
waits_tells e ms image output a =
    step_tells e.session (record { event = event.Elapsed ms; bytes = []; image = image; output = output }) a tt
