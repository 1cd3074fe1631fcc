-- What is said, as it stands in the reply buffer, and what a frame that is answered so leaves.
use Rattle.refusals.specs.declared.Refusal.{Refusal}
use Rattle.std.specs.Prelude.{ℕ, ◌≤◌, ◌≡◌, refl, Result, Ok, Err}
use mathlib.Core.List.{List, [], ◌∷◌, append-nil}
use Rattle.std.proofs.Common.{sym, ◌∙◌, arith}
use Rattle.std.proofs.Math.Path.{ap}
use Rattle.std.proofs.Math.ListN.{length}
use Rattle.std.specs.Result.{result_unwrap_or}
use Rattle.octets.specs.Octets.{over}
use Rattle.octets.proofs.OctetsLaws.{over_nil}
use Rattle.refusals.specs.Written.{Out}
use Rattle.refusals.specs.Written as written
use Rattle.wire.specs.Frame.{Frame, content_of, wire_of}
use Rattle.wire.specs.Write.{write_of}
use Rattle.wire.specs.WriteLaws.{wire_size, wire_most, write_done}
use Rattle.module_model.specs.Rules.{frames_of, put_of, decide_of}
use Rattle.module_model.specs.Answers.{Answer}
use Rattle.module_model.specs.declared.events.Answer.TheVariants.{Sent}
use Rattle.module_model.specs.declared.events.Answer.TheVariants as answer
use Rattle.module_model.specs.declared.rules.Decision.{Decision}
use Rattle.module_model.specs.declared.rules.Say.{Say}
use Rattle.module_model.specs.declared.rules.Say.TheVariants.{Nothing}
use Rattle.module.specs.Session.{session, stepped}
use Rattle.module.specs.Step.{left, wires_of, answer_of, performed, frame_step}
use Rattle.module.specs.StepLaws.{short_payload, short_wire, Wrote, wrote}
use Rattle.module.specs.declared.session.Session.{Session}

-- In a buffer of 18 bytes the writer never refuses a short frame.
module _ (f : Frame) (before : List ℕ) (few : length f.payload ≤ short_payload) (room : short_wire ≤ length before) where
  pub wrote_one : (answer : Result ℕ Refusal) (n : ℕ) (after : List ℕ) → record { answer = answer; output = after } ≡ write_of f before
      → answer ≡ Ok n → Wrote f n before after
  wrote_one answer n after e told = wrote f before few room answer n after e (sym (ap (λ a. result_unwrap_or a 0) told))

  pub wrote_never : (answer : Result ℕ Refusal) (refusal : Refusal) (after : List ℕ) → record { answer = answer; output = after } ≡ write_of f before
      → answer ≡ Err refusal → ⊥
  unfolding wire_of
  wrote_never answer refusal after e told =
      let all : write_of f before ≡ written.written (wire_of f) before = write_done f before (omega arith) (omega (arith, wire_most f)) in
      let none : 0 ≡ length (wire_of f) = ap (λ a. result_unwrap_or a 0) (sym told) ∙ ap (λ (o : Out). result_unwrap_or o.answer 0) (e ∙ all) in
      omega (arith, none, wire_size (content_of f))

-- What is said is answered and stands in the reply buffer.
abbrev pub Replied : Say → Answer → List ℕ → List ℕ → Type 0
Replied say answer before after = (answer ≡ answer_of (frames_of say)) × (after ≡ over (wires_of (frames_of say)) before)

-- This holds of what is said, whatever name it has.
pub replied_same : (say said : Say) (answer : Answer) (before after : List ℕ) → say ≡ said → Replied said answer before after
    → Replied say answer before after
replied_same say said answer before after e h = rw e h

-- Where nothing is said, the buffer is as lent.
pub replied_nothing : (reply : List ℕ) → Replied Nothing answer.Nothing reply reply
unfolding wires_of
replied_nothing reply = (refl, sym (over_nil reply))

-- One frame is sent.
pub sent_one : (f : Frame) (n : ℕ) (before after : List ℕ) → Wrote f n before after
    → (Sent n ≡ answer_of (f ∷ [])) × (after ≡ over (wires_of (f ∷ [])) before)
unfolding wires_of
sent_one f n before after w = rw (append-nil (wire_of f)) (ap Sent w.count, w.front)

-- What was decided, put and said is what a frame given to an open session leaves.
pub frame_done : (s : Session) (command : ℕ) (payload flash reply : List ℕ) (d : Decision) (a : Answer) (stored sent : List ℕ)
    → d ≡ decide_of s.phase command payload flash → stored ≡ put_of d.put payload flash → Replied d.say a reply sent
    → left (stepped (session s.flash 0 d.phase) a) stored sent ≡ frame_step s command payload flash reply
unfolding frame_step
frame_done s command payload flash reply d a stored sent decided put said =
    rw (put, said.0, said.1) (ap (λ (x : Decision). performed s x payload flash reply) decided)
