-- The laws of Step: wire forms written into the reply buffer, one behind the other.
use Rattle.refusals.specs.declared.Refusal.{Refusal}
use Rattle.std.specs.Prelude.{ℕ, ◌+◌, ◌-◌, ◌≤◌, ◌<◌, true, false, ◌≡◌, refl, take, drop, Result}
use mathlib.Core.List.{List, [], ◌∷◌, ◌++◌, append_assoc, append-nil}
use Rattle.std.proofs.Common.{sym, ◌∙◌, arith, length-append, length-drop, drop_of_length-le, drop_at, drop-drop}
use Rattle.std.proofs.Math.Path.{ap}
use borrow.Author.Tests.{lt-ltb, le-ltb, eq-eqb, ne_eqb}
use Rattle.std.proofs.Math.ListN.{length}
use Rattle.octets.proofs.Lists.{rest_part}
use Rattle.octets.specs.Octets.{part_of, over}
use Rattle.octets.proofs.OctetsLaws.{take_over}
use Rattle.std.specs.Result.{result_unwrap_or}
use Rattle.refusals.specs.Refusals.{no_room, wrong_length}
use Rattle.refusals.specs.Written.{Out}
use Rattle.refusals.specs.Written as written
use Rattle.wire.specs.Frame.{Frame, wire_of}
use Rattle.wire.specs.Write.{write_of}
use Rattle.wire.specs.WriteLaws.{wire_most, write_done}
use Rattle.module.specs.Session.{stepped, takes}
use Rattle.module.specs.Step.{left, smallest_reply, wires_of, frame_step, time_step, event_step, step_of}
use Rattle.module_model.specs.declared.events.Event.{Event}
use Rattle.module_model.specs.declared.events.Event.TheVariants.{Elapsed}
use Rattle.module_model.specs.declared.events.Event.TheVariants as event
use Rattle.module_model.specs.declared.events.Answer.TheVariants.{Refused}
use Rattle.module_model.specs.declared.events.Answer.TheVariants as answer
use Rattle.module.specs.declared.session.Session.{Session}

-- A short frame has at most three payload bytes, and its wire form at most 18.
abbrev pub short_payload : ℕ
short_payload = 3

abbrev pub short_wire : ℕ
short_wire = 18

-- The wire form of a short frame stands at the front of the reply buffer.
pub record Wrote (f : Frame) (n : ℕ) (before after : List ℕ) : Type 0 where
  pub count : n ≡ length (wire_of f)
  pub most : n ≤ short_wire
  pub front : after ≡ over (wire_of f) before

-- In a buffer of 18 bytes the writer never refuses such a frame.
module _ (f : Frame) (before : List ℕ) (few : length f.payload ≤ short_payload) (room : short_wire ≤ length before) where
  written_done : write_of f before ≡ written.written (wire_of f) before
  written_done = write_done f before (omega arith) (omega (arith, wire_most f))

  -- So what is counted is its wire form, whatever a refusal would count for.
  pub wrote : (answer : Result ℕ Refusal) (n : ℕ) (after : List ℕ) → record { answer = answer; output = after } ≡ write_of f before
      → n ≡ result_unwrap_or answer 0 → Wrote f n before after
  wrote answer n after e told =
      let all : ◌≡◌ {A = Out} (record { answer = answer; output = after }) (written.written (wire_of f) before) = e ∙ written_done in
      let count : n ≡ length (wire_of f) = told ∙ ap (λ o. result_unwrap_or o.answer 0) all in
      record { count = count; most = omega (arith, count, wire_most f); front = ap (λ o. o.output) all }

-- A run written over what lies behind a front, put back there, is written behind the front.
pub over_behind : (front s out after : List ℕ) (n k : ℕ) → length front ≡ n → k ≡ length (over front out) - n
    → after ≡ over s (take k (drop n (over front out)))
    → take n (over front out) ++ (after ++ drop k (drop n (over front out))) ≡ over (front ++ s) out
unfolding over
over_behind front s out after n k e room h =
    let rest : List ℕ = drop (length front) out in
    let behind : drop n (front ++ rest) ≡ rest = drop_at front rest n e in
    let whole : take k (drop n (front ++ rest)) ≡ rest = rw room (rest_part (front ++ rest) n ∙ behind) in
    let few : length (drop n (front ++ rest)) ≤ k = rw (room, length-drop n (front ++ rest)) (omega arith) in
    let none : drop k (drop n (front ++ rest)) ≡ [] = drop_of_length-le (drop n (front ++ rest)) few in
    let there : after ≡ s ++ drop (length s) rest = h ∙ ap (over s) whole in
    rw (
      take_over front out n e,
      none,
      append-nil after,
      there,
      drop-drop (length s) (length front) out,
      length-append front s,
      append_assoc front s (drop (length front + length s) out),
    )

-- Two frames are sent, the second behind the first.
pub sent_two : (f g : Frame) (n m : ℕ) (before mid after : List ℕ) → Wrote f n before mid
    → Wrote g m (take (length mid - n) (drop n mid)) after
    → (n + m ≡ length (wires_of (f ∷ g ∷ [])))
    × (take n mid ++ (after ++ drop (length mid - n) (drop n mid)) ≡ over (wires_of (f ∷ g ∷ [])) before)
unfolding wires_of
sent_two f g n m before mid after v w =
    let size : n + m ≡ length (wire_of f ++ wire_of g) = rw (length-append (wire_of f) (wire_of g), v.count, w.count) in
    let first : mid ≡ over (wire_of f) before = v.front in
    let second : after ≡ over (wire_of g) (take (length (over (wire_of f) before) - n) (drop n (over (wire_of f) before))) =
    rw first at w.front in
    rw (append-nil (wire_of g), first)
    (size, over_behind (wire_of f) (wire_of g) before after n (length (over (wire_of f) before) - n) (sym v.count) refl second)

-- ---- a step

-- The ways of a step, in their order: 2, 3, closed, and the event, a frame or time.
module _ (s : Session) (e : Event) (payload flash reply : List ℕ) where
  pub step_no_room : length reply < smallest_reply → step_of s e payload flash reply ≡ left (stepped s (Refused no_room)) flash reply
  unfolding step_of
  step_no_room h = rw (lt-ltb (length reply) smallest_reply h)

  pub step_wrong_length : smallest_reply ≤ length reply → (length flash ≡ s.flash → ⊥)
      → step_of s e payload flash reply ≡ left (stepped s (Refused wrong_length)) flash reply
  unfolding step_of
  step_wrong_length h n = rw (le-ltb (length reply) smallest_reply h, ne_eqb (length flash) s.flash n)

  pub step_closed : smallest_reply ≤ length reply → length flash ≡ s.flash → takes s ≡ false
      → step_of s e payload flash reply ≡ left (stepped s answer.Nothing) flash reply
  unfolding step_of
  step_closed h l t = rw (le-ltb (length reply) smallest_reply h, eq-eqb (length flash) s.flash l, t)

  module _ (room : smallest_reply ≤ length reply) (same : length flash ≡ s.flash) (opened : takes s ≡ true) where
    pub step_open : step_of s e payload flash reply ≡ event_step s e payload flash reply
    unfolding step_of
    step_open = rw (le-ltb (length reply) smallest_reply room, eq-eqb (length flash) s.flash same, opened)

    pub step_frame : (command count : ℕ) (part : List ℕ) → e ≡ event.Frame command count → part ≡ part_of payload 0 count
        → step_of s e payload flash reply ≡ frame_step s command part flash reply
    unfolding part_of
    step_frame command count part told cut =
        step_open
        ∙ ap (λ (x : Event). event_step s x payload flash reply) told
        ∙ ap (λ (p : List ℕ). frame_step s command p flash reply) (sym cut)

    pub step_time : (ms : ℕ) → e ≡ Elapsed ms → step_of s e payload flash reply ≡ left (time_step s ms) flash reply
    step_time ms told = step_open ∙ ap (λ (x : Event). event_step s x payload flash reply) told
