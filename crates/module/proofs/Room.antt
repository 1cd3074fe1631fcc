-- What a step leaves in the first bytes of a reply buffer is what it leaves in all of it.
use Rattle.std.specs.Prelude.{ℕ, ◌+◌, ◌≤◌, Bool, true, false, cond, List, [], ◌∷◌, ◌++◌, ◌≡◌, refl, length, take, drop, eqb, ◌-◌}
use Rattle.std.proofs.Common.{sym, ap, ◌∙◌, arith, length-append, append_assoc, append-nil, length-take-le, take-append-drop}
use Rattle.std.proofs.lemmas.List.{drop-append-le}
use borrow.Author.Tests.{le-ltb}
use Rattle.octets.specs.Octets.{over, spelled}
use Rattle.wire.specs.WriteLaws.{wire_most}
use Rattle.commands.specs.Commands.{rate_reply, parameters_reply, packet_reply, restart_reply, notice, largest_packet, accepted}
use Rattle.module_model.specs.Rules.{frames_of, decide_of}
use Rattle.module_model.specs.declared.rules.Say.{Say}
use Rattle.module_model.specs.declared.rules.Say.TheVariants.{Nothing, Rate, Parameters, Packet, Last, Restart}
use Rattle.module_model.specs.declared.events.Event.{Event}
use Rattle.module_model.specs.declared.events.Event.TheVariants.{Elapsed}
use Rattle.module_model.specs.declared.events.Event.TheVariants as event
use Rattle.module.specs.declared.session.Session.{Session}
use Rattle.module.specs.declared.session.Stepped.{Stepped}
use Rattle.refusals.specs.Refusals.{wrong_length}
use Rattle.module_model.specs.declared.events.Answer.TheVariants.{Refused}
use Rattle.module_model.specs.declared.events.Answer.TheVariants as answer
use Rattle.module.specs.Session.{stepped, takes}
use Rattle.module.specs.StepLaws.{Wrote, sent_two}
use Rattle.wire.specs.Frame.{Frame, wire_of}
use Rattle.module.specs.Step.{Left, left, smallest_reply, wires_of, performed, frame_step, time_step, event_step, step_of}

-- All that is said at once takes at most 36 bytes.
wires_small : (say : Say) → length (wires_of (frames_of say)) ≤ smallest_reply
unfolding wires_of spelled
wires_small Nothing = omega arith
wires_small (Rate rate ack) = simp length-append (omega (arith, wire_most (rate_reply rate ack)))
wires_small (Parameters ack) = simp length-append (omega (arith, wire_most (parameters_reply largest_packet ack)))
wires_small (Packet number ack) = simp length-append (omega (arith, wire_most (packet_reply number ack)))
wires_small (Last number state) = simp length-append (omega (arith, wire_most (packet_reply number accepted), wire_most (notice state)))
wires_small (Restart ack) = simp length-append (omega (arith, wire_most (restart_reply ack)))

-- What is written into the first n bytes, with the rest behind it.
over_front : (s out : List ℕ) (n : ℕ) → length s ≤ n → n ≤ length out → over s (take n out) ++ drop n out ≡ over s out
unfolding over
over_front s out n h k =
    let front = take n out in
    let rest = drop n out in
    let within : length s ≤ length front = omega (arith, h, length-take-le n out k) in
    append_assoc s (drop (length s) front) rest
    ∙ ap (λ l. s ++ l) (sym (drop-append-le (length s) front rest within) ∙ ap (drop (length s)) (take-append-drop n out))

-- What is left, with more bytes behind the reply.
abbrev pub wider : Left → List ℕ → Left
wider l rest = record { session = l.session; answer = l.answer; flash = l.flash; reply = l.reply ++ rest }

wider_cond : (t : Bool) (l m : Left) (rest : List ℕ) → wider (cond t l m) rest ≡ cond t (wider l rest) (wider m rest)
wider_cond true l m rest = refl
wider_cond false l m rest = refl

cond_same : (t : Bool) (l m x y : Left) → l ≡ x → m ≡ y → cond t l m ≡ cond t x y
cond_same true l m x y e f = e
cond_same false l m x y e f = f

-- A reply buffer that nothing is written into.
same_front : (r : Stepped) (flash reply : List ℕ) (n : ℕ) → wider (left r flash (take n reply)) (drop n reply) ≡ left r flash reply
same_front r flash reply n = ap (left r flash) (take-append-drop n reply)

event_front : (s : Session) (e : Event) (payload flash reply : List ℕ) → smallest_reply ≤ length reply
    → wider (event_step s e payload flash (take smallest_reply reply)) (drop smallest_reply reply) ≡ event_step s e payload flash reply
unfolding frame_step
event_front s (event.Frame command count) payload flash reply h =
    let d = decide_of s.phase command (take count payload) flash in
    ap (λ o. record (performed s d (take count payload) flash reply) { reply = o }) (over_front (wires_of (frames_of d.say)) reply smallest_reply (wires_small d.say) h)
event_front s (Elapsed ms) payload flash reply h = same_front (time_step s ms) flash reply smallest_reply

pub step_front : (s : Session) (e : Event) (payload flash reply : List ℕ) → smallest_reply ≤ length reply
    → wider (step_of s e payload flash (take smallest_reply reply)) (drop smallest_reply reply) ≡ step_of s e payload flash reply
unfolding step_of
step_front s e payload flash reply h =
    let front = take smallest_reply reply in
    let rest = drop smallest_reply reply in
    let room = le-ltb (length front) smallest_reply (omega (arith, length-take-le smallest_reply reply h)) in
    let opened = cond_same (takes s) _ _ _ _ (event_front s e payload flash reply h) (same_front (stepped s answer.Nothing) flash reply smallest_reply) in
    let fitting = cond_same (eqb (length flash) s.flash) _ _ _ _ (wider_cond (takes s) _ _ rest ∙ opened) (same_front (stepped s (Refused wrong_length)) flash reply smallest_reply) in
    rw (room, le-ltb (length reply) smallest_reply h) (wider_cond (eqb (length flash) s.flash) _ _ rest ∙ fitting)

-- Two frames are sent into a buffer of k bytes, the second behind the first.
pub sent_in : (f g : Frame) (n m k : ℕ) (before mid after : List ℕ) → k ≡ length mid → Wrote f n before mid
    → Wrote g m (take (k - n) (drop n mid)) after
    → (n + m ≡ length (wires_of (f ∷ g ∷ []))) × (take n mid ++ (after ++ drop (k - n) (drop n mid)) ≡ over (wires_of (f ∷ g ∷ [])) before)
sent_in f g n m k before mid after size v w = rw size (sent_two f g n m before mid after v (rw size at w))

-- No frame has no wire form, and one has one.
pub wires_none : (reply : List ℕ) → over (wires_of []) reply ≡ reply
unfolding wires_of over
wires_none reply = refl

pub wires_one : (f : Frame) → wires_of (f ∷ []) ≡ wire_of f
unfolding wires_of
wires_one f = append-nil (wire_of f)
