-- The laws of Runs: what is heard in a reply, runs one behind the other.
use Rattle.std.specs.Prelude.{ℕ, ◌+◌, ◌≤◌, List, [], ◌∷◌, ◌++◌, map, ◌≡◌, refl, length, take}
use Rattle.std.proofs.Common.{ap, ◌∙◌, arith}
use Rattle.octets.specs.Octets.{spelled, over}
use Rattle.octets.proofs.OctetsLaws.{take_over}
use Rattle.wire.specs.Frame.{Frame, longest_payload, wire_of}
use Rattle.reader_promises.specs.Runs.{Placed}
use Rattle.reader_promises.specs.Seen.{Seen, outside, seen_after, seen_handed}
use Rattle.reader_promises.proofs.SeenLaws.{fresh_handed, handed_append}
use Rattle.reader_promises.proofs.Feed.{handed_frame}
use Rattle.module_model.specs.Rules.{frames_of}
use Rattle.module_model.specs.Answers.{count_in}
use Rattle.module.specs.Step.{wires_of, answer_of, performed}
use Rattle.module_promises.specs.Runs.{Given, Exchange, Offer, exchange, given, next_of, after_of, carried, carried_after, heard_in}
use Rattle.module_promises.specs.Runs.{after_by, carried_by, sent_by}
use Rattle.module_model.specs.declared.rules.Decision.{Decision}
use Rattle.module_model.specs.declared.rules.Say.{Say}
use Rattle.module_model.specs.declared.rules.Say.TheVariants.{Nothing, Rate, Parameters, Packet, Last, Restart}
use Rattle.module.specs.declared.session.Session.{Session}

-- ---- what is heard

-- Each frame has a payload that fits the wire.
abbrev pub ShortFrames : List Frame → Type 0
ShortFrames [] = Unit
ShortFrames (f ∷ fs) = (length f.payload ≤ longest_payload) × ShortFrames fs

-- From any state of a reader the wire forms of some frames hand out just these.
seen_wires : (fs : List Frame) (s : Seen) (k : ℕ) → ShortFrames fs → map (λ (p : Placed). p.frame) (seen_handed s k (wires_of fs)) ≡ fs
unfolding wires_of seen_handed
seen_wires [] s k h = refl
seen_wires (f ∷ fs) s k h =
    rw (handed_append s k (wire_of f) (wires_of fs), handed_frame s k f h.0)
    (ap (λ (l : List Frame). f ∷ l) (seen_wires fs (seen_after s (wire_of f)) (k + length (wire_of f)) h.1))

-- A reader hears in the wire forms of some frames just these.
pub heard_wires : (fs : List Frame) → ShortFrames fs → heard_in (wires_of fs) ≡ fs
unfolding heard_in
heard_wires fs h = ap (map (λ (p : Placed). p.frame)) (fresh_handed (wires_of fs)) ∙ seen_wires fs outside 0 h

-- The frames of a reply are short.
short_replies : (say : Say) → ShortFrames (frames_of say)
unfolding spelled
short_replies Nothing = tt
short_replies (Rate rate ack) = (omega arith, tt)
short_replies (Parameters ack) = (omega arith, tt)
short_replies (Packet number ack) = (omega arith, tt)
short_replies (Last number state) = (omega arith, (omega arith, tt))
short_replies (Restart ack) = (omega arith, tt)

-- The bytes sent are the wire forms.
sent_wires : (fs : List Frame) (reply : List ℕ) → take (count_in (answer_of fs)) (over (wires_of fs) reply) ≡ wires_of fs
unfolding wires_of
sent_wires [] reply = refl
sent_wires (f ∷ fs) reply = take_over (wires_of (f ∷ fs)) reply (length (wires_of (f ∷ fs))) refl

-- What is heard in the reply of a performed decision is what it says.
pub heard_performed : (s : Session) (d : Decision) (payload flash reply : List ℕ)
    → heard_in (sent_by (performed s d payload flash reply)) ≡ frames_of d.say
heard_performed s d payload flash reply =
    ap heard_in (sent_wires (frames_of d.say) reply) ∙ heard_wires (frames_of d.say) (short_replies d.say)

-- Nothing is heard where nothing is sent.
pub heard_nothing : heard_in [] ≡ []
unfolding wires_of
heard_nothing = heard_wires [] tt

-- ---- runs

-- A run behind another.
pub after_append : (s : Session) (gs hs : List Given) → after_of s (gs ++ hs) ≡ after_of (after_of s gs) hs
unfolding after_by
after_append s [] hs = refl
after_append s (g ∷ gs) hs = after_append (next_of s g) gs hs

pub carried_append : (s : Session) (flash : List ℕ) (os ps : List Offer)
    → carried s flash (os ++ ps) ≡ carried s flash os ++ carried (carried_after s flash os).session (carried_after s flash os).flash ps
unfolding carried_by carried_after
carried_append s flash [] ps = refl
carried_append s flash (o ∷ os) ps =
    let x = exchange s (given flash o) in ap (λ (xs : List Exchange). x ∷ xs) (carried_append x.left.session x.left.flash os ps)

pub carried_after_append : (s : Session) (flash : List ℕ) (os ps : List Offer)
    → carried_after s flash (os ++ ps) ≡ carried_after (carried_after s flash os).session (carried_after s flash os).flash ps
unfolding carried_after
carried_after_append s flash [] ps = refl
carried_after_append s flash (o ∷ os) ps =
    let x = exchange s (given flash o) in carried_after_append x.left.session x.left.flash os ps
