-- Wrong steps that break M2: one writes nothing, one packet 1 only, one does not compare repeats, one does not compare sizes, one writes
-- one place further on, one writes repeats, one writes type 1 at address 0.
use Rattle.std.specs.Prelude.{ℕ, ◌+◌, ◌≤◌, ◌<◌, List, [], ◌∷◌, ◌++◌, ◌≡◌, refl, length, get_or, replicate, None}
use mathlib.Core.List.Memᴰ
use Rattle.std.proofs.Common.{sym, ap, ◌∙◌, arith}
use Rattle.octets.specs.Octets.{Bytes, number_at, little, spelled, part_of, same_bytes, laid}
use Rattle.octets.proofs.Lists.{bytes_spelled}
use Rattle.kinds.specs.Kinds.{kind_of, fits_flash}
use Rattle.pieces.specs.Pieces.{count_of, size_at}
use Rattle.wire.specs.Frame as wire
use Rattle.commands.specs.Commands.{accepted, largest_packet, parameters_reply, packet_reply, notice}
use Rattle.module_model.specs.Phases.{openable, alive, cuts, loading_arises, done_arises}
use Rattle.module_model.specs.Rules as rules
use Rattle.module_model.specs.Rules.{decide_of}
use Rattle.module.specs.Session.{session, opening_of, takes}
use Rattle.module.specs.Step.{performed}
use Rattle.module_promises.specs.Runs.{Step, Exchange, Offer, given, exchange_by, after_by, run_by, payload_of, Says, sent_by, heard_in}
use Rattle.module_promises.proofs.RunsLaws.{heard_performed}
use Rattle.module_promises.specs.Promises.{online, opened, LastParameters, NobodyElse, joined, FirstAcknowledged, AcceptedData, HoldsImage}
use Rattle.module_promises.specs.Promises.{FlashAtSuccess, SuccessHoldsOf, OnlyInRangeOf, base_in, length_in}
use Rattle.module_promises.proofs.When.{last_only}
use Rattle.module_promises.proofs.Tiny.{flash, image, declares, sends, zeros64, tiny_bytes, heard_of, no_parameters, last_first}
use Rattle.module_promises.proofs.Tiny.{flash8, half, declares8, sends1, sends2, eight_bytes, begun4, done4, begun8, loading8}
use Rattle.module_promises.proofs.WrongRules.{Rule, step_by, writes_nothing, writes_first, compares_nothing, compares_no_size, writes_one_on}
use Rattle.module_promises.proofs.WrongRules.{writes_repeats, writes_at_address}
use Rattle.module_model.specs.declared.phases.Phase.TheVariants.{Ready}
use Rattle.module_model.specs.declared.events.Event.TheVariants.{Frame}
use Rattle.module.specs.declared.session.Session.{Session}

-- ---- what success says, told of parameters that are known

pub record Told (p : Exchange) (since : List Exchange) (x : Exchange) : Type 0 where
  pub pieces : List (List ℕ)
  pub accepts : AcceptedData p since (number_at 2 (payload_of x.given) 0) pieces
  pub holds : HoldsImage p since (number_at 2 (payload_of x.given) 0) pieces x.left.flash

told : (history : List Exchange) (p : Exchange) (since : List Exchange) (x : Exchange) → LastParameters history p since
    → NobodyElse p.given.flash since → FlashAtSuccess history x → Told p since x
told history p since x last nobody f =
    let same = last_only history f.parameters f.since p since f.last last in
    let holds : NobodyElse p.given.flash since → HoldsImage p since (number_at 2 (payload_of x.given) 0) f.pieces x.left.flash =
    rw (same.0, same.1) at f.holds in
    record { pieces = f.pieces; accepts = rw (same.0, same.1) at f.accepts; holds = holds nobody }

-- One piece and two pieces one behind the other.
one_piece : (pieces : List (List ℕ)) (d : List ℕ) → length pieces ≡ 1 → d ≡ get_or pieces 0 [] → joined pieces ≡ d ++ []
one_piece [] d n e = absurd (omega (arith, n))
one_piece (p ∷ []) d n e = ap (λ (l : List ℕ). l ++ []) (sym e)
one_piece (p ∷ q ∷ ps) d n e = absurd (omega (arith, n))

two_pieces : (pieces : List (List ℕ)) (c d : List ℕ) → length pieces ≡ 2 → c ≡ get_or pieces 0 [] → d ≡ get_or pieces 1 []
    → joined pieces ≡ c ++ (d ++ [])
two_pieces [] c d n e f = absurd (omega (arith, n))
two_pieces (p ∷ []) c d n e f = absurd (omega (arith, n))
two_pieces (p ∷ q ∷ []) c d n e f = rw (e, f)
two_pieces (p ∷ q ∷ r ∷ ps) c d n e f = absurd (omega (arith, n))

-- ---- a transfer of eight bytes in two packets, by any step

-- The parameters, packet 1, and a last packet over some flash.
abbrev declared : Step → Exchange
declared step = exchange_by step (opened flash8) (given flash8 declares8)

abbrev first : Step → Exchange
first step = exchange_by step (declared step).left.session (given flash8 sends1)

abbrev second : Step → List ℕ → Offer → Exchange
second step lent o = exchange_by step (first step).left.session (given lent o)

-- All are accepted, and the notice comes.
abbrev Heard8 : Step → List ℕ → Offer → Type 0
Heard8 step lent o =
    (heard_of (declared step) ≡ parameters_reply largest_packet accepted ∷ [])
    × (heard_of (first step) ≡ packet_reply 1 accepted ∷ [])
    × (heard_of (second step lent o) ≡ packet_reply 2 accepted ∷ notice 0 ∷ [])

-- What is heard of a rule that comes to the phases of ours.
performed8 : (rule : Rule) (lent : List ℕ) (o : Offer)
    → let begins = rule Ready 2 declares8.payload flash8 in
    let goes_on = rule begun8.phase 5 sends1.payload flash8 in
    let ends = rule loading8.phase 5 o.payload lent in
    (heard_in (sent_by (performed (opened flash8) begins declares8.payload flash8 declares8.reply)) ≡ rules.frames_of begins.say)
    × (heard_in (sent_by (performed begun8 goes_on sends1.payload flash8 sends1.reply)) ≡ rules.frames_of goes_on.say)
    × (heard_in (sent_by (performed loading8 ends o.payload lent o.reply)) ≡ rules.frames_of ends.say)
performed8 rule lent o = (
  heard_performed (opened flash8) (rule Ready 2 declares8.payload flash8) declares8.payload flash8 declares8.reply,
  heard_performed begun8 (rule begun8.phase 5 sends1.payload flash8) sends1.payload flash8 sends1.reply,
  heard_performed loading8 (rule loading8.phase 5 o.payload lent) o.payload lent o.reply,
)

-- Those parameters are the last.
last8 : (step : Step) (lent : List ℕ) (o : Offer) → Heard8 step lent o
    → LastParameters (declared step ∷ first step ∷ second step lent o ∷ []) (declared step) (first step ∷ second step lent o ∷ [])
last8 step lent o h =
    last_first (declared step) (first step ∷ second step lent o ∷ []) (rw h.0 (Memᴰ.head refl))
    (no_parameters (first step) _ h.1 (refl, tt), (no_parameters (second step lent o) _ h.2 (refl, (refl, tt)), tt))

-- ---- nothing is written

abbrev idler : Step
idler = step_by writes_nothing

abbrev x0 : Exchange
x0 = exchange_by idler (opened flash) (given flash declares)

abbrev x1 : Exchange
x1 = exchange_by idler x0.left.session (given flash sends)

idler_heard : (heard_of x0 ≡ parameters_reply largest_packet accepted ∷ []) × (heard_of x1 ≡ packet_reply 1 accepted ∷ notice 0 ∷ [])
unfolding opening_of takes alive openable kind_of fits_flash count_of number_at little rules.decide_of rules.parameters_decision rules.kind_decision
    rules.packet_decision rules.well_formed rules.numbers_in rules.first_decision rules.cuts_into rules.phase_at rules.state_of
idler_heard = (
  heard_performed (opened flash) (writes_nothing Ready 2 declares.payload flash) declares.payload flash declares.reply,
  heard_performed begun4 (writes_nothing begun4.phase 5 sends.payload flash) sends.payload flash sends.reply,
)

pub never_holds_refuted : SuccessHoldsOf idler → ⊥
unfolding run_by after_by opening_of takes alive openable kind_of fits_flash count_of number_at little laid rules.decide_of rules.parameters_decision
    rules.kind_decision
never_holds_refuted promise =
    let last = last_first x0 (x1 ∷ []) (rw idler_heard.0 (Memᴰ.head refl)) (no_parameters x1 _ idler_heard.1 (refl, (refl, tt)), tt) in
    let t = told (x0 ∷ x1 ∷ []) x0 (x1 ∷ []) x1 last ((λ r. refl), tt)
    (promise (online flash) (given flash declares ∷ []) (given flash sends) (tiny_bytes.0, tt) tiny_bytes.1
    (rw idler_heard.1 (Memᴰ.tail (Memᴰ.head refl)))) in
    let own = t.holds.each x1 (Memᴰ.head refl) 1 (omega arith) (omega arith) (rw idler_heard.1 (Memᴰ.head refl)) in
    let same : flash ≡ laid flash 0 (image ++ []) = t.holds.image ∙ ap (laid flash 0) (one_piece t.pieces image t.accepts.count own) in
    let first : ◌≡◌ {A = ℕ} 9 1 = ap (λ (l : List ℕ). get_or l 0 0) same in
    omega (arith, first)

-- ---- packet 1 only is written

abbrev firster : Step
firster = step_by writes_first

firster_heard : Heard8 firster half sends2
unfolding opening_of takes alive openable cuts loading_arises kind_of fits_flash count_of size_at number_at little rules.decide_of rules.parameters_decision
    rules.kind_decision rules.packet_decision rules.well_formed rules.numbers_in rules.first_decision rules.loading_decision rules.is_packet
    rules.cuts_into rules.phase_at rules.state_of
firster_heard = performed8 writes_first half sends2

not_first : Told (declared firster) ((first firster) ∷ (second firster half sends2) ∷ []) (second firster half sends2) → ⊥
unfolding run_by after_by opening_of takes alive openable cuts loading_arises kind_of fits_flash count_of size_at number_at little laid rules.decide_of
    rules.parameters_decision rules.kind_decision rules.packet_decision rules.well_formed rules.numbers_in rules.first_decision
    rules.loading_decision rules.is_packet rules.cuts_into rules.phase_at
not_first t =
    let one = t.holds.each (first firster) (Memᴰ.head refl) 1 (omega arith) (omega arith) (rw firster_heard.1 (Memᴰ.head refl)) in
    let two = t.holds.each (second firster half sends2) (Memᴰ.tail (Memᴰ.head refl)) 2 (omega arith) (omega arith)
    (rw firster_heard.2 (Memᴰ.head refl)) in
    let same : half ≡ laid flash8 0 ((1 ∷ 2 ∷ 3 ∷ 4 ∷ []) ++ ((5 ∷ 6 ∷ 7 ∷ 8 ∷ []) ++ [])) =
    t.holds.image ∙ ap (laid flash8 0) (two_pieces t.pieces _ _ t.accepts.count one two) in
    let fifth : ◌≡◌ {A = ℕ} 9 5 = ap (λ (l : List ℕ). get_or l 4 0) same in
    omega (arith, fifth)

pub writes_first_refuted : SuccessHoldsOf firster → ⊥
unfolding run_by after_by opening_of takes alive openable cuts loading_arises kind_of fits_flash count_of size_at number_at little laid rules.decide_of
    rules.parameters_decision rules.kind_decision rules.packet_decision rules.well_formed rules.numbers_in rules.first_decision
    rules.loading_decision rules.is_packet rules.cuts_into rules.phase_at
writes_first_refuted promise =
    not_first
    (told ((declared firster) ∷ (first firster) ∷ (second firster half sends2) ∷ []) (declared firster) ((first firster) ∷ (second firster half sends2) ∷ []) (second firster half sends2) (last8 firster half sends2 firster_heard) ((λ r. refl), ((λ r. refl), tt))
    (promise (online flash8) (given flash8 declares8 ∷ given flash8 sends1 ∷ []) (given half sends2) (eight_bytes.0, (eight_bytes.1, tt))
    eight_bytes.2 (rw firster_heard.2 (Memᴰ.tail (Memᴰ.head refl)))))

-- ---- repeats are not compared

abbrev trusting : Step
trusting = step_by compares_nothing

-- The packet again, with other data.
abbrev other : Offer
other = record { event = Frame 5 10; payload = 1 ∷ 0 ∷ 1 ∷ 0 ∷ 4 ∷ 0 ∷ 5 ∷ 6 ∷ 7 ∷ 8 ∷ []; reply = zeros64 }

other_bytes : Bytes other.payload
unfolding spelled little
other_bytes = bytes_spelled 10 (little other.payload)

abbrev z0 : Exchange
z0 = exchange_by trusting (opened flash) (given flash declares)

abbrev z1 : Exchange
z1 = exchange_by trusting z0.left.session (given flash sends)

abbrev z2 : Exchange
z2 = exchange_by trusting z1.left.session (given image other)

trusting_heard : (heard_of z0 ≡ parameters_reply largest_packet accepted ∷ []) × (heard_of z1 ≡ packet_reply 1 accepted ∷ notice 0 ∷ [])
    × (heard_of z2 ≡ packet_reply 1 accepted ∷ notice 0 ∷ [])
unfolding opening_of takes alive openable cuts done_arises kind_of fits_flash count_of size_at number_at little rules.decide_of rules.parameters_decision
    rules.kind_decision rules.packet_decision rules.well_formed rules.numbers_in rules.first_decision rules.is_packet rules.cuts_into rules.phase_at
    rules.state_of
trusting_heard = (
  heard_performed (opened flash) (compares_nothing Ready 2 declares.payload flash) declares.payload flash declares.reply,
  heard_performed begun4 (compares_nothing begun4.phase 5 sends.payload flash) sends.payload flash sends.reply,
  heard_performed done4 (rules.acknowledge_of done4.phase 1 None) other.payload image other.reply,
)

not_trusting : Told z0 (z1 ∷ z2 ∷ []) z2 → ⊥
unfolding number_at little
not_trusting t =
    let one = t.holds.each z1 (Memᴰ.head refl) 1 (omega arith) (omega arith) (rw trusting_heard.1 (Memᴰ.head refl)) in
    let two = t.holds.each z2 (Memᴰ.tail (Memᴰ.head refl)) 1 (omega arith) (omega arith)
    (rw trusting_heard.2 (Memᴰ.head refl)) in
    let first : ◌≡◌ {A = ℕ} 1 5 = ap (λ (l : List ℕ). get_or l 0 0) (one ∙ sym two) in
    omega (arith, first)

pub compares_nothing_refuted : SuccessHoldsOf trusting → ⊥
unfolding run_by after_by opening_of takes alive openable cuts done_arises kind_of fits_flash count_of size_at number_at little laid rules.decide_of
    rules.parameters_decision rules.kind_decision rules.packet_decision rules.well_formed rules.numbers_in rules.first_decision rules.is_packet
    rules.cuts_into rules.phase_at
compares_nothing_refuted promise =
    let last = last_first z0 (z1 ∷ z2 ∷ []) (rw trusting_heard.0 (Memᴰ.head refl))
    (no_parameters z1 _ trusting_heard.1 (refl, (refl, tt)), (no_parameters z2 _ trusting_heard.2 (refl, (refl, tt)), tt)) in
    not_trusting
    (told (z0 ∷ z1 ∷ z2 ∷ []) z0 (z1 ∷ z2 ∷ []) z2 last ((λ r. refl), ((λ r. refl), tt))
    (promise (online flash) (given flash declares ∷ given flash sends ∷ []) (given image other) (tiny_bytes.0, (tiny_bytes.1, tt))
    other_bytes (rw trusting_heard.2 (Memᴰ.tail (Memᴰ.head refl)))))

-- ---- sizes are not compared

abbrev loose : Step
loose = step_by compares_no_size

-- Packet 2 of 2 with three bytes, and a flash that somebody else wrote before it.
abbrev shorter : Offer
shorter = record { event = Frame 5 9; payload = 2 ∷ 0 ∷ 2 ∷ 0 ∷ 3 ∷ 0 ∷ 5 ∷ 6 ∷ 7 ∷ []; reply = zeros64 }

shorter_bytes : Bytes shorter.payload
unfolding spelled little
shorter_bytes = bytes_spelled 9 (little shorter.payload)

loose_heard : Heard8 loose flash8 shorter
unfolding opening_of takes alive openable cuts loading_arises kind_of fits_flash count_of size_at number_at little rules.decide_of rules.parameters_decision
    rules.kind_decision rules.packet_decision rules.well_formed rules.numbers_in rules.first_decision rules.loading_decision rules.is_packet
    rules.cuts_into rules.phase_at rules.state_of
loose_heard = performed8 compares_no_size flash8 shorter

-- Both are first acknowledgements.
first_one : FirstAcknowledged 1 ((first loose) ∷ (second loose flash8 shorter) ∷ []) (first loose)
first_one = record {
  before = [];
  after = (second loose flash8 shorter) ∷ [];
  split = refl;
  says = rw loose_heard.1 (Memᴰ.head refl);
  none = λ a. Memᴰ.not-nil a.there;
}

first_two : FirstAcknowledged 2 ((first loose) ∷ (second loose flash8 shorter) ∷ []) (second loose flash8 shorter)
unfolding spelled
first_two = record {
  before = (first loose) ∷ [];
  after = [];
  split = refl;
  says = rw loose_heard.2 (Memᴰ.head refl);
  none = λ a.
      let says : Says (first loose) (packet_reply 2 accepted) = rw (Memᴰ.eq_of_singleton a.there) at a.says in
      let same : packet_reply 2 accepted ≡ packet_reply 1 accepted = Memᴰ.eq_of_singleton (rw loose_heard.1 at says) in
      let first : ◌≡◌ {A = ℕ} 2 1 = ap (λ (f : wire.Frame). get_or f.payload 0 0) same in
      omega (arith, first);
}

-- Together they are not as long as declared.
not_loose : (pieces : List (List ℕ)) → AcceptedData (declared loose) ((first loose) ∷ (second loose flash8 shorter) ∷ []) 2 pieces → ⊥
unfolding number_at little
not_loose pieces a =
    let joins = two_pieces pieces (1 ∷ 2 ∷ 3 ∷ 4 ∷ []) (5 ∷ 6 ∷ 7 ∷ []) a.count (a.first (first loose) 1 (omega arith) (omega arith) first_one)
    (a.first (second loose flash8 shorter) 2 (omega arith) (omega arith) first_two) in
    let seven : ◌≡◌ {A = ℕ} 7 8 = sym (ap length joins) ∙ a.whole in
    omega (arith, seven)

pub compares_no_size_refuted : SuccessHoldsOf loose → ⊥
unfolding run_by after_by opening_of takes alive openable cuts loading_arises kind_of fits_flash count_of size_at number_at little rules.decide_of
    rules.parameters_decision rules.kind_decision rules.packet_decision rules.well_formed rules.numbers_in rules.first_decision
    rules.loading_decision rules.is_packet rules.cuts_into rules.phase_at
compares_no_size_refuted promise =
    let f = promise (online flash8) (given flash8 declares8 ∷ given flash8 sends1 ∷ []) (given flash8 shorter)
    (eight_bytes.0, (eight_bytes.1, tt)) shorter_bytes (rw loose_heard.2 (Memᴰ.tail (Memᴰ.head refl))) in
    let same = last_only ((declared loose) ∷ (first loose) ∷ (second loose flash8 shorter) ∷ []) f.parameters f.since (declared loose) ((first loose) ∷ (second loose flash8 shorter) ∷ []) f.last (last8 loose flash8 shorter loose_heard) in
    not_loose f.pieces (rw (same.0, same.1) at f.accepts)

-- ---- a byte outside the declared range

-- A step that accepts parameters and then changes a byte that they do not declare breaks OnlyInRange.
outside : (step : Step) (lent : List ℕ) (d p : Offer) (i : ℕ) → Bytes d.payload → Bytes p.payload
    → let x = exchange_by step (opened lent) (given lent d) in
    heard_of x ≡ parameters_reply largest_packet accepted ∷ []
    → (get_or (exchange_by step x.left.session (given lent p)).left.flash i 0 ≡ get_or lent i 0 → ⊥)
    → (base_in x ≤ i → i < base_in x + length_in x → ⊥) → OnlyInRangeOf step → ⊥
unfolding run_by after_by
outside step lent d p i bd bp heard differs away promise =
    let x = exchange_by step (opened lent) (given lent d) in
    let there = (promise (online lent) (given lent d ∷ []) (given lent p) (bd, tt) bp).1 i differs in
    let last = last_first x [] (rw heard (Memᴰ.head refl)) tt in
    let same = (last_only (x ∷ []) there.parameters there.since x [] there.last last).0 in
    away (rw same at there.from_base) (rw same at there.to_end)

-- ---- one place further on

abbrev shifting : Step
shifting = step_by writes_one_on

-- The transfer of four bytes in a flash of eight.
abbrev w0 : Exchange
w0 = exchange_by shifting (opened flash8) (given flash8 declares)

shifting_heard : heard_of w0 ≡ parameters_reply largest_packet accepted ∷ []
unfolding opening_of takes alive openable kind_of fits_flash number_at little rules.decide_of rules.parameters_decision rules.kind_decision
shifting_heard = heard_performed (opened flash8) (writes_one_on Ready 2 declares.payload flash8) declares.payload flash8 declares.reply

pub writes_one_on_refuted : OnlyInRangeOf shifting → ⊥
unfolding run_by after_by opening_of takes alive openable kind_of fits_flash count_of number_at little laid rules.decide_of rules.parameters_decision
    rules.kind_decision rules.packet_decision rules.well_formed rules.numbers_in rules.first_decision rules.cuts_into rules.phase_at
writes_one_on_refuted =
    outside shifting flash8 declares sends 4 tiny_bytes.0 tiny_bytes.1 shifting_heard (λ (e : ◌≡◌ {A = ℕ} 4 9). omega (arith, e))
    (λ _ (h : 4 < 4). omega (arith, h))

-- ---- a repeat is written behind the last packet

abbrev repeating : Step
repeating = step_by writes_repeats

abbrev v0 : Exchange
v0 = exchange_by repeating (opened flash8) (given flash8 declares)

abbrev v1 : Exchange
v1 = exchange_by repeating v0.left.session (given flash8 sends)

-- The transfer of four bytes has begun in a flash of eight.
abbrev wide : Session
wide = session 8 0 begun4.phase

repeating_heard : (heard_of v0 ≡ parameters_reply largest_packet accepted ∷ []) × (heard_of v1 ≡ packet_reply 1 accepted ∷ notice 0 ∷ [])
unfolding opening_of takes alive openable kind_of fits_flash count_of number_at little rules.decide_of rules.parameters_decision rules.kind_decision
    rules.packet_decision rules.well_formed rules.numbers_in rules.first_decision rules.cuts_into rules.phase_at rules.state_of
repeating_heard = (
  heard_performed (opened flash8) (writes_repeats Ready 2 declares.payload flash8) declares.payload flash8 declares.reply,
  heard_performed wide (writes_repeats wide.phase 5 sends.payload flash8) sends.payload flash8 sends.reply,
)

pub writes_repeats_refuted : OnlyInRangeOf repeating → ⊥
unfolding run_by after_by opening_of takes alive openable cuts done_arises kind_of fits_flash count_of size_at number_at little part_of same_bytes laid
    rules.decide_of rules.parameters_decision rules.kind_decision rules.packet_decision rules.well_formed rules.numbers_in rules.first_decision
    rules.done_decision rules.repeat_decision rules.is_repeat rules.is_packet rules.cuts_into rules.phase_at
writes_repeats_refuted promise =
    let both = promise (online flash8) (given flash8 declares ∷ given flash8 sends ∷ []) (given half sends) (tiny_bytes.0, (tiny_bytes.1, tt))
    tiny_bytes.1 in
    let there = both.1 4 (λ (e : ◌≡◌ {A = ℕ} 1 9). omega (arith, e)) in
    let last = last_first v0 (v1 ∷ []) (rw repeating_heard.0 (Memᴰ.head refl))
    (no_parameters v1 _ repeating_heard.1 (refl, (refl, tt)), tt) in
    let same = (last_only (v0 ∷ v1 ∷ []) there.parameters there.since v0 (v1 ∷ []) there.last last).0 in
    let less : 4 < 4 = rw same at there.to_end in
    omega (arith, less)

-- ---- type 1 is written at address 0

abbrev astray : Step
astray = step_by writes_at_address

-- A flash that ends with the first byte of type 1, its parameters for one byte, and that byte.
abbrev flash1 : List ℕ
flash1 = replicate 0x8001 9

abbrev declares1 : Offer
declares1 = record { event = Frame 2 10; payload = 1 ∷ 0 ∷ 1 ∷ 0 ∷ 0 ∷ 0 ∷ 0 ∷ 0 ∷ 0 ∷ 0 ∷ []; reply = zeros64 }

abbrev byte1 : Offer
byte1 = record { event = Frame 5 7; payload = 1 ∷ 0 ∷ 1 ∷ 0 ∷ 1 ∷ 0 ∷ 5 ∷ []; reply = zeros64 }

astray_bytes : Bytes declares1.payload × Bytes byte1.payload
unfolding spelled little
astray_bytes = (bytes_spelled 10 (little declares1.payload), bytes_spelled 7 (little byte1.payload))

abbrev u0 : Exchange
u0 = exchange_by astray (opened flash1) (given flash1 declares1)

astray_heard : heard_of u0 ≡ parameters_reply largest_packet accepted ∷ []
unfolding opening_of takes alive openable kind_of fits_flash number_at little rules.decide_of rules.parameters_decision rules.kind_decision
astray_heard = heard_performed (opened flash1) (writes_at_address Ready 2 declares1.payload flash1) declares1.payload flash1 declares1.reply

pub writes_at_address_refuted : OnlyInRangeOf astray → ⊥
unfolding run_by after_by opening_of takes alive openable kind_of fits_flash count_of number_at little laid rules.decide_of rules.parameters_decision
    rules.kind_decision rules.packet_decision rules.well_formed rules.numbers_in rules.first_decision rules.cuts_into rules.phase_at
writes_at_address_refuted =
    outside astray flash1 declares1 byte1 0 astray_bytes.0 astray_bytes.1 astray_heard (λ (e : ◌≡◌ {A = ℕ} 5 9). omega (arith, e))
    (λ (h : 0x8000 ≤ 0) _. omega (arith, h))
