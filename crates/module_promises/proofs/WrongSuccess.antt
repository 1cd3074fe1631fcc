-- Wrong steps that break M1: one says success on the last packet but one, one does not compare Total, one skips packets, one refuses
-- repeats when done, one while loading, one refuses all, one says no notice, one drops the transfer at refused parameters.
use Rattle.std.specs.Prelude.{ℕ, ◌≡◌, refl, get_or, None}
use mathlib.Core.List.Memᴰ
use mathlib.Core.List.{List, [], ◌∷◌, Memᴰ}
use Rattle.std.proofs.Common.{ap, arith}
use Rattle.octets.specs.Octets.{Bytes, number_at, little, spelled, part_of, same_bytes, laid}
use Rattle.octets.proofs.Lists.{bytes_spelled}
use Rattle.kinds.specs.Kinds.{kind_of, fits_flash}
use Rattle.kinds.specs.declared.Kind.TheVariants.{Upgrade}
use Rattle.pieces.specs.Pieces.{count_of, size_at}
use Rattle.wire.specs.Frame as wire
use Rattle.commands.specs.Commands.{notice_command, accepted, wrong_second, not_understood, largest_packet, parameters_reply, packet_reply, notice}
use Rattle.module_model.specs.Phases.{openable, alive, cuts, loading_arises, done_arises}
use Rattle.module_model.specs.Rules.{decide_of}
use Rattle.module_model.proofs.Replies.{Quiet, plain_quiet, packet_said}
use Rattle.module_model.specs.Rules as rules
use Rattle.module.specs.Session.{opening_of, takes}
use Rattle.module_promises.specs.Runs.{Step, Exchange, Offer, given, exchange_by, after_by, run_by, Says}
use Rattle.module_promises.proofs.RunsLaws.{heard_performed}
use Rattle.module_promises.specs.Promises.{online, opened, SuccessExactlyOf, Expected, ExpectedSucceedsOf}
use Rattle.module_promises.specs.Promises.{Acknowledged, PacketFrame, Repeats, RepeatSucceedsOf}
use Rattle.module_promises.proofs.Tiny.{flash, image, declares, sends, tiny_bytes, flash8, declares8, sends1, eight_bytes, heard_of}
use Rattle.module_promises.proofs.Tiny.{sends2, half, zeros64, begun4, done4, begun8, loading8, has_none, no_parameters, last_first}
use Rattle.module_promises.proofs.When.{last_only}
use Rattle.module_promises.proofs.WrongRules.{step_by, says_early, compares_no_total, skips_packets, refuses_repeats, refuses_all, says_no_notice}
use Rattle.module_promises.proofs.WrongRules.{refuses_again, drops_transfer}
use Rattle.module_model.specs.declared.phases.Phase.{Phase}
use Rattle.module_model.specs.declared.phases.Phase.TheVariants.{Ready, Done}
use Rattle.module_model.specs.declared.events.Event.TheVariants.{Frame}
use Rattle.module_model.specs.declared.rules.Say.TheVariants.{Parameters, Packet}

-- ---- success on the last but one

-- After the parameters for 8 bytes, packet 1 of 2.
abbrev early : Exchange
early = exchange_by (step_by says_early) (after_by (step_by says_early) (opened flash8) (given flash8 declares8 ∷ [])) (given flash8 sends1)

early_heard : heard_of early ≡ packet_reply 1 accepted ∷ notice 0 ∷ []
unfolding opening_of takes alive openable after_by kind_of fits_flash count_of number_at little rules.decide_of rules.parameters_decision rules.kind_decision
    rules.packet_decision rules.well_formed rules.numbers_in rules.first_decision rules.cuts_into rules.phase_at
early_heard = heard_performed begun8 (says_early begun8.phase 5 sends1.payload flash8) sends1.payload flash8 sends1.reply

pub says_early_refuted : SuccessExactlyOf (step_by says_early) → ⊥
unfolding number_at little
says_early_refuted promise =
    let both = promise (online flash8) (given flash8 declares8 ∷ []) (given flash8 sends1) (eight_bytes.0, tt) eight_bytes.1 in
    let s = both.0 (rw early_heard (Memᴰ.tail (Memᴰ.head refl))) in
    omega (arith, s.last.total_field, s.last.number_field)

-- ---- Total not compared

abbrev uncounted : Step
uncounted = step_by compares_no_total

-- Packet 2 of 2 with Total 5.
abbrev five : Offer
five = record { event = Frame 5 10; payload = 5 ∷ 0 ∷ 2 ∷ 0 ∷ 4 ∷ 0 ∷ 5 ∷ 6 ∷ 7 ∷ 8 ∷ []; reply = zeros64 }

five_bytes : Bytes five.payload
unfolding spelled little
five_bytes = bytes_spelled 10 (little five.payload)

abbrev fifth : Exchange
fifth = exchange_by uncounted (after_by uncounted (opened flash8) (given flash8 declares8 ∷ given flash8 sends1 ∷ [])) (given flash8 five)

fifth_heard : heard_of fifth ≡ packet_reply 2 accepted ∷ notice 0 ∷ []
unfolding opening_of takes alive openable cuts loading_arises after_by kind_of fits_flash count_of size_at number_at little rules.decide_of
    rules.parameters_decision rules.kind_decision rules.packet_decision rules.well_formed rules.numbers_in rules.first_decision
    rules.loading_decision rules.is_packet rules.cuts_into rules.phase_at rules.state_of
fifth_heard = heard_performed loading8 (compares_no_total loading8.phase 5 five.payload flash8) five.payload flash8 five.reply

pub compares_no_total_refuted : SuccessExactlyOf uncounted → ⊥
unfolding number_at little
compares_no_total_refuted promise =
    let both = promise (online flash8) (given flash8 declares8 ∷ given flash8 sends1 ∷ []) (given flash8 five)
    (eight_bytes.0, (eight_bytes.1, tt)) five_bytes in
    let s = both.0 (rw fifth_heard (Memᴰ.tail (Memᴰ.head refl))) in
    omega (arith, s.last.total_field, s.last.number_field)

-- ---- packets skipped

abbrev skipping : Step
skipping = step_by skips_packets

-- Packet 2 of 2 at once.
abbrev asked : Exchange
asked = exchange_by skipping (opened flash8) (given flash8 declares8)

abbrev skipped : Exchange
skipped = exchange_by skipping asked.left.session (given flash8 sends2)

abbrev done8 : Phase
done8 = Done (record { transfer = record { kind = Upgrade; extent = 8 }; size = 4 }) 8

skipping_heard : (heard_of asked ≡ parameters_reply largest_packet accepted ∷ []) × (heard_of skipped ≡ packet_reply 2 accepted ∷ notice 0 ∷ [])
unfolding opening_of takes alive openable kind_of fits_flash number_at little rules.decide_of rules.parameters_decision rules.kind_decision
    rules.numbers_in rules.state_of
skipping_heard = (
  heard_performed (opened flash8) (decide_of Ready 2 declares8.payload flash8) declares8.payload flash8 declares8.reply,
  heard_performed begun8 (rules.acknowledge_of done8 2 None) sends2.payload flash8 sends2.reply,
)

pub skips_packets_refuted : SuccessExactlyOf skipping → ⊥
unfolding run_by after_by opening_of takes alive openable kind_of fits_flash number_at little rules.decide_of rules.parameters_decision
    rules.kind_decision rules.state_of
skips_packets_refuted promise =
    let both = promise (online flash8) (given flash8 declares8 ∷ []) (given flash8 sends2) (eight_bytes.0, tt) eight_bytes.2 in
    let s = both.0 (rw skipping_heard.1 (Memᴰ.tail (Memᴰ.head refl))) in
    let last = last_first asked (skipped ∷ []) (rw skipping_heard.0 (Memᴰ.head refl))
    (no_parameters skipped _ skipping_heard.1 (refl, (refl, tt)), tt) in
    let since = (last_only (asked ∷ skipped ∷ []) s.all.parameters s.all.since asked (skipped ∷ []) s.all.last last).1 in
    let one = s.all.each 1 (omega arith) (omega (arith, s.last.total_field)) in
    let here = Memᴰ.eq_of_singleton (rw since at one.there) in
    let says : Says skipped (packet_reply 1 accepted) = rw here at one.says in
    omega (arith, (packet_said done8 2 (omega arith)).only 1 (omega arith) (rw skipping_heard.1 at says))

-- ---- repeats refused when done

abbrev refusing : Step
refusing = step_by refuses_repeats

-- The parameters for 4 bytes, the packet, and the packet again over the image.
abbrev declared : Exchange
declared = exchange_by refusing (opened flash) (given flash declares)

abbrev former : Exchange
former = exchange_by refusing declared.left.session (given flash sends)

abbrev again : Exchange
again = exchange_by refusing former.left.session (given image sends)

refusing_heard : (heard_of declared ≡ parameters_reply largest_packet accepted ∷ [])
    × (heard_of former ≡ packet_reply 1 accepted ∷ notice 0 ∷ [])
    × (heard_of again ≡ packet_reply 0 not_understood ∷ [])
unfolding opening_of takes alive openable cuts done_arises kind_of fits_flash count_of number_at little laid rules.decide_of rules.parameters_decision
    rules.kind_decision rules.packet_decision rules.well_formed rules.numbers_in rules.first_decision rules.cuts_into rules.phase_at rules.state_of
refusing_heard = (
  heard_performed (opened flash) (decide_of Ready 2 declares.payload flash) declares.payload flash declares.reply,
  heard_performed begun4 (decide_of begun4.phase 5 sends.payload flash) sends.payload flash sends.reply,
  heard_performed done4 (rules.not_taken done4.phase) sends.payload image sends.reply,
)

-- It is the repeat of packet 1.
repeats : Repeats (declared ∷ former ∷ []) (given image sends) 4 1
unfolding number_at little kind_of part_of
repeats = record {
  parameters = declared;
  since = former ∷ [];
  last =
      last_first declared (former ∷ []) (rw refusing_heard.0 (Memᴰ.head refl))
      (no_parameters former _ refusing_heard.1 (refl, (refl, tt)), tt);
  some = omega arith;
  former = former;
  there = Memᴰ.head refl;
  acknowledged = rw refusing_heard.1 (Memᴰ.head refl);
  no_later = λ i more most. absurd (omega (arith, more, most));
  size_set = λ x m says. rw (Memᴰ.eq_of_singleton m);
  count = 10;
  packet = refl;
  same = refl;
  number_field = refl;
  stands = refl;
}

pub refuses_repeats_refuted : RepeatSucceedsOf refusing → ⊥
unfolding run_by after_by opening_of takes alive openable cuts done_arises kind_of fits_flash count_of number_at little rules.decide_of
    rules.parameters_decision rules.kind_decision rules.packet_decision rules.well_formed rules.numbers_in rules.first_decision rules.cuts_into
    rules.phase_at
refuses_repeats_refuted promise =
    let both = promise (online flash) (given flash declares ∷ given flash sends ∷ []) (given image sends) (tiny_bytes.0, (tiny_bytes.1, tt))
    tiny_bytes.1 4 1 repeats refl refl in
    (plain_quiet (Packet 0 not_understood) (refl, refl)).no_packet 1 (rw refusing_heard.2 at both.0)

-- ---- repeats refused while loading

abbrev stubborn : Step
stubborn = step_by refuses_again

-- The parameters for 8 bytes, packet 1 of 2, and that packet again.
abbrev b0 : Exchange
b0 = exchange_by stubborn (opened flash8) (given flash8 declares8)

abbrev b1 : Exchange
b1 = exchange_by stubborn b0.left.session (given flash8 sends1)

abbrev b2 : Exchange
b2 = exchange_by stubborn b1.left.session (given half sends1)

stubborn_heard : (heard_of b0 ≡ parameters_reply largest_packet accepted ∷ []) × (heard_of b1 ≡ packet_reply 1 accepted ∷ [])
    × (heard_of b2 ≡ packet_reply 0 not_understood ∷ [])
unfolding opening_of takes alive openable cuts loading_arises kind_of fits_flash count_of size_at number_at little part_of same_bytes rules.decide_of
    rules.parameters_decision rules.kind_decision rules.packet_decision rules.well_formed rules.numbers_in rules.first_decision
    rules.loading_decision rules.repeat_decision rules.is_packet rules.is_repeat rules.cuts_into rules.phase_at
stubborn_heard = (
  heard_performed (opened flash8) (decide_of Ready 2 declares8.payload flash8) declares8.payload flash8 declares8.reply,
  heard_performed begun8 (decide_of begun8.phase 5 sends1.payload flash8) sends1.payload flash8 sends1.reply,
  heard_performed loading8 (rules.not_taken loading8.phase) sends1.payload half sends1.reply,
)

none_behind : Acknowledged 2 (b1 ∷ []) → ⊥
unfolding spelled
none_behind a =
    let says : Says b1 (packet_reply 2 accepted) = rw (Memᴰ.eq_of_singleton a.there) at a.says in
    let same : packet_reply 2 accepted ≡ packet_reply 1 accepted = Memᴰ.eq_of_singleton (rw stubborn_heard.1 at says) in
    let first : ◌≡◌ {A = ℕ} 2 1 = ap (λ (f : wire.Frame). get_or f.payload 0 0) same in
    omega (arith, first)

repeats_first : Repeats (b0 ∷ b1 ∷ []) (given half sends1) 4 1
unfolding number_at little kind_of part_of
repeats_first = record {
  parameters = b0;
  since = b1 ∷ [];
  last =
      last_first b0 (b1 ∷ []) (rw stubborn_heard.0 (Memᴰ.head refl)) (no_parameters b1 _ stubborn_heard.1 (refl, tt), tt);
  some = omega arith;
  former = b1;
  there = Memᴰ.head refl;
  acknowledged = rw stubborn_heard.1 (Memᴰ.head refl);
  no_later = λ i more most a. let is : i ≡ 2 = omega (arith, more, most) in none_behind (rw is at a);
  size_set = λ x m says. rw (Memᴰ.eq_of_singleton m);
  count = 10;
  packet = refl;
  same = refl;
  number_field = refl;
  stands = refl;
}

pub refuses_again_refuted : RepeatSucceedsOf stubborn → ⊥
unfolding run_by after_by opening_of takes alive openable cuts loading_arises kind_of fits_flash count_of size_at number_at little part_of same_bytes
    rules.decide_of rules.parameters_decision rules.kind_decision rules.packet_decision rules.well_formed rules.numbers_in rules.first_decision
    rules.loading_decision rules.repeat_decision rules.is_packet rules.is_repeat rules.cuts_into rules.phase_at
refuses_again_refuted promise =
    let both = promise (online flash8) (given flash8 declares8 ∷ given flash8 sends1 ∷ []) (given half sends1)
    (eight_bytes.0, (eight_bytes.1, tt)) eight_bytes.1 4 1 repeats_first refl refl in
    (plain_quiet (Packet 0 not_understood) (refl, refl)).no_packet 1 (rw stubborn_heard.2 at both.0)

-- ---- all packets refused

abbrev refuser : Step
refuser = step_by refuses_all

abbrev started : Exchange
started = exchange_by refuser (opened flash) (given flash declares)

abbrev refused : Exchange
refused = exchange_by refuser started.left.session (given flash sends)

refuser_heard : (heard_of started ≡ parameters_reply largest_packet accepted ∷ []) × (heard_of refused ≡ packet_reply 0 not_understood ∷ [])
unfolding opening_of takes alive openable kind_of fits_flash number_at little rules.decide_of rules.parameters_decision rules.kind_decision
refuser_heard = (
  heard_performed (opened flash) (decide_of Ready 2 declares.payload flash) declares.payload flash declares.reply,
  heard_performed begun4 (rules.not_taken begun4.phase) sends.payload flash sends.reply,
)

-- The packet is a frame with Total 1, number 1 and size 4.
one_frame : PacketFrame (given flash sends) 1 1 4
unfolding number_at little
one_frame = record { count = 10; packet = refl; total_field = refl; number_field = refl; size_field = refl; long = refl }

-- Packet 1 of 1 is expected while it has not been acknowledged.
one_expected : (step : Step) (since : List Exchange)
    → ((x : Exchange) → Memᴰ x since → Says x (packet_reply 1 accepted) → ⊥)
    → Expected (exchange_by step (opened flash) (given flash declares)) since 4 1
unfolding count_of number_at little
one_expected step since none = record {
  size_some = omega arith;
  size_most = omega arith;
  size_short = omega arith;
  total_most = omega arith;
  some = omega arith;
  most = omega arith;
  size_set = λ x m says. absurd (none x m says);
  before = λ i some less. absurd (omega (arith, some, less));
  not_yet = λ a. none a.exchange a.there a.says;
}

pub refuses_all_refuted : ExpectedSucceedsOf refuser → ⊥
unfolding run_by after_by opening_of takes alive openable kind_of fits_flash count_of size_at number_at little rules.decide_of rules.parameters_decision
    rules.kind_decision
refuses_all_refuted promise =
    let last = last_first started [] (rw refuser_heard.0 (Memᴰ.head refl)) tt in
    let both = promise (online flash) (given flash declares ∷ []) (given flash sends) (tiny_bytes.0, tt) tiny_bytes.1 started [] last 4 1
    (one_expected refuser [] (λ x m. absurd (Memᴰ.not-nil m))) one_frame refl refl in
    (plain_quiet (Packet 0 not_understood) (refl, refl)).no_packet 1 (rw refuser_heard.1 at both.0)

-- ---- no notice

abbrev silent : Step
silent = step_by says_no_notice

abbrev begins : Exchange
begins = exchange_by silent (opened flash) (given flash declares)

abbrev ends : Exchange
ends = exchange_by silent begins.left.session (given flash sends)

silent_heard : (heard_of begins ≡ parameters_reply largest_packet accepted ∷ []) × (heard_of ends ≡ packet_reply 1 accepted ∷ [])
unfolding opening_of takes alive openable kind_of fits_flash count_of number_at little rules.decide_of rules.parameters_decision rules.kind_decision
    rules.packet_decision rules.well_formed rules.numbers_in rules.first_decision rules.cuts_into rules.phase_at
silent_heard = (
  heard_performed (opened flash) (decide_of Ready 2 declares.payload flash) declares.payload flash declares.reply,
  heard_performed begun4 (says_no_notice begun4.phase 5 sends.payload flash) sends.payload flash sends.reply,
)

pub says_no_notice_refuted : ExpectedSucceedsOf silent → ⊥
unfolding run_by after_by opening_of takes alive openable kind_of fits_flash count_of size_at number_at little rules.decide_of rules.parameters_decision
    rules.kind_decision rules.packet_decision rules.well_formed rules.numbers_in rules.first_decision rules.cuts_into rules.phase_at
says_no_notice_refuted promise =
    let last = last_first begins [] (rw silent_heard.0 (Memᴰ.head refl)) tt in
    let both = promise (online flash) (given flash declares ∷ []) (given flash sends) (tiny_bytes.0, tt) tiny_bytes.1 begins [] last 4 1
    (one_expected silent [] (λ x m. absurd (Memᴰ.not-nil m))) one_frame
    refl refl in
    has_none notice_command (packet_reply 1 accepted ∷ []) (notice 0) (refl, tt) (rw silent_heard.1 at (both.1 refl)) refl

-- ---- refused parameters leave no transfer

abbrev dropping : Step
dropping = step_by drops_transfer

-- Parameters for 9 bytes do not fit the flash.
abbrev too_long : Offer
too_long = record { event = Frame 2 10; payload = 2 ∷ 0 ∷ 9 ∷ 0 ∷ 0 ∷ 0 ∷ 0 ∷ 0 ∷ 0 ∷ 0 ∷ []; reply = zeros64 }

long_bytes : Bytes too_long.payload
unfolding spelled little
long_bytes = bytes_spelled 10 (little too_long.payload)

abbrev d0 : Exchange
d0 = exchange_by dropping (opened flash) (given flash declares)

abbrev d1 : Exchange
d1 = exchange_by dropping d0.left.session (given flash too_long)

abbrev d2 : Exchange
d2 = exchange_by dropping d1.left.session (given flash sends)

dropping_heard : (heard_of d0 ≡ parameters_reply largest_packet accepted ∷ []) × (heard_of d1 ≡ parameters_reply largest_packet wrong_second ∷ [])
    × (heard_of d2 ≡ packet_reply 0 not_understood ∷ [])
unfolding opening_of takes alive openable kind_of fits_flash number_at little rules.decide_of rules.parameters_decision rules.kind_decision
    rules.packet_decision rules.well_formed rules.numbers_in
dropping_heard = (
  heard_performed (opened flash) (decide_of Ready 2 declares.payload flash) declares.payload flash declares.reply,
  heard_performed begun4 (drops_transfer begun4.phase 2 too_long.payload flash) too_long.payload flash too_long.reply,
  heard_performed (opened flash) (rules.not_taken Ready) sends.payload flash sends.reply,
)

-- They accept nothing, so packet 1 of 1 is still expected.
refused_quiet : Quiet (heard_of d1)
refused_quiet = rw dropping_heard.1 (plain_quiet (Parameters wrong_second) (omega arith))

still_expected : Expected d0 (d1 ∷ []) 4 1
still_expected =
    one_expected dropping (d1 ∷ []) (λ x m says. refused_quiet.no_packet 1 (rw (Memᴰ.eq_of_singleton m) at says))

pub drops_transfer_refuted : ExpectedSucceedsOf dropping → ⊥
unfolding run_by after_by opening_of takes alive openable kind_of fits_flash count_of size_at number_at little rules.decide_of rules.parameters_decision
    rules.kind_decision rules.packet_decision rules.well_formed rules.numbers_in
drops_transfer_refuted promise =
    let last = last_first d0 (d1 ∷ []) (rw dropping_heard.0 (Memᴰ.head refl)) (refused_quiet.no_parameters largest_packet, tt) in
    let both = promise (online flash) (given flash declares ∷ given flash too_long ∷ []) (given flash sends) (tiny_bytes.0, (long_bytes, tt))
    tiny_bytes.1 d0 (d1 ∷ []) last 4 1 still_expected one_frame refl refl in
    (plain_quiet (Packet 0 not_understood) (refl, refl)).no_packet 1 (rw dropping_heard.2 at both.0)
