-- Our step with another rule for frames, and such rules, each a small variation of ours; what is heard of such a step.
use Rattle.std.specs.Prelude.{ℕ, ◌+◌, ◌-◌, cond, ◌&&◌, List, ◌≡◌, refl, eqb, ltb, length, take, None, Option, Some}
use Rattle.refusals.specs.Refusals.{no_room, wrong_length}
use Rattle.kinds.specs.Kinds.{base_of, token_of}
use Rattle.pieces.specs.Pieces.{size_at}
use Rattle.commands.specs.Commands.{packet_command, accepted}
use Rattle.module_model.specs.Phases.{total_of}
use Rattle.module_model.specs.Rules.{not_taken, data_in, numbers_in, place_of, is_packet, acknowledge_of, loading_decision, decide_of}
use Rattle.module.specs.Session.{stepped, takes}
use Rattle.module.specs.Step.{Left, left, performed, time_step, smallest_reply, frame_step, step_of}
use Rattle.module_promises.specs.Runs.{Step}
use Rattle.module_model.specs.declared.phases.Phase.{Phase}
use Rattle.module_model.specs.declared.phases.Phase.TheVariants.{Closed, Ready, Begun, Loading, Done}
use Rattle.module_model.specs.declared.events.Event.{Event}
use Rattle.module_model.specs.declared.events.Event.TheVariants.{Frame, Elapsed}
use Rattle.module_model.specs.declared.events.Answer.TheVariants.{Refused}
use Rattle.module_model.specs.declared.events.Answer.TheVariants as answer
use Rattle.module_model.specs.declared.rules.Say.{Say}
use Rattle.module_model.specs.declared.rules.Say.TheVariants.{Nothing, Rate, Parameters, Packet, Last, Restart}
use Rattle.module_model.specs.declared.rules.Numbers.{Numbers}
use Rattle.module_model.specs.declared.rules.Decision.{Decision}
use Rattle.module.specs.declared.session.Session.{Session}

-- ---- a step by a rule

-- What a frame given to an open session does, by its phase, the command, the payload and the flash.
abbrev pub Rule : Type 0
Rule = Phase → ℕ → List ℕ → List ℕ → Decision

abbrev event_by : Rule → Step
event_by rule s (Frame command count) payload flash reply =
    performed s (rule s.phase command (take count payload) flash) (take count payload) flash reply
event_by rule s (Elapsed ms) payload flash reply = left (time_step s ms) flash reply

-- Our step with this rule.
abbrev pub step_by : Rule → Step
step_by rule s e payload flash reply =
    cond (ltb (length reply) smallest_reply) (left (stepped s (Refused no_room)) flash reply)
    (cond (eqb (length flash) s.flash)
    (cond (takes s) (event_by rule s e payload flash reply) (left (stepped s answer.Nothing) flash reply))
    (left (stepped s (Refused wrong_length)) flash reply))

-- With our rule it is our step.
pub step_ours : (s : Session) (e : Event) (payload flash reply : List ℕ)
    → step_by decide_of s e payload flash reply ≡ step_of s e payload flash reply
unfolding step_of frame_step
step_ours s (Frame command count) payload flash reply = refl
step_ours s (Elapsed ms) payload flash reply = refl

-- ---- wrong rules

-- Every packet is refused.
abbrev pub refuses_all : Rule
refuses_all phase command payload flash = cond (eqb command packet_command) (not_taken phase) (decide_of phase command payload flash)

-- When done, every packet is refused, repeats too.
abbrev done_refuses : Phase → ℕ → Decision → Decision
done_refuses Closed command d = d
done_refuses Ready command d = d
done_refuses (Begun t) command d = d
done_refuses (Loading p number written) command d = d
done_refuses (Done p written) command d = cond (eqb command packet_command) (not_taken (Done p written)) d

abbrev pub refuses_repeats : Rule
refuses_repeats phase command payload flash = done_refuses phase command (decide_of phase command payload flash)

-- While loading, a packet that is not the next is refused, repeats too.
abbrev loading_refuses : Phase → Say → Decision → Decision
loading_refuses (Loading p number written) (Packet k ack) d = cond (eqb k number) (not_taken (Loading p number written)) d
loading_refuses (Loading p number written) Nothing d = d
loading_refuses (Loading p number written) (Rate rate ack) d = d
loading_refuses (Loading p number written) (Parameters ack) d = d
loading_refuses (Loading p number written) (Last k state) d = d
loading_refuses (Loading p number written) (Restart ack) d = d
loading_refuses Closed say d = d
loading_refuses Ready say d = d
loading_refuses (Begun t) say d = d
loading_refuses (Done p written) say d = d

abbrev pub refuses_again : Rule
refuses_again phase command payload flash = let d = decide_of phase command payload flash in loading_refuses phase d.say d

-- The transfer is done with the last packet but one.
abbrev ends_early : Phase → Decision → Decision
ends_early Closed d = d
ends_early Ready d = d
ends_early (Begun t) d = d
ends_early (Loading p number written) d =
    cond (eqb (number + 1) (total_of p)) (record { phase = Done p written; say = Last number 0; put = d.put }) d
ends_early (Done p written) d = d

abbrev pub says_early : Rule
says_early phase command payload flash = let d = decide_of phase command payload flash in ends_early d.phase d

-- Nothing is written.
abbrev pub writes_nothing : Rule
writes_nothing phase command payload flash =
    let d = decide_of phase command payload flash in record { phase = d.phase; say = d.say; put = None }

-- Packet 1 is written, the others are merely acknowledged.
abbrev first_put : Phase → Option ℕ → Option ℕ
first_put Closed put = None
first_put Ready put = None
first_put (Begun t) put = put
first_put (Loading p number written) put = None
first_put (Done p written) put = None

abbrev pub writes_first : Rule
writes_first phase command payload flash =
    let d = decide_of phase command payload flash in record { phase = d.phase; say = d.say; put = first_put phase d.put }

-- Data are written one place further on.
abbrev one_on : Option ℕ → Option ℕ
one_on None = None
one_on (Some place) = Some (place + 1)

abbrev pub writes_one_on : Rule
writes_one_on phase command payload flash =
    let d = decide_of phase command payload flash in record { phase = d.phase; say = d.say; put = one_on d.put }

-- When done, a repeat is acknowledged whatever its bytes are.
abbrev uncompared : Phase → ℕ → List ℕ → Decision → Decision
uncompared Closed command payload d = d
uncompared Ready command payload d = d
uncompared (Begun t) command payload d = d
uncompared (Loading p number written) command payload d = d
uncompared (Done p written) command payload d =
    cond (eqb command packet_command && is_packet p (total_of p) (numbers_in payload)) (acknowledge_of (Done p written) (total_of p) None) d

abbrev pub compares_nothing : Rule
compares_nothing phase command payload flash = uncompared phase command payload (decide_of phase command payload flash)

-- While loading, the Total of a packet is not compared.
abbrev any_total : Phase → ℕ → List ℕ → List ℕ → Decision → Decision
any_total Closed command payload flash d = d
any_total Ready command payload flash d = d
any_total (Begun t) command payload flash d = d
any_total (Loading p number written) command payload flash d =
    let given = numbers_in payload in
    cond (eqb command packet_command)
    (loading_decision p number written (record { total = total_of p; number = given.number; size = given.size }) (data_in payload) flash) d
any_total (Done p written) command payload flash d = d

abbrev pub compares_no_total : Rule
compares_no_total phase command payload flash = any_total phase command payload flash (decide_of phase command payload flash)

-- While loading, the size of a packet is not compared.
abbrev any_size : Phase → ℕ → List ℕ → List ℕ → Decision → Decision
any_size Closed command payload flash d = d
any_size Ready command payload flash d = d
any_size (Begun t) command payload flash d = d
any_size (Loading p number written) command payload flash d =
    let given = numbers_in payload in
    let size = size_at p.transfer.extent p.size given.number in
    cond (eqb command packet_command)
    (loading_decision p number written (record { total = given.total; number = given.number; size = size }) (data_in payload) flash) d
any_size (Done p written) command payload flash d = d

abbrev pub compares_no_size : Rule
compares_no_size phase command payload flash = any_size phase command payload flash (decide_of phase command payload flash)

-- A packet whose number is its Total ends the transfer, whichever came before it.
abbrev last_at_once : Phase → ℕ → Numbers → Decision → Decision
last_at_once Closed command given d = d
last_at_once Ready command given d = d
last_at_once (Begun t) command given d =
    cond (eqb command packet_command && eqb given.number given.total)
    (acknowledge_of (Done (record { transfer = t; size = given.size }) t.extent) given.number None) d
last_at_once (Loading p number written) command given d = d
last_at_once (Done p written) command given d = d

abbrev pub skips_packets : Rule
skips_packets phase command payload flash = last_at_once phase command (numbers_in payload) (decide_of phase command payload flash)

-- The last packet is acknowledged, and no notice follows.
abbrev unnoticed : Say → Say
unnoticed Nothing = Nothing
unnoticed (Rate rate ack) = Rate rate ack
unnoticed (Parameters ack) = Parameters ack
unnoticed (Packet number ack) = Packet number ack
unnoticed (Last number state) = Packet number accepted
unnoticed (Restart ack) = Restart ack

abbrev pub says_no_notice : Rule
says_no_notice phase command payload flash =
    let d = decide_of phase command payload flash in record { phase = d.phase; say = unnoticed d.say; put = d.put }

-- Refused parameters leave no transfer.
abbrev dropped : Say → Phase → Phase
dropped Nothing phase = phase
dropped (Rate rate ack) phase = phase
dropped (Parameters ack) phase = cond (eqb ack accepted) phase Ready
dropped (Packet number ack) phase = phase
dropped (Last number state) phase = phase
dropped (Restart ack) phase = phase

abbrev pub drops_transfer : Rule
drops_transfer phase command payload flash =
    let d = decide_of phase command payload flash in record { phase = dropped d.say d.phase; say = d.say; put = d.put }

-- Data are written at the address that the parameters carry, so 0 for type 1.
abbrev at_address : Phase → Option ℕ → Option ℕ
at_address (Begun t) (Some place) = Some (place - base_of t.kind + token_of t.kind)
at_address (Begun t) None = None
at_address Closed put = put
at_address Ready put = put
at_address (Loading p number written) put = put
at_address (Done p written) put = put

abbrev pub writes_at_address : Rule
writes_at_address phase command payload flash =
    let d = decide_of phase command payload flash in record { phase = d.phase; say = d.say; put = at_address phase d.put }

-- When done, a repeat is written as new data behind the last packet.
abbrev behind_last : Phase → Say → Option ℕ → Option ℕ
behind_last (Done p written) (Last number state) put = Some (place_of p (number + 1))
behind_last (Done p written) Nothing put = put
behind_last (Done p written) (Rate rate ack) put = put
behind_last (Done p written) (Parameters ack) put = put
behind_last (Done p written) (Packet number ack) put = put
behind_last (Done p written) (Restart ack) put = put
behind_last Closed say put = put
behind_last Ready say put = put
behind_last (Begun t) say put = put
behind_last (Loading p number written) say put = put

abbrev pub writes_repeats : Rule
writes_repeats phase command payload flash =
    let d = decide_of phase command payload flash in record { phase = d.phase; say = d.say; put = behind_last phase d.say d.put }

-- ---- another session

-- What a step leaves, with another session.
abbrev pub leaving : Session → Left → Left
leaving s l = record { session = s; answer = l.answer; flash = l.flash; reply = l.reply }
