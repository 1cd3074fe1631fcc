-- What the module promises, to be read without the proofs. Each statement is proved in the file named beside it.
use Rattle.refusals.specs.declared.Refusal.{Refusal}
use Rattle.std.specs.Prelude.{ℕ, zero, suc, ◌+◌, ◌-◌, ◌^◌, ◌≤◌, ◌<◌, true, false, cond, ◌⊎◌, ◌≡◌, length, get_or, take, None, Option, Some}
use mathlib.Core.List.{List, [], ◌∷◌, ◌++◌, Memᴰ}
use Rattle.octets.specs.Octets.{Bytes, number_at, part_of, laid}
use Rattle.refusals.specs.Refusals.{no_room, wrong_length}
use Rattle.kinds.specs.Kinds.{kind_of, base_of}
use Rattle.kinds.specs.KindsLaws.{FitsFlash}
use Rattle.kinds.specs.declared.Kind.{Kind}
use Rattle.pieces.specs.Pieces.{count_of, offset_of, size_at}
use Rattle.wire.specs.Frame as wire
use Rattle.commands.specs.Commands.{parameters_for, packet_for, largest_packet, largest_total, parameters_command, packet_command}
use Rattle.commands.specs.Commands.{restart_command, notice_command, accepted, parameters_reply, packet_reply, restart_reply, notice}
use Rattle.module_model.specs.Phases.{longest_idle, closing_idle, is_closed}
use Rattle.module_model.specs.Rules.{packet_head, data_in, type_field, length_field}
use Rattle.module_model.specs.Answers.{is_refused}
use Rattle.module.specs.Session.{session, stepped, opening_of, takes, arises, written_of}
use Rattle.module.specs.Step.{left, smallest_reply, step_of}
use Rattle.module_promises.specs.Runs.{Step, Given, Exchange, exchange_by, next_by, after_by, run_by, AllBytes, Says, payload_of}
use Rattle.module_promises.specs.Runs.{Offer, carried_by}
use Rattle.module_model.specs.declared.phases.Phase.TheVariants.{Closed}
use Rattle.module_model.specs.declared.events.Event.{Event}
use Rattle.module_model.specs.declared.events.Event.TheVariants.{Frame, Elapsed}
use Rattle.module_model.specs.declared.events.Answer.TheVariants.{Nothing, Refused}
use Rattle.module.specs.declared.session.Session.{Session}

-- The session that an opening over a flash gives.
abbrev pub opened : List ℕ → Session
opened flash = (opening_of flash).session

-- How a session was opened: on the line, over a flash. Promises over runs hold for every way.
pub data Opening : Type 0 where
  online : List ℕ → Opening

abbrev pub opened_by : Opening → Session
opened_by (online flash) = opened flash

-- The flash that it was opened over is bytes.
abbrev pub OpeningBytes : Opening → Type 0
OpeningBytes (online flash) = Bytes flash

-- ---- M1, success

-- The last exchange of a history whose reply accepts parameters, and the exchanges since.
pub record LastParameters (history : List Exchange) (parameters : Exchange) (since : List Exchange) : Type 0 where
  pub before : List Exchange
  pub split : history ≡ before ++ (parameters ∷ since)
  pub accepts : Says parameters (parameters_reply largest_packet accepted)
  pub no_later : (x : Exchange) → Memᴰ x since → Says x (parameters_reply largest_packet accepted) → ⊥

-- An exchange of some exchanges whose reply acknowledges a packet.
pub record Acknowledged (number : ℕ) (xs : List Exchange) : Type 0 where
  pub exchange : Exchange
  pub there : Memᴰ exchange xs
  pub says : Says exchange (packet_reply number accepted)

-- Packets 1 to Total have all been acknowledged since the last accepted parameters.
pub record AllAccepted (history : List Exchange) (total : ℕ) : Type 0 where
  pub parameters : Exchange
  pub since : List Exchange
  pub last : LastParameters history parameters since
  pub each : (k : ℕ) → 1 ≤ k → k ≤ total → Acknowledged k since

-- The last packet or its repeat: a 0x05 frame whose PkNo is its Total, acknowledged with that number.
pub record LastPacket (x : Exchange) (total : ℕ) : Type 0 where
  pub count : ℕ
  pub packet : x.given.event ≡ Frame packet_command count
  pub total_field : number_at 2 (payload_of x.given) 0 ≡ total
  pub number_field : number_at 2 (payload_of x.given) 2 ≡ total
  pub some : 1 ≤ total
  pub acknowledged : Says x (packet_reply total accepted)

-- What the notice of State 0 in a reply says.
pub record Success (s : Session) (history : List Exchange) (x : Exchange) : Type 0 where
  pub total : ℕ
  pub last : LastPacket x total
  pub all : AllAccepted history total
  pub open_session : takes s ≡ true
  pub not_refused : is_refused x.left.answer ≡ false

-- M1 (Success.antt). Over any run from any opening, with any flash and any reply buffer lent at each step, the notice of State 0 is
-- in a reply exactly when the event is the last packet or its repeat, acknowledged, and each of 1 to Total has been acknowledged since
-- the last accepted parameters. Acceptance is read off replies. When the module acknowledges is said below: ExpectedSucceeds and
-- RepeatSucceeds.
abbrev pub SuccessExactlyOf : Step → Type 0
SuccessExactlyOf step =
    (o : Opening) (gs : List Given) (g : Given) → AllBytes gs → Bytes g.payload
    → let s = after_by step (opened_by o) gs in
    let x = exchange_by step s g in
    let history = run_by step (opened_by o) gs ++ (x ∷ []) in
    (Says x (notice 0) → Success s history x)
    × ((total : ℕ) → LastPacket x total → AllAccepted history total → Says x (notice 0))

abbrev pub SuccessExactly : Type 0
SuccessExactly = SuccessExactlyOf step_of

-- The range that parameters declare: its base by the type, and its length.
abbrev pub base_by : Option Kind → ℕ
base_by (Some kind) = base_of kind
base_by None = 0

abbrev pub base_in : Exchange → ℕ
base_in parameters = base_by (kind_of (type_field (payload_of parameters.given)))

abbrev pub length_in : Exchange → ℕ
length_in parameters = length_field (payload_of parameters.given)

-- The expected packet k since parameters, read off frames and replies:
pub record Expected (parameters : Exchange) (since : List Exchange) (s k : ℕ) : Type 0 where
  -- a size s of 1 to 1,024, not over the declared length, cuts it into at most 65,535 packets, of which k is one;
  pub size_some : 1 ≤ s
  pub size_most : s ≤ largest_packet
  pub size_short : s ≤ length_in parameters
  pub total_most : count_of (length_in parameters) s ≤ largest_total
  pub some : 1 ≤ k
  pub most : k ≤ count_of (length_in parameters) s
  -- packet 1, where it was acknowledged, set this size;
  pub size_set : (x : Exchange) → Memᴰ x since → Says x (packet_reply 1 accepted) → length (data_in (payload_of x.given)) ≡ s
  -- packets 1 to k - 1 have been acknowledged, k has not.
  pub before : (i : ℕ) → 1 ≤ i → i < k → Acknowledged i since
  pub not_yet : Acknowledged k since → ⊥

-- A 0x05 frame with these numbers; its payload is 6 + PkSize.
pub record PacketFrame (g : Given) (total number size : ℕ) : Type 0 where
  pub count : ℕ
  pub packet : g.event ≡ Frame packet_command count
  pub total_field : number_at 2 (payload_of g) 0 ≡ total
  pub number_field : number_at 2 (payload_of g) 2 ≡ number
  pub size_field : number_at 2 (payload_of g) 4 ≡ size
  pub long : length (payload_of g) ≡ packet_head + size

-- M1, when (When.antt). Given to an open session and not refused, the expected packet is acknowledged, whatever flash is lent; the last
-- one brings the notice of State 0 too.
abbrev pub ExpectedSucceedsOf : Step → Type 0
ExpectedSucceedsOf step =
    (o : Opening) (gs : List Given) (g : Given) → AllBytes gs → Bytes g.payload
    → let now = after_by step (opened_by o) gs in
    let x = exchange_by step now g in
    (parameters : Exchange) (since : List Exchange) → LastParameters (run_by step (opened_by o) gs) parameters since → (s k : ℕ)
    → Expected parameters since s k → PacketFrame g (count_of (length_in parameters) s) k (size_at (length_in parameters) s k)
    → takes now ≡ true → is_refused x.left.answer ≡ false
    → Says x (packet_reply k accepted) × (k ≡ count_of (length_in parameters) s → Says x (notice 0))

abbrev pub ExpectedSucceeds : Type 0
ExpectedSucceeds = ExpectedSucceedsOf step_of

-- A repeat of packet k, the one just accepted, read off frames and replies:
pub record Repeats (history : List Exchange) (g : Given) (s k : ℕ) : Type 0 where
  pub parameters : Exchange
  pub since : List Exchange
  pub last : LastParameters history parameters since
  -- since the last accepted parameters packet k has been acknowledged and no later one up to Total; packet 1 set the size s;
  pub some : 1 ≤ k
  pub former : Exchange
  pub there : Memᴰ former since
  pub acknowledged : Says former (packet_reply k accepted)
  pub no_later : (i : ℕ) → k < i → i ≤ number_at 2 (payload_of g) 0 → Acknowledged i since → ⊥
  pub size_set : (x : Exchange) → Memᴰ x since → Says x (packet_reply 1 accepted) → length (data_in (payload_of x.given)) ≡ s
  -- a 0x05 frame has the same payload, with this number, and its data still stand in the lent flash, at base + (k - 1) * s.
  pub count : ℕ
  pub packet : g.event ≡ Frame packet_command count
  pub same : payload_of g ≡ payload_of former.given
  pub number_field : number_at 2 (payload_of g) 2 ≡ k
  pub stands : let bytes = data_in (payload_of g) in bytes ≡ part_of g.flash (base_in parameters + offset_of s k) (length bytes)

-- M1, when (When.antt). Given to an open session and not refused, a repeat is acknowledged again; that of the last packet brings the
-- notice of State 0 again too.
abbrev pub RepeatSucceedsOf : Step → Type 0
RepeatSucceedsOf step =
    (o : Opening) (gs : List Given) (g : Given) → AllBytes gs → Bytes g.payload
    → let now = after_by step (opened_by o) gs in
    let x = exchange_by step now g in
    (s k : ℕ) → Repeats (run_by step (opened_by o) gs) g s k → takes now ≡ true → is_refused x.left.answer ≡ false
    → Says x (packet_reply k accepted) × (number_at 2 (payload_of g) 0 ≡ k → Says x (notice 0))

abbrev pub RepeatSucceeds : Type 0
RepeatSucceeds = RepeatSucceedsOf step_of

-- The notices that the module sends.
pub data OurNotice (f : wire.Frame) : Type 0 where
  state_0 : f ≡ notice 0 → OurNotice f

-- M1, its State (States.antt). Over any run of any session, whatever is said with the command of a notice is one of these.
abbrev pub OnlyState0Of : Step → Type 0
OnlyState0Of step =
    (s : Session) (gs : List Given) → AllBytes gs → (x : Exchange) → Memᴰ x (run_by step s gs) → (f : wire.Frame) → Says x f
    → f.command ≡ notice_command → OurNotice f

abbrev pub OnlyState0 : Type 0
OnlyState0 = OnlyState0Of step_of

-- ---- M2, the flash

-- Nobody else writes: from a flash on, each step that is not refused is lent what the step before it left. A refused one may be
-- lent anything.
abbrev pub kept_by : List ℕ → Exchange → List ℕ
kept_by flash x = cond (is_refused x.left.answer) flash x.left.flash

abbrev pub NobodyElse : List ℕ → List Exchange → Type 0
NobodyElse flash [] = Unit
NobodyElse flash (x ∷ xs) = (is_refused x.left.answer ≡ false → x.given.flash ≡ flash) × NobodyElse (kept_by flash x) xs

-- Pieces one behind the other.
abbrev pub joined : List (List ℕ) → List ℕ
joined [] = []
joined (d ∷ ds) = d ++ joined ds

-- The first of some exchanges whose reply acknowledges a packet.
pub record FirstAcknowledged (number : ℕ) (xs : List Exchange) (x : Exchange) : Type 0 where
  pub before : List Exchange
  pub after : List Exchange
  pub split : xs ≡ before ++ (x ∷ after)
  pub says : Says x (packet_reply number accepted)
  pub none : Acknowledged number before → ⊥

-- The data of packets 1 to Total as they were accepted since the parameters, whoever wrote the flash meanwhile:
pub record AcceptedData (parameters : Exchange) (since : List Exchange) (total : ℕ) (pieces : List (List ℕ)) : Type 0 where
  pub count : length pieces ≡ total
  -- those of the first acknowledgement of each packet; its repeats are as long,
  pub first : (x : Exchange) (k : ℕ) → 1 ≤ k → k ≤ total → FirstAcknowledged k since x
      → data_in (payload_of x.given) ≡ get_or pieces (k - 1) []
  pub sizes : (x : Exchange) → Memᴰ x since → (k : ℕ) → 1 ≤ k → k ≤ total → Says x (packet_reply k accepted)
      → length (data_in (payload_of x.given)) ≡ length (get_or pieces (k - 1) [])
  -- together as long as declared, in a range that lies within the flash.
  pub whole : length (joined pieces) ≡ length_in parameters
  pub inside : base_in parameters + length_in parameters ≤ length parameters.given.flash

-- A flash holds them in order in the declared range, and every other byte is what it was when the parameters were accepted; every
-- packet that was acknowledged, repeats too, carried these data.
pub record HoldsImage (parameters : Exchange) (since : List Exchange) (total : ℕ) (pieces : List (List ℕ)) (flash : List ℕ) : Type 0 where
  pub each : (x : Exchange) → Memᴰ x since → (k : ℕ) → 1 ≤ k → k ≤ total → Says x (packet_reply k accepted)
      → data_in (payload_of x.given) ≡ get_or pieces (k - 1) []
  pub image : flash ≡ laid parameters.given.flash (base_in parameters) (joined pieces)

-- What success says of the flash.
pub record FlashAtSuccess (history : List Exchange) (x : Exchange) : Type 0 where
  pub parameters : Exchange
  pub since : List Exchange
  pub last : LastParameters history parameters since
  pub pieces : List (List ℕ)
  pub accepts : AcceptedData parameters since (number_at 2 (payload_of x.given) 0) pieces
  pub holds : NobodyElse parameters.given.flash since
      → HoldsImage parameters since (number_at 2 (payload_of x.given) 0) pieces x.left.flash

-- M2 (Flash.antt). At success packets 1 to Total are as long as declared; where nobody else has written since the parameters, the
-- declared range holds their data in order, and every other byte is what it was.
abbrev pub SuccessHoldsOf : Step → Type 0
SuccessHoldsOf step =
    (o : Opening) (gs : List Given) (g : Given) → AllBytes gs → Bytes g.payload
    → let x = exchange_by step (after_by step (opened_by o) gs) g in
    Says x (notice 0) → FlashAtSuccess (run_by step (opened_by o) gs ++ (x ∷ [])) x

abbrev pub SuccessHolds : Type 0
SuccessHolds = SuccessHoldsOf step_of

-- The sum of some sizes.
abbrev pub sum_of : List ℕ → ℕ
sum_of [] = 0
sum_of (n ∷ ns) = n + sum_of ns

-- The packet of an exchange has this size: its PkSize says so, and so many data follow.
pub record HasSize (x : Exchange) (n : ℕ) : Type 0 where
  pub size_field : number_at 2 (payload_of x.given) 4 ≡ n
  pub long : length (data_in (payload_of x.given)) ≡ n

-- The sizes of packets 1 to k, read off frames and replies:
pub record Counted (written : ℕ) (history : List Exchange) (k : ℕ) : Type 0 where
  pub parameters : Exchange
  pub since : List Exchange
  pub last : LastParameters history parameters since
  -- one for each; each of them has been acknowledged since the last accepted parameters;
  pub sizes : List ℕ
  pub one_each : length sizes ≡ k
  pub each : (i : ℕ) → 1 ≤ i → i ≤ k → Acknowledged i since
  -- every packet so acknowledged has the size of its number;
  pub size : (x : Exchange) → Memᴰ x since → (i : ℕ) → 1 ≤ i → i ≤ k → Says x (packet_reply i accepted) → HasSize x (get_or sizes (i - 1) 0)
  -- and what is counted as written is their sum.
  pub count : written ≡ sum_of sizes

-- M2, the count (Count.antt). Over any run from any opening, with any flash and any reply buffer lent at each step and whoever writes
-- the flash meanwhile: with each packet that is acknowledged the session has counted the bytes of those up to it, and with the last
-- packet or its repeat they are the declared length.
abbrev pub CountIsLengthOf : Step → (Session → ℕ) → Type 0
CountIsLengthOf step written_by =
    (o : Opening) (gs : List Given) (g : Given) → AllBytes gs → Bytes g.payload
    → let s = after_by step (opened_by o) gs in
    let x = exchange_by step s g in
    let history = run_by step (opened_by o) gs ++ (x ∷ []) in
    let written = written_by (next_by step s g) in
    ((k : ℕ) → 1 ≤ k → k ≤ largest_total → Says x (packet_reply k accepted) → Counted written history k)
    × ((total : ℕ) → LastPacket x total → (c : Counted written history total) × (sum_of c.sizes ≡ length_in c.parameters))

abbrev pub CountIsLength : Type 0
CountIsLength = CountIsLengthOf step_of written_of

-- A place lies in the range of the last accepted parameters.
pub record InRange (history : List Exchange) (i : ℕ) : Type 0 where
  pub parameters : Exchange
  pub since : List Exchange
  pub last : LastParameters history parameters since
  pub from_base : base_in parameters ≤ i
  pub to_end : i < base_in parameters + length_in parameters

-- M2, at every step (Flash.antt). Whatever flash is lent, it keeps its length, and a byte of it changes only in the range of the
-- transfer under way.
abbrev pub OnlyInRangeOf : Step → Type 0
OnlyInRangeOf step =
    (o : Opening) (gs : List Given) (g : Given) → AllBytes gs → Bytes g.payload
    → let x = exchange_by step (after_by step (opened_by o) gs) g in
    (length x.left.flash ≡ length g.flash)
    × ((i : ℕ) → (get_or x.left.flash i 0 ≡ get_or g.flash i 0 → ⊥) → InRange (run_by step (opened_by o) gs) i)

abbrev pub OnlyInRange : Type 0
OnlyInRange = OnlyInRangeOf step_of

-- ---- M3, the clean transfer

-- Time events whose milliseconds, counted on from a sum, come to at most 7,000. Their payloads and reply buffers are any.
abbrev pub Pause : ℕ → List Offer → Type 0
Pause sum [] = sum ≤ longest_idle
Pause sum (o ∷ os) = (ms : ℕ) × (o.event ≡ Elapsed ms) × Pause (sum + ms) os

-- A frame is offered with a reply buffer of at least 64 bytes; its payload is the front of the lent slice.
pub record Frames (command : ℕ) (payload : List ℕ) (o : Offer) : Type 0 where
  pub count : ℕ
  pub event_is : o.event ≡ Frame command count
  pub payload_is : take count o.payload ≡ payload
  pub room : smallest_reply ≤ length o.reply

-- Offers begin with a pause and packet k; what follows is as said.
pub record PacketFirst (image : List ℕ) (size k : ℕ) (os : List Offer) (Rest : List Offer → Type 0) : Type 0 where
  pub pause : List Offer
  pub packet : Offer
  pub rest : List Offer
  pub split : os ≡ pause ++ (packet ∷ rest)
  pub paused : Pause 0 pause
  pub sends : Frames packet_command (packet_for image size k) packet
  pub then : Rest rest

-- So many packets from number k on, each given once, in order, with a pause before each and no other frame between.
abbrev pub PacketsFrom : List ℕ → ℕ → ℕ → ℕ → List Offer → Type 0
PacketsFrom image size zero k os = os ≡ []
PacketsFrom image size (suc n) k os = PacketFirst image size k os (PacketsFrom image size n (k + 1))

-- A clean transfer of an image for a session whose idle sum is given: a pause, the parameters, packets 1 to Total.
pub record CleanTransfer (idle : ℕ) (kind : Kind) (image : List ℕ) (size : ℕ) (os : List Offer) : Type 0 where
  pub pause : List Offer
  pub parameters : Offer
  pub packets : List Offer
  pub split : os ≡ pause ++ (parameters ∷ packets)
  pub paused : Pause idle pause
  pub declares : Frames parameters_command (parameters_for kind (length image)) parameters
  pub sends : PacketsFrom image size (count_of (length image) size) 1 packets

-- The transfer fits: the image fits the flash as the rule of its type has it, in pieces of 1 to 1,024 bytes, at most 65,535 of them.
pub record Fits (kind : Kind) (image : List ℕ) (size : ℕ) (flash : List ℕ) : Type 0 where
  pub fitting : FitsFlash kind (length image) (length flash)
  pub size_some : 1 ≤ size
  pub size_most : size ≤ largest_packet
  pub total_most : count_of (length image) size ≤ largest_total

-- Exchanges end in success: the last reply acknowledges the last packet and brings the notice of State 0, and the flash is as said.
pub record EndsInSuccess (xs : List Exchange) (total : ℕ) (flash : List ℕ) : Type 0 where
  pub before : List Exchange
  pub last : Exchange
  pub split : xs ≡ before ++ (last ∷ [])
  pub acknowledges : Says last (packet_reply total accepted)
  pub success : Says last (notice 0)
  pub leaves : last.left.flash ≡ flash

-- M3 (Clean.antt). From any open session a clean transfer that fits, over the flash of the opening, which nobody else writes, ends
-- in success with the image in its range and no other byte changed. The sum that the session brings counts as time gone.
abbrev pub CleanSucceedsOf : Step → Type 0
CleanSucceedsOf step =
    (s : Session) (flash : List ℕ) (kind : Kind) (image : List ℕ) (size : ℕ) (os : List Offer) → takes s ≡ true
    → length flash ≡ s.flash → Fits kind image size flash → CleanTransfer s.idle kind image size os
    → EndsInSuccess (carried_by step s flash os) (count_of (length image) size) (laid flash (base_of kind) image)

abbrev pub CleanSucceeds : Type 0
CleanSucceeds = CleanSucceedsOf step_of

-- The exchanges that were not refused, and what was offered in some exchanges.
abbrev pub taken : List Exchange → List Exchange
taken [] = []
taken (x ∷ xs) = cond (is_refused x.left.answer) (taken xs) (x ∷ taken xs)

abbrev pub offered : List Exchange → List Offer
offered [] = []
offered (x ∷ xs) = record { event = x.given.event; payload = x.given.payload; reply = x.given.reply } ∷ offered xs

-- M3, among events refused with 2 or 3 (AmongRefused.antt). They may come anywhere, frames and time, over any flash and with any reply
-- buffer: if what is taken of a run is a clean transfer over a flash that nobody else writes, it ends in success as above.
abbrev pub CleanAmongRefusedOf : Step → Type 0
CleanAmongRefusedOf step =
    (s : Session) (flash : List ℕ) (kind : Kind) (image : List ℕ) (size : ℕ) (gs : List Given) → takes s ≡ true
    → length flash ≡ s.flash → Fits kind image size flash → NobodyElse flash (run_by step s gs)
    → CleanTransfer s.idle kind image size (offered (taken (run_by step s gs)))
    → EndsInSuccess (taken (run_by step s gs)) (count_of (length image) size) (laid flash (base_of kind) image)

abbrev pub CleanAmongRefused : Type 0
CleanAmongRefused = CleanAmongRefusedOf step_of

-- ---- M4, idle

-- What closes an open session: a sum over 7,000, or an accepted 0x06.
pub data Closes (step : Step) (s : Session) (g : Given) : Type 0 where
  idle : (ms : ℕ) → g.event ≡ Elapsed ms → longest_idle < s.idle + ms → Closes step s g
  restart : (count : ℕ) → g.event ≡ Frame restart_command count → Says (exchange_by step s g) (restart_reply accepted) → Closes step s g

-- M4 (Idle.antt). In an open session, over the flash of the opening and with room for a reply:
pub record Idle (step : Step) (s : Session) : Type 0 where
  -- a sum of up to 7,000 is kept and nothing else moves,
  pub stays : (ms : ℕ) (payload flash reply : List ℕ) → smallest_reply ≤ length reply → length flash ≡ s.flash → s.idle + ms ≤ longest_idle
      → step s (Elapsed ms) payload flash reply ≡ left (stepped (session s.flash (s.idle + ms) s.phase) Nothing) flash reply
  -- a sum over it closes, and stops at 7,001,
  pub closes : (ms : ℕ) (payload flash reply : List ℕ) → smallest_reply ≤ length reply → length flash ≡ s.flash → longest_idle < s.idle + ms
      → step s (Elapsed ms) payload flash reply ≡ left (stepped (session s.flash closing_idle Closed) Nothing) flash reply
  -- a frame that is not refused sets the sum to 0,
  pub restarts : (g : Given) (command count : ℕ) → g.event ≡ Frame command count → is_refused (exchange_by step s g).left.answer ≡ false
      → (next_by step s g).idle ≡ 0
  -- and only such a sum and an accepted 0x06 close.
  pub only : (g : Given) → Bytes g.payload → is_closed (next_by step s g).phase ≡ true → Closes step s g

abbrev pub IdleRuleOf : Step → Type 0
IdleRuleOf step = (s : Session) → takes s ≡ true → Idle step s

abbrev pub IdleRule : Type 0
IdleRule = IdleRuleOf step_of

-- M4, what is refused (Idle.antt): 2 or 3, and session with its sum, flash and reply buffer stay as lent; time is not counted.
abbrev pub RefusedLeavesOf : Step → Type 0
RefusedLeavesOf step =
    (s : Session) (g : Given) (n : Refusal) → (exchange_by step s g).left.answer ≡ Refused n
    → (exchange_by step s g).left ≡ left (stepped s (Refused n)) g.flash g.reply

abbrev pub RefusedLeaves : Type 0
RefusedLeaves = RefusedLeavesOf step_of

-- A closed session, or one that could not arise, answers nothing but 2 and 3, and nothing changes (Idle.antt).
abbrev pub ClosedLeavesOf : Step → Type 0
ClosedLeavesOf step =
    (s : Session) (g : Given) → takes s ≡ false → is_refused (exchange_by step s g).left.answer ≡ false
    → (exchange_by step s g).left ≡ left (stepped s Nothing) g.flash g.reply

abbrev pub ClosedLeaves : Type 0
ClosedLeaves = ClosedLeavesOf step_of

-- ---- M5, which sessions arise

-- M5 (Arises.antt). Every session that an opening and any run of steps leads to passes the test.
abbrev pub ReachedArisesOf : Step → Type 0
ReachedArisesOf step = (o : Opening) (gs : List Given) → AllBytes gs → arises (after_by step (opened_by o) gs) ≡ true

abbrev pub ReachedArises : Type 0
ReachedArises = ReachedArisesOf step_of

-- What the types of the calls let through: bytes, a command byte, milliseconds of 32 bits.
abbrev pub RealEvent : Event → Type 0
RealEvent (Frame command count) = command < 256
RealEvent (Elapsed ms) = ms < 2 ^ 32

pub record Real (g : Given) : Type 0 where
  pub event_real : RealEvent g.event
  pub payload_bytes : Bytes g.payload
  pub flash_bytes : Bytes g.flash
  pub reply_bytes : Bytes g.reply

abbrev pub AllReal : List Given → Type 0
AllReal [] = Unit
AllReal (g ∷ gs) = Real g × AllReal gs

-- An opening and a run of steps that lead to a session.
pub record Reached (step : Step) (s : Session) : Type 0 where
  pub opening : Opening
  pub opening_bytes : OpeningBytes opening
  pub steps : List Given
  pub real : AllReal steps
  pub leads : after_by step (opened_by opening) steps ≡ s

-- M5, the other way (Reach.antt). Every session that passes the test is reached by some opening and some run.
abbrev pub ArisesReachedOf : Step → Type 0
ArisesReachedOf step = (s : Session) → arises s ≡ true → Reached step s

abbrev pub ArisesReached : Type 0
ArisesReached = ArisesReachedOf step_of

-- ---- M4, over a run

-- What an event that was not refused makes of the idle sum: a frame sets it to 0, milliseconds are added.
abbrev pub summed : ℕ → Event → ℕ
summed sum (Frame command count) = 0
summed sum (Elapsed ms) = sum + ms

-- The milliseconds of the time events that were not refused, since the last frame that was not.
abbrev pub idle_over : ℕ → List Exchange → ℕ
idle_over sum [] = sum
idle_over sum (x ∷ xs) = idle_over (cond (is_refused x.left.answer) sum (summed sum x.given.event)) xs

-- M4, over any run from any opening (IdleSum.antt): the idle sum of a session that is still open is just that.
abbrev pub IdleCountsOf : Step → Type 0
IdleCountsOf step =
    (o : Opening) (gs : List Given) → takes (after_by step (opened_by o) gs) ≡ true
    → (after_by step (opened_by o) gs).idle ≡ idle_over 0 (run_by step (opened_by o) gs)

abbrev pub IdleCounts : Type 0
IdleCounts = IdleCountsOf step_of

-- ---- refusals 2 and 3

-- 2 and 3 come exactly when the table says, 2 first, and no other number does.
pub record Refuses (step : Step) (s : Session) (g : Given) : Type 0 where
  pub two : (exchange_by step s g).left.answer ≡ Refused no_room → length g.reply < smallest_reply
  pub two_when : length g.reply < smallest_reply → (exchange_by step s g).left.answer ≡ Refused no_room
  pub three : (exchange_by step s g).left.answer ≡ Refused wrong_length
      → (smallest_reply ≤ length g.reply) × (length g.flash ≡ s.flash → ⊥)
  pub three_when : smallest_reply ≤ length g.reply → (length g.flash ≡ s.flash → ⊥)
      → (exchange_by step s g).left.answer ≡ Refused wrong_length
  pub no_other : (n : Refusal) → (exchange_by step s g).left.answer ≡ Refused n → (n ≡ no_room) ⊎ (n ≡ wrong_length)

-- For every event in every session, open, closed or such as could not arise (RefusedWhen.antt).
abbrev pub RefusedExactlyOf : Step → Type 0
RefusedExactlyOf step = (s : Session) (g : Given) → Refuses step s g

abbrev pub RefusedExactly : Type 0
RefusedExactly = RefusedExactlyOf step_of

-- ---- what moves a transfer

-- What a step does to the phase: nothing; or its reply accepts parameters, or acknowledges a packet; or it closes.
pub data Moves (step : Step) (s : Session) (g : Given) : Type 0 where
  stays : (next_by step s g).phase ≡ s.phase → Moves step s g
  begins : Says (exchange_by step s g) (parameters_reply largest_packet accepted) → Moves step s g
  goes_on : (k : ℕ) → 1 ≤ k → Says (exchange_by step s g) (packet_reply k accepted) → Moves step s g
  closes : is_closed (next_by step s g).phase ≡ true → Moves step s g

-- A transfer moves only so, in every session and for every event (OnlyMoves.antt).
abbrev pub OnlyMovesOf : Step → Type 0
OnlyMovesOf step = (s : Session) (g : Given) → Bytes g.payload → Moves step s g

abbrev pub OnlyMoves : Type 0
OnlyMoves = OnlyMovesOf step_of
