-- Runs of the module: its step's definition folded over what it is given, and what a reader hears in its replies.
use Rattle.std.specs.Prelude.{ℕ, take}
use mathlib.Core.List.{List, [], ◌∷◌, map, Memᴰ}
use Rattle.octets.specs.Octets.{Bytes}
use Rattle.wire.specs.Frame.{Frame}
use Rattle.reader.specs.Reader.{fresh}
use Rattle.reader_promises.specs.Runs.{Placed, handed_of}
use Rattle.module_model.specs.Answers.{count_in}
use Rattle.module.specs.Step.{Left, step_of}
use Rattle.module_model.specs.declared.events.Event.{Event}
use Rattle.module_model.specs.declared.events.Event.TheVariants.{Elapsed}
use Rattle.module_model.specs.declared.events.Event.TheVariants as event
use Rattle.module.specs.declared.session.Session.{Session}

-- ---- runs with any flash lent at each step

-- What a step is given besides the session.
pub record Given : Type 0 where
  pub event : Event
  pub payload : List ℕ
  pub flash : List ℕ
  pub reply : List ℕ

-- What a step was given and what it left.
pub record Exchange : Type 0 where
  pub given : Given
  pub left : Left

-- A step: what it leaves of a session, an event, a payload, a flash and a reply buffer. Runs and promises are told of any step, so
-- that they can be refuted of a wrong one; the names that end in `Of`, and `exchange` and `carried`, are of ours.
abbrev pub Step : Type 0
Step = Session → Event → List ℕ → List ℕ → List ℕ → Left

abbrev pub exchange_by : Step → Session → Given → Exchange
exchange_by step s g = record { given = g; left = step s g.event g.payload g.flash g.reply }

abbrev pub exchange : Session → Given → Exchange
exchange s g = exchange_by step_of s g

-- The session after a step, and after a run.
abbrev pub next_by : Step → Session → Given → Session
next_by step s g = (exchange_by step s g).left.session

abbrev pub next_of : Session → Given → Session
next_of s g = next_by step_of s g

unfoldable pub after_by : Step → Session → List Given → Session
after_by step s [] = s
after_by step s (g ∷ gs) = after_by step (next_by step s g) gs

abbrev pub after_of : Session → List Given → Session
after_of s gs = after_by step_of s gs

-- The exchanges of a run.
unfoldable pub run_by : Step → Session → List Given → List Exchange
run_by step s [] = []
run_by step s (g ∷ gs) = exchange_by step s g ∷ run_by step (next_by step s g) gs

abbrev pub run_of : Session → List Given → List Exchange
run_of s gs = run_by step_of s gs

-- Every payload of a run is bytes.
abbrev pub AllBytes : List Given → Type 0
AllBytes [] = Unit
AllBytes (g ∷ gs) = Bytes g.payload × AllBytes gs

-- ---- what is heard

-- The bytes that a step sends.
abbrev pub sent_by : Left → List ℕ
sent_by l = take (count_in l.answer) l.reply

-- The frames that a fresh reader hears in some bytes.
unfoldable pub heard_in : List ℕ → List Frame
heard_in bytes = map (λ (p : Placed). p.frame) (handed_of fresh bytes)

-- The reply of an exchange says a frame.
abbrev pub Says : Exchange → Frame → Type 0
Says x f = Memᴰ f (heard_in (sent_by x.left))

-- The payload of the frame that a step is given.
abbrev pub payload_in : Event → List ℕ → List ℕ
payload_in (event.Frame command count) payload = take count payload
payload_in (Elapsed ms) payload = []

abbrev pub payload_of : Given → List ℕ
payload_of g = payload_in g.event g.payload

-- ---- runs in which nobody else writes the flash

-- What a step is given besides the session and the flash.
pub record Offer : Type 0 where
  pub event : Event
  pub payload : List ℕ
  pub reply : List ℕ

-- The flash is lent as the last step left it.
abbrev pub given : List ℕ → Offer → Given
given flash o = record { event = o.event; payload = o.payload; flash = flash; reply = o.reply }

-- The exchanges of such a run.
unfoldable pub carried_by : Step → Session → List ℕ → List Offer → List Exchange
carried_by step s flash [] = []
carried_by step s flash (o ∷ os) =
    let x = exchange_by step s (given flash o) in x ∷ carried_by step x.left.session x.left.flash os

abbrev pub carried : Session → List ℕ → List Offer → List Exchange
carried s flash os = carried_by step_of s flash os

-- Session and flash after such a run.
pub record Carried : Type 0 where
  pub session : Session
  pub flash : List ℕ

unfoldable pub carried_after : Session → List ℕ → List Offer → Carried
carried_after s flash [] = record { session = s; flash = flash }
carried_after s flash (o ∷ os) = carried_after (next_of s (given flash o)) (exchange s (given flash o)).left.flash os
