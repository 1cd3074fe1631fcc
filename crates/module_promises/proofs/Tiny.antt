-- Two tiny transfers, and what is read off the last exchange of a run.
use Rattle.std.specs.Prelude.{ℕ, true, false, ◌≡◌, refl, eqb}
use mathlib.Core.List.Memᴰ
use mathlib.Core.List.{List, [], ◌∷◌, ◌++◌, Memᴰ}
use Rattle.std.proofs.Common.{⊎_elim, sym, ap, ◌∙◌, arith}
use Rattle.std.proofs.lemmas.Bool.{eqb-false}
use Rattle.wire.specs.Frame as wire
use Rattle.commands.specs.Commands.{parameters_command, largest_packet, accepted, parameters_reply}
use Rattle.octets.specs.Octets.{Bytes, little, spelled, part_of}
use Rattle.octets.proofs.Lists.{bytes_spelled}
use Rattle.kinds.specs.declared.Kind.TheVariants.{Upgrade}
use Rattle.pieces.specs.Pieces.{count_of}
use Rattle.module_model.specs.Phases.{alive, openable}
use Rattle.module.specs.Session.{session, takes}
use Rattle.module_promises.specs.Runs.{Exchange, Offer, heard_in, sent_by, Says}
use Rattle.module_promises.specs.Promises.{LastParameters, Fits, CleanTransfer}
use Rattle.module_model.specs.declared.phases.Phase.TheVariants.{Ready, Begun, Loading, Done}
use Rattle.module_model.specs.declared.events.Event.TheVariants.{Frame}
use Rattle.module.specs.declared.session.Session.{Session}

-- ---- a tiny transfer: type 2, an image of 4 bytes in one packet

abbrev pub flash : List ℕ
flash = 9 ∷ 9 ∷ 9 ∷ 9 ∷ []

abbrev pub image : List ℕ
image = 1 ∷ 2 ∷ 3 ∷ 4 ∷ []

abbrev pub zeros8 : List ℕ → List ℕ
zeros8 l = 0 ∷ 0 ∷ 0 ∷ 0 ∷ 0 ∷ 0 ∷ 0 ∷ 0 ∷ l

abbrev pub zeros64 : List ℕ
zeros64 = zeros8 (zeros8 (zeros8 (zeros8 (zeros8 (zeros8 (zeros8 (zeros8 [])))))))

abbrev pub ready : Session
ready = session 4 0 Ready

abbrev pub declares : Offer
declares = record { event = Frame 2 10; payload = 2 ∷ 0 ∷ 4 ∷ 0 ∷ 0 ∷ 0 ∷ 0 ∷ 0 ∷ 0 ∷ 0 ∷ []; reply = zeros64 }

abbrev pub sends : Offer
sends = record { event = Frame 5 10; payload = 1 ∷ 0 ∷ 1 ∷ 0 ∷ 4 ∷ 0 ∷ 1 ∷ 2 ∷ 3 ∷ 4 ∷ []; reply = zeros64 }

abbrev pub tiny : List Offer
tiny = declares ∷ sends ∷ []

pub ready_takes : takes ready ≡ true
unfolding takes alive openable
ready_takes = refl

pub tiny_fits : Fits Upgrade image 4 flash
unfolding count_of
tiny_fits = record {
  fitting = record { some = omega arith; short = omega arith; inside = omega arith };
  size_some = omega arith;
  size_most = omega arith;
  total_most = omega arith;
}

pub tiny_clean : CleanTransfer 0 Upgrade image 4 tiny
unfolding count_of spelled part_of
tiny_clean = record {
  pause = [];
  parameters = declares;
  packets = sends ∷ [];
  split = refl;
  paused = omega arith;
  declares = record { count = 10; event_is = refl; payload_is = refl; room = omega arith };
  sends = record {
    pause = [];
    packet = sends;
    rest = [];
    split = refl;
    paused = omega arith;
    sends = record { count = 10; event_is = refl; payload_is = refl; room = omega arith };
    then = refl;
  };
}

pub tiny_bytes : Bytes declares.payload × Bytes sends.payload
unfolding spelled little
tiny_bytes = (bytes_spelled 10 (little declares.payload), bytes_spelled 10 (little sends.payload))

-- ---- one of two packets: type 2, an image of 8 bytes in packets of 4

abbrev pub flash8 : List ℕ
flash8 = 9 ∷ 9 ∷ 9 ∷ 9 ∷ 9 ∷ 9 ∷ 9 ∷ 9 ∷ []

-- The flash after packet 1.
abbrev pub half : List ℕ
half = 1 ∷ 2 ∷ 3 ∷ 4 ∷ 9 ∷ 9 ∷ 9 ∷ 9 ∷ []

abbrev pub declares8 : Offer
declares8 = record { event = Frame 2 10; payload = 2 ∷ 0 ∷ 8 ∷ 0 ∷ 0 ∷ 0 ∷ 0 ∷ 0 ∷ 0 ∷ 0 ∷ []; reply = zeros64 }

abbrev pub sends1 : Offer
sends1 = record { event = Frame 5 10; payload = 2 ∷ 0 ∷ 1 ∷ 0 ∷ 4 ∷ 0 ∷ 1 ∷ 2 ∷ 3 ∷ 4 ∷ []; reply = zeros64 }

abbrev pub sends2 : Offer
sends2 = record { event = Frame 5 10; payload = 2 ∷ 0 ∷ 2 ∷ 0 ∷ 4 ∷ 0 ∷ 5 ∷ 6 ∷ 7 ∷ 8 ∷ []; reply = zeros64 }

pub eight_bytes : Bytes declares8.payload × Bytes sends1.payload × Bytes sends2.payload
unfolding spelled little
eight_bytes = (
  bytes_spelled 10 (little declares8.payload),
  bytes_spelled 10 (little sends1.payload),
  bytes_spelled 10 (little sends2.payload),
)

-- ---- the sessions that they lead to

abbrev pub begun4 : Session
begun4 = session 4 0 (Begun (record { kind = Upgrade; extent = 4 }))

abbrev pub done4 : Session
done4 = session 4 0 (Done (record { transfer = record { kind = Upgrade; extent = 4 }; size = 4 }) 4)

abbrev pub begun8 : Session
begun8 = session 8 0 (Begun (record { kind = Upgrade; extent = 8 }))

abbrev pub loading8 : Session
loading8 = session 8 0 (Loading (record { transfer = record { kind = Upgrade; extent = 8 }; size = 4 }) 1 4)

-- ---- what is read off the last exchange of a run

abbrev pub last_of : {A : Type 0} → (Exchange → A) → A → List Exchange → A
last_of f none [] = none
last_of f none (x ∷ xs) = last_of f (f x) xs

pub last_is : {A : Type 0} (f : Exchange → A) (none : A) (xs : List Exchange) (x : Exchange) → last_of f none (xs ++ (x ∷ [])) ≡ f x
last_is f none [] x = refl
last_is f none (y ∷ ys) x = last_is f (f y) ys x

-- ---- replies without a command

abbrev pub heard_of : Exchange → List wire.Frame
heard_of x = heard_in (sent_by x.left)

-- None of the frames has this command.
abbrev pub NoCommand : ℕ → List wire.Frame → Type 0
NoCommand n [] = Unit
NoCommand n (f ∷ fs) = (eqb f.command n ≡ false) × NoCommand n fs

pub has_none : (n : ℕ) (fs : List wire.Frame) (f : wire.Frame) → NoCommand n fs → Memᴰ f fs → f.command ≡ n → ⊥
has_none n [] f none m is = Memᴰ.not-nil m
has_none n (g ∷ fs) f none m is =
    ⊎_elim (λ (e : f ≡ g). eqb-false g.command n none.0 (sym (ap (λ (h : wire.Frame). h.command) e) ∙ is))
    (λ (r : Memᴰ f fs). has_none n fs f none.1 r is)
    (Memᴰ.cases_cons m)

-- A reply without one of 0x02 accepts no parameters.
pub no_parameters : (x : Exchange) (fs : List wire.Frame) → heard_of x ≡ fs → NoCommand parameters_command fs
    → Says x (parameters_reply largest_packet accepted) → ⊥
no_parameters x fs heard none says = has_none parameters_command fs _ none (rw heard at says) refl

-- The first exchange of a run, where it alone accepts parameters.
abbrev pub NoneAccepts : List Exchange → Type 0
NoneAccepts [] = Unit
NoneAccepts (x ∷ xs) = (Says x (parameters_reply largest_packet accepted) → ⊥) × NoneAccepts xs

none_accepts : (xs : List Exchange) → NoneAccepts xs → (y : Exchange) → Memᴰ y xs → Says y (parameters_reply largest_packet accepted) → ⊥
none_accepts [] h y m says = Memᴰ.not-nil m
none_accepts (x ∷ xs) h y m says =
    ⊎_elim (λ (e : y ≡ x). h.0 (rw e at says)) (λ (r : Memᴰ y xs). none_accepts xs h.1 y r says) (Memᴰ.cases_cons m)

pub last_first : (p : Exchange) (xs : List Exchange) → Says p (parameters_reply largest_packet accepted) → NoneAccepts xs
    → LastParameters (p ∷ xs) p xs
last_first p xs accepts none = record { before = []; split = refl; accepts = accepts; no_later = none_accepts xs none }
