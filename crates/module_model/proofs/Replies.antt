-- What the frames of a reply say: nothing is accepted, or parameters are, or a packet is; and the notice behind the last packet.
use Rattle.std.specs.Prelude.{ℕ, ◌≤◌, ◌≡◌, refl, length, get_or, take}
use mathlib.Core.List.{List, [], ◌∷◌, ◌++◌, Memᴰ}
use Rattle.std.proofs.Common.{⊎_elim, sym, ap, ◌∙◌, arith, take_at}
use Rattle.std.proofs.lemmas.List.{get_or_at}
use Rattle.octets.specs.Octets.{little, spelled}
use Rattle.octets.proofs.OctetsLaws.{length_spelled, little_spelled}
use Rattle.wire.specs.Frame as wire
use Rattle.commands.specs.Commands.{largest_packet, largest_total, parameters_command, packet_command, notice_command, accepted}
use Rattle.commands.specs.Commands.{parameters_reply, packet_reply, restart_reply, notice}
use Rattle.module_model.specs.Phases.{total_of}
use Rattle.module_model.specs.Rules.{frames_of, say_of}
use Rattle.module_model.proofs.RulesLaws.{state_whole_law}
use Rattle.module_model.proofs.Outcomes.{Plain, Accepted, loading, done, Outcome, stays, restarts, begins, advances, repeats}
use Rattle.module_model.proofs.Leads.{advance_accepted}
use Rattle.module_model.specs.declared.phases.Pieces.{Pieces}
use Rattle.module_model.specs.declared.phases.Phase.{Phase}
use Rattle.module_model.specs.declared.phases.Phase.TheVariants.{Closed, Ready, Begun, Loading, Done}
use Rattle.module_model.specs.declared.rules.Decision.{Decision}
use Rattle.module_model.specs.declared.rules.Say.{Say}
use Rattle.module_model.specs.declared.rules.Say.TheVariants.{Nothing, Rate, Parameters, Packet, Last, Restart}

-- The ACK behind a number of two bytes, and that number.
abbrev ack_in : wire.Frame → ℕ
ack_in f = get_or f.payload 2 0

abbrev number_in : wire.Frame → ℕ
number_in f = little (take 2 f.payload)

-- They are read as they were said.
ack_said : (number ack : ℕ) → get_or (spelled 2 number ++ (ack ∷ [])) 2 0 ≡ ack
ack_said number ack = get_or_at (spelled 2 number) ack [] 0 2 (length_spelled 2 number)

number_said : (number ack : ℕ) → number ≤ largest_total → little (take 2 (spelled 2 number ++ (ack ∷ []))) ≡ number
number_said number ack h =
    ap little (take_at (spelled 2 number) (ack ∷ []) 2 (length_spelled 2 number)) ∙ little_spelled 2 number (omega (arith, h))

-- Frames that accept nothing.
pub record Quiet (fs : List wire.Frame) : Type 0 where
  pub no_parameters : (most : ℕ) → Memᴰ (parameters_reply most accepted) fs → ⊥
  pub no_packet : (k : ℕ) → Memᴰ (packet_reply k accepted) fs → ⊥
  pub no_notice : Memᴰ (notice 0) fs → ⊥

-- Frames that accept parameters and no packet.
pub record Declaring (fs : List wire.Frame) : Type 0 where
  pub accepts : Memᴰ (parameters_reply largest_packet accepted) fs
  pub only : (most : ℕ) → most ≤ largest_total → Memᴰ (parameters_reply most accepted) fs → most ≡ largest_packet
  pub no_packet : (k : ℕ) → Memᴰ (packet_reply k accepted) fs → ⊥
  pub no_notice : Memᴰ (notice 0) fs → ⊥

-- Frames that acknowledge this packet, no other one, and no parameters.
pub record PacketSaid (number : ℕ) (fs : List wire.Frame) : Type 0 where
  pub says : Memᴰ (packet_reply number accepted) fs
  pub only : (k : ℕ) → k ≤ largest_total → Memᴰ (packet_reply k accepted) fs → k ≡ number
  pub no_parameters : (most : ℕ) → Memᴰ (parameters_reply most accepted) fs → ⊥

-- No frame accepts nothing.
pub nothing_quiet : Quiet []
nothing_quiet = record { no_parameters = λ most. mathlib.Core.List.Memᴰ.not-nil; no_packet = λ k. mathlib.Core.List.Memᴰ.not-nil; no_notice = mathlib.Core.List.Memᴰ.not-nil }

-- Equal frames have one command.
same_command : (f g : wire.Frame) → f ≡ g → f.command ≡ g.command
same_command f g e = ap (λ (x : wire.Frame). x.command) e

-- One frame that is no notice, and has an ACK that is not 0 where its command is one of the two, accepts nothing.
alone_quiet : (f : wire.Frame) → (f.command ≡ parameters_command → 1 ≤ ack_in f) → (f.command ≡ packet_command → 1 ≤ ack_in f)
    → (f.command ≡ notice_command → ⊥) → Quiet (f ∷ [])
alone_quiet f parameters packet other = record {
  no_parameters = λ most m.
      let e : parameters_reply most accepted ≡ f = mathlib.Core.List.Memᴰ.eq_of_singleton m in
      omega (arith, parameters (sym (same_command _ f e)), sym (ack_said most 0) ∙ ap ack_in e);
  no_packet = λ k m.
      let e : packet_reply k accepted ≡ f = mathlib.Core.List.Memᴰ.eq_of_singleton m in
      omega (arith, packet (sym (same_command _ f e)), sym (ack_said k 0) ∙ ap ack_in e);
  no_notice = λ m. other (sym (same_command _ f (mathlib.Core.List.Memᴰ.eq_of_singleton m)));
}

-- What is plain accepts nothing.
pub plain_quiet : (say : Say) → Plain say → Quiet (frames_of say)
plain_quiet Nothing h = nothing_quiet
plain_quiet (Rate rate ack) h = alone_quiet _ (λ e. omega (arith, e)) (λ e. omega (arith, e)) (λ e. omega (arith, e))
plain_quiet (Parameters ack) h = alone_quiet _ (λ e. rw (ack_said largest_packet ack) h) (λ e. omega (arith, e)) (λ e. omega (arith, e))
plain_quiet (Packet number ack) h =
    alone_quiet _ (λ e. omega (arith, e)) (λ e. rw (ack_said number ack) (omega (arith, h.1))) (λ e. omega (arith, e))
plain_quiet (Last number state) h = absurd h
plain_quiet (Restart ack) h = alone_quiet _ (λ e. omega (arith, e)) (λ e. omega (arith, e)) (λ e. omega (arith, e))

-- So does an accepted 0x06.
pub restart_quiet : Quiet (frames_of (Restart accepted))
restart_quiet = alone_quiet _ (λ e. omega (arith, e)) (λ e. omega (arith, e)) (λ e. omega (arith, e))

-- Accepted parameters are all that is said.
pub begun_declaring : Declaring (frames_of (Parameters accepted))
begun_declaring = record {
  accepts = mathlib.Core.List.Memᴰ.head refl;
  only = λ most short m.
      sym (number_said most accepted short) ∙ ap number_in (mathlib.Core.List.Memᴰ.eq_of_singleton m) ∙ number_said largest_packet accepted (omega arith);
  no_packet = λ k m. omega (arith, same_command (packet_reply k accepted) (parameters_reply largest_packet accepted) (mathlib.Core.List.Memᴰ.eq_of_singleton m));
  no_notice = λ m. omega (arith, same_command (notice 0) (parameters_reply largest_packet accepted) (mathlib.Core.List.Memᴰ.eq_of_singleton m));
}

-- An accepted packet and notices behind it acknowledge this packet.
acknowledging : (number : ℕ) (rest : List wire.Frame) → number ≤ largest_total
    → ((f : wire.Frame) → Memᴰ f rest → f.command ≡ notice_command) → PacketSaid number (packet_reply number accepted ∷ rest)
acknowledging number rest most notices = record {
  says = mathlib.Core.List.Memᴰ.head refl;
  only = λ k short m.
      ⊎_elim
      (λ (e : packet_reply k accepted ≡ packet_reply number accepted).
      sym (number_said k accepted short) ∙ ap number_in e ∙ number_said number accepted most)
      (λ (n : Memᴰ (packet_reply k accepted) rest). omega (arith, notices _ n))
      (mathlib.Core.List.Memᴰ.cases_cons m);
  no_parameters = λ most m.
      ⊎_elim
      (λ (e : parameters_reply most accepted ≡ packet_reply number accepted). omega (arith, same_command _ _ e))
      (λ (n : Memᴰ (parameters_reply most accepted) rest). omega (arith, notices _ n))
      (mathlib.Core.List.Memᴰ.cases_cons m);
}

-- What is said of an accepted packet acknowledges it, in any phase.
pub packet_said : (phase : Phase) (number : ℕ) → number ≤ largest_total → PacketSaid number (frames_of (say_of phase number))
packet_said Closed number most = acknowledging number [] most (λ f m. absurd (mathlib.Core.List.Memᴰ.not-nil m))
packet_said Ready number most = acknowledging number [] most (λ f m. absurd (mathlib.Core.List.Memᴰ.not-nil m))
packet_said (Begun t) number most = acknowledging number [] most (λ f m. absurd (mathlib.Core.List.Memᴰ.not-nil m))
packet_said (Loading p n written) number most = acknowledging number [] most (λ f m. absurd (mathlib.Core.List.Memᴰ.not-nil m))
packet_said (Done p written) number most =
    acknowledging number (notice _ ∷ []) most (λ f m. same_command f (notice _) (mathlib.Core.List.Memᴰ.eq_of_singleton m))

-- With the last packet, and only with it, the notice of State 0 is said.
pub notice_last : (phase : Phase) (p : Pieces) (number : ℕ) → Accepted phase p number
    → Memᴰ (notice 0) (frames_of (say_of phase number)) → number ≡ total_of p
notice_last phase p number (loading written e before) m =
    let none : Memᴰ (notice 0) (packet_reply number accepted ∷ []) = rw e at m in
    absurd (omega (arith, same_command (notice 0) (packet_reply number accepted) (mathlib.Core.List.Memᴰ.eq_of_singleton none)))
notice_last phase p number (done e last) m = last

pub last_notice : (phase : Phase) (p : Pieces) (number : ℕ) → Accepted phase p number → number ≡ total_of p
    → Memᴰ (notice 0) (frames_of (say_of phase number))
last_notice phase p number (loading written e before) last = absurd (omega (arith, last))
last_notice phase p number (done e is) last = rw (e, state_whole_law p p.transfer.extent refl) (mathlib.Core.List.Memᴰ.tail (mathlib.Core.List.Memᴰ.head refl))

-- ---- whatever is said with the command of a notice is the notice of State 0

-- One frame that is no notice.
alone_other : (f g : wire.Frame) → (g.command ≡ notice_command → ⊥) → Memᴰ f (g ∷ []) → f.command ≡ notice_command → f ≡ notice 0
alone_other f g other m is = absurd (other (sym (same_command f g (mathlib.Core.List.Memᴰ.eq_of_singleton m)) ∙ is))

-- Where nothing is accepted there is none;
plain_notice : (say : Say) → Plain say → (f : wire.Frame) → Memᴰ f (frames_of say) → f.command ≡ notice_command → f ≡ notice 0
plain_notice Nothing h f m is = absurd (mathlib.Core.List.Memᴰ.not-nil m)
plain_notice (Rate rate ack) h f m is = alone_other f _ (λ e. omega (arith, e)) m is
plain_notice (Parameters ack) h f m is = alone_other f _ (λ e. omega (arith, e)) m is
plain_notice (Packet number ack) h f m is = alone_other f _ (λ e. omega (arith, e)) m is
plain_notice (Last number state) h f m is = absurd h
plain_notice (Restart ack) h f m is = alone_other f _ (λ e. omega (arith, e)) m is

-- behind an accepted packet all has been written.
accepted_notice : (phase : Phase) (p : Pieces) (number : ℕ) → Accepted phase p number → (f : wire.Frame)
    → Memᴰ f (frames_of (say_of phase number)) → f.command ≡ notice_command → f ≡ notice 0
accepted_notice phase p number (loading written e before) f m is =
    let none : Memᴰ f (packet_reply number accepted ∷ []) = rw e at m in
    alone_other f _ (λ c. omega (arith, c)) none is
accepted_notice phase p number (done e last) f m is =
    let two : Memᴰ f (packet_reply number accepted ∷ notice 0 ∷ []) = rw (e, state_whole_law p p.transfer.extent refl) at m in
    ⊎_elim
    (λ (e : f ≡ packet_reply number accepted). absurd (omega (arith, same_command f _ e, is)))
    (λ (n : Memᴰ f (notice 0 ∷ [])). mathlib.Core.List.Memᴰ.eq_of_singleton n)
    (mathlib.Core.List.Memᴰ.cases_cons two)

-- Whatever a frame does.
pub said_notice : (phase : Phase) (command : ℕ) (payload flash : List ℕ) (d : Decision) → Outcome phase command payload flash d
    → (f : wire.Frame) → Memᴰ f (frames_of d.say) → f.command ≡ notice_command → f ≡ notice 0
said_notice phase command payload flash d (stays say h e) f m is = plain_notice say h f (rw e at m) is
said_notice phase command payload flash d (restarts c e) f m is = alone_other f (restart_reply accepted) (λ x. omega (arith, x)) (rw e at m) is
said_notice phase command payload flash d (begins t c k n fits e) f m is =
    alone_other f (parameters_reply largest_packet accepted) (λ x. omega (arith, x)) (rw e at m) is
said_notice phase command payload flash d (advances p number c x k e) f m is =
    accepted_notice _ p number (advance_accepted p number payload (length flash) k) f (rw e at m) is
said_notice phase command payload flash d (repeats p number c x k same e) f m is = accepted_notice phase p number x f (rw e at m) is
