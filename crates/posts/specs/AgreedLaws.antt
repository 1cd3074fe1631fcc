-- The laws of agreements: how the writer's own one is compared with a reply.
use Rattle.refusals.specs.declared.Refusal.{Refusal}
use Rattle.std.specs.Prelude.{◌≡◌, ℕ, List, length, ◌≢◌, refl, Err, Ok, Result}
use Rattle.std.proofs.Common.{sym, ◌∙◌, arith}
use Rattle.std.proofs.Math.Path.{ap}
use Rattle.octets.specs.Octets.{same_bytes, part_of}
use Rattle.octets.proofs.OctetsLaws.{take_over}
use Rattle.refusals.specs.Written.{Out, written, count_in}
use Rattle.wire.specs.Write.{write_of}
use Rattle.wire.specs.WriteLaws.{wire_most, write_done}
use Rattle.commands.specs.Commands.{accepted, rate_reply}
use Rattle.posts.specs.Agreed.{agreement}

-- Lent 16 bytes, the writer writes all of it.
agreement_written : (rate : ℕ) (own : List ℕ) → length own ≡ 16 → write_of (rate_reply rate accepted) own ≡ written (agreement rate) own
agreement_written rate own size =
    write_done (rate_reply rate accepted) own (omega arith) (omega (arith, wire_most (rate_reply rate accepted), size))

module _ (rate : ℕ) (own after : List ℕ) (answer : Result ℕ Refusal) (size : length own ≡ 16)
    (wrote : record { answer = answer; output = after } ≡ write_of (rate_reply rate accepted) own)
  where
    all : record { answer = answer; output = after } ≡ written (agreement rate) own
    all = wrote ∙ agreement_written rate own size

    -- What it has written is the agreement.
    pub agreement_compared : (n : ℕ) (reply : List ℕ) → answer ≡ Ok n → same_bytes (part_of after 0 n) reply ≡ same_bytes (agreement rate) reply
    unfolding part_of
    agreement_compared n reply e =
        let count : n ≡ length (agreement rate) = ap count_in (sym e ∙ ap (λ (o : Out). o.answer) all) in
        let left = ap (λ (o : Out). o.output) all in
        ap (λ (l : List ℕ). same_bytes l reply) (rw (left, count) (take_over (agreement rate) own (length (agreement rate)) refl))

    -- It is never refused.
    pub agreement_refused : (refusal : Refusal) → answer ≢ Err refusal
    agreement_refused refusal e = refused_count (sym e ∙ ap (λ (o : Out). o.answer) all)
      where
        refused_count : Err refusal ≡ Ok (length (agreement rate)) → ⊥
        refused_count h = let z : ◌≡◌ {A = ℕ} 0 1 = cc in omega arith
