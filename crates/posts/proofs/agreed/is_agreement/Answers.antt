-- `is_agreement`: the writer's own one, compared.
use Rattle.std.proofs.Common.{of_calls, ℕ, List, ◌≡◌, refl, ◌∙◌}
use Rattle.std.specs.Prelude.{Bool, false, Result, Ok, Err, MatchResult, length}
use Rattle.octets.specs.Octets.{same_bytes, part_of}
use Rattle.octets.proofs.Words.{same_pointwise}
use Rattle.refusals.specs.declared.Refusal.{Refusal}
use Rattle.wire.specs.Write.{write_of}
use Rattle.commands.specs.Commands.{accepted, rate_reply}
use Rattle.posts.specs.Agreed.{agreement}
use Rattle.posts.specs.AgreedLaws.{agreement_compared, agreement_refused}
use Rattle.posts.proofs.agreed.is_agreement.Goals as goal

compared : (rate : ℕ) (own after reply : List ℕ) (answer : Result ℕ Refusal) → length own ≡ 16
    → record { answer = answer; output = after } ≡ write_of (rate_reply rate accepted) own
    → (b : Bool) (says : ℕ → Type 0) → MatchResult answer says (λ _. b ≡ false)
    → ((n : ℕ) → says n → b ≡ same_bytes (part_of after 0 n) reply)
    → b ≡ same_bytes (agreement rate) reply
compared rate own after reply (Ok n) size wrote b says h each = each n h ∙ agreement_compared rate own after (Ok n) size wrote n reply refl
compared rate own after reply (Err e) size wrote b says h each = absurd (agreement_refused rate own after (Err e) size wrote e refl)

pub returns : goal.returns
returns c =
    let a = c.args in
    compared a.rate _ c.write-written.new.out a.reply.now _ refl c.write-written.ensures c.is_ok_and.result _ c.is_ok_and.ensures (λ n h. search (of_calls, same_pointwise))
