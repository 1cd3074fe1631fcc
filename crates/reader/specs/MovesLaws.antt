-- A content byte is put only where the store has room for it.
use Rattle.std.specs.Prelude.{ℕ, ◌<◌, Bool, eqb, ltb}
use Rattle.std.proofs.Common.{ltb-true}
use Rattle.octets.proofs.Choice.{either_way}
use Rattle.wire.specs.Escape.{head_mark, escape_mark, tail_mark, may_follow, original_of}
use Rattle.wire.specs.Frame.{longest_content}
use Rattle.reader.specs.Moves.{content_move, follow_move, tail_move, inside_move, move_of}
use Rattle.reader.specs.declared.moves.Move.{Move}
use Rattle.reader.specs.declared.moves.Move.TheVariants.{Pass, Begin, Wait, Put, Drop, End}

abbrev pub HasRoom : ℕ → Move → Type 0
HasRoom count Pass = Unit
HasRoom count Begin = Unit
HasRoom count Wait = Unit
HasRoom count (Put b) = count < longest_content
HasRoom count Drop = Unit
HasRoom count End = Unit

content_room : (count b : ℕ) → HasRoom count (content_move count b)
unfolding content_move
content_room count b = either_way (HasRoom count) (ltb count longest_content) (λ e. ltb-true count longest_content e) (λ e. tt)

pub move_room : (count : ℕ) (opened pending : Bool) (b : ℕ) → HasRoom count (move_of count opened pending b)
unfolding move_of inside_move tail_move follow_move
move_room count opened pending b =
    either_way (HasRoom count) (eqb b head_mark) (λ h. tt) (λ h.
    either_way (HasRoom count) opened (λ o.
    either_way (HasRoom count) (eqb b tail_mark) (λ t. either_way (HasRoom count) pending (λ p. tt) (λ p. tt)) (λ t.
    either_way (HasRoom count) pending
    (λ p. either_way (HasRoom count) (may_follow b) (λ f. content_room count (original_of b)) (λ f. tt)) (λ p.
    either_way (HasRoom count) (eqb b escape_mark) (λ e. tt) (λ e. content_room count b))))
    (λ o. tt))
