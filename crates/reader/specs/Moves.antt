-- What one byte does to a reader, by its flags and its count alone.
use Rattle.std.specs.Prelude.{ℕ, Bool, cond, eqb, ltb}
use Rattle.wire.specs.Escape.{head_mark, escape_mark, tail_mark, may_follow, original_of}
use Rattle.wire.specs.Frame.{longest_content}
use Rattle.reader.specs.declared.moves.Move.{Move}
use Rattle.reader.specs.declared.moves.Move.TheVariants.{Pass, Begin, Wait, Put, Drop, End}

-- Each content byte up to the 1,035th is put at the count; the 1,036th drops the frame.
unfoldable pub content_move : ℕ → ℕ → Move
content_move count b = cond (ltb count longest_content) (Put b) Drop

-- The byte after the escape stands for a content byte, or the frame is dropped.
unfoldable pub follow_move : ℕ → ℕ → Move
follow_move count b = cond (may_follow b) (content_move count (original_of b)) Drop

-- The tail ends the content if no escape is pending.
unfoldable pub tail_move : Bool → Move
tail_move pending = cond pending Drop End

-- Inside a frame.
unfoldable pub inside_move : ℕ → Bool → ℕ → Move
inside_move count pending b =
    cond (eqb b tail_mark) (tail_move pending)
    (cond pending (follow_move count b) (cond (eqb b escape_mark) Wait (content_move count b)))

-- The head always opens a frame. Outside a frame every other byte is passed over.
unfoldable pub move_of : ℕ → Bool → Bool → ℕ → Move
move_of count opened pending b = cond (eqb b head_mark) Begin (cond opened (inside_move count pending b) Pass)

-- The same names for the crates above, which see no private type: what a byte does, and three of its cases.
abbrev pub Does : Type 0
Does = Move

abbrev pub passes : Does
passes = Pass

abbrev pub begins : Does
begins = Begin

abbrev pub waits : Does
waits = Wait
