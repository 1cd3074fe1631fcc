-- A lane without noise: each byte is put behind those under way, and counted; without room it is lost.
use Rattle.std.specs.Prelude.{◌≡◌, ℕ, Bool, ◌+◌, ◌%◌, ◌^◌, cond, List, [], ◌∷◌, length, nat_le, nat_lt, slice_set}
use Rattle.lanes.specs.declared.Lane.{Lane}

-- A lane, and the buffer that its bytes stand in.
pub record Way : Type 0 where
  pub lane : Lane
  pub bytes : List ℕ

abbrev pub way : Lane → List ℕ → Way
way lane bytes = record { lane = lane; bytes = bytes }

abbrev pub lane_with : ℕ → ℕ → ℕ → ℕ → ℕ → ℕ → Lane
lane_with at end sent hit inserted lost = record { at = at; end = end; sent = sent; hit = hit; inserted = inserted; lost = lost }

-- A count of 64 bits, one more.
abbrev pub one_more : ℕ → ℕ
one_more n = (n + 1) % 2 ^ 64

-- A lane that nothing is under way on begins anew at the front.
unfoldable pub cleared_of : Lane → Lane
cleared_of l = cond (nat_le l.end l.at) (lane_with 0 0 l.sent l.hit l.inserted l.lost) l

abbrev pub counted_of : Lane → Lane
counted_of l = lane_with l.at l.end (one_more l.sent) l.hit l.inserted l.lost

abbrev pub lost_of : Lane → Lane
lost_of l = lane_with l.at l.end l.sent l.hit l.inserted (one_more l.lost)

-- A byte is put at the end, or lost.
unfoldable pub put_of : Lane → ℕ → List ℕ → Way
put_of l byte bytes =
    cond (nat_lt l.end (length bytes))
    (way (lane_with l.at (l.end + 1) l.sent l.hit l.inserted l.lost) (slice_set bytes l.end byte))
    (way (lost_of l) bytes)

-- A byte that noise leaves alone, and some of them.
abbrev pub passed : Way → ℕ → Way
passed w byte = put_of (counted_of w.lane) byte w.bytes

unfoldable pub passes : Way → List ℕ → Way
passes w [] = w
passes w (b ∷ bs) = passes (passed w b) bs

-- Whether a byte is under way, and the lane when it is taken.
abbrev pub is_under_way : Lane → Bool
is_under_way l = nat_lt l.at l.end

abbrev pub taken_of : Lane → Lane
taken_of l = lane_with (l.at + 1) l.end l.sent l.hit l.inserted l.lost

-- What a clean lane leaves.
abbrev pub clean_of : Lane → List ℕ → List ℕ → Way
clean_of l bytes under = passes (way (cleared_of l) under) bytes

-- At rate 0 this is that.
abbrev pub Cleanly : ℕ → Way → Way → Type 0
Cleanly rate this that = rate ≡ 0 → this ≡ that
