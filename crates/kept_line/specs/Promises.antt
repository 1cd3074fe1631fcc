-- What the calls of both ends promise together, to be read without the proof.
use Rattle.std.specs.Prelude.{◌^◌, ◌≤◌, ◌<◌, ℕ, List, ◌≡◌, get_or, length}
use Rattle.kinds.specs.Kinds.{number_of}
use Rattle.kinds.specs.declared.Kind.{Kind}
use Rattle.host.specs.Step.{Wishes}
use Rattle.host_model.specs.Events.{load_done}
use Rattle.posts.specs.declared.post.Post.{Post}
use Rattle.line.specs.Promises.{Outside, Holds}
use Rattle.kept_host.specs.Record.{restarting_stage}
use Rattle.kept_caller.specs.Kept.{caller_bytes}
use Rattle.kept_caller.specs.Promises.{kept_opened}
use Rattle.kept_post.specs.Kept.{post_bytes, post_kept}
use Rattle.kept_post.specs.Promises.{Keeps}
use Rattle.kept_line.specs.Called.{Called, Call, MayCall, Ends, ours, caller_answers, MayBy, all_by, begun}

-- zrn_caller_view answers 6: a notice of State 0 has been taken.
abbrev pub SaysAccepted : Ends → Called → Type 0
SaysAccepted e x = e.stage x.caller ≡ restarting_stage

-- What is true wherever a run of calls has led, of the flash as it was at the host's opening and as it is now.
pub record InFlashByCalls (e : Ends) (kind : Kind) (image before : List ℕ) (x : Called) : Type 0 where
  -- Whatever the line did, and even if the load fails: the flash keeps its length, and no byte outside the declared range has changed.
  pub length_same : length x.flash ≡ length before
  pub elsewhere : (i : ℕ) → Outside kind image i → get_or x.flash i 0 ≡ get_or before i 0
  -- Once the view says 6, the declared range holds the image, now and after any further calls.
  pub accepted : SaysAccepted e x → (more : List Call) → MayBy e image x more → Holds kind image before (all_by e image x more).flash
  -- A call answers done only when the view said 6 before it.
  pub done_accepted : (m : Call) → MayCall x m → caller_answers e image x m ≡ load_done → SaysAccepted e x

-- L1 of the calls, stated of any calls, proved of ours (Calls.antt), refuted for wrong ones (Wrong.antt). Open a host by zrn_caller_open in bytes
-- with room, with any wishes over an image, lent again at every call; join it to a post in bytes with room: any reader, any session that
-- can arise, over any flash. Let the line make any calls that it may.
abbrev pub FileByCallsOf : Ends → Type 0
FileByCallsOf e =
    (kind : Kind) (w : Wishes) (image output st : List ℕ) (p : Post) (pst flash : List ℕ) (calls : List Call)
    → caller_bytes ≤ length st → length image < 2 ^ 64 → w.wish < 2 ^ 64
    → post_bytes ≤ length pst → Keeps p → length flash < 2 ^ 64
    → let start = begun (kept_opened st (number_of kind) w image output) (post_kept p pst) flash in
    MayBy e image start calls → InFlashByCalls e kind image flash (all_by e image start calls)

abbrev pub FileByCalls : Type 0
FileByCalls = FileByCallsOf ours
