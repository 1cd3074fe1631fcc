-- The laws of posts as bytes.
use Rattle.std.specs.Prelude.{ℕ, ◌≤◌, cond, ltb, List, [], ◌≡◌, length}
use Rattle.std.proofs.Common.{ap, ◌∙◌}
use Rattle.flat.proofs.Room.{with_room}
use Rattle.posts.specs.Post.{PostLeft, post_left}
use Rattle.posts.specs.declared.post.Post.{Post}
use Rattle.posts.specs.declared.post.PostStep.{PostStep}
use Rattle.kept_module.specs.Kept.{Kept, kept}
use Rattle.kept_post.specs.Kept.{post_bytes, post_in, kept_as}

-- A call over bytes with room: the post read, its step, and what it leaves, put together.
pub call_by : (st flash reply : List ℕ) (short : Kept) (move : Post → PostLeft) {after : List ℕ} {answer count : ℕ} {p : Post} {step : PostStep}
    → post_bytes ≤ length st → p ≡ post_in st → post_left step flash reply ≡ move p
    → kept answer count after [] [] ≡ kept_as (post_left step [] []) st
    → kept answer count after flash reply ≡ cond (ltb (length st) post_bytes) short (kept_as (move (post_in st)) st)
call_by st flash reply short move room read left e =
    ap (λ (k : Kept). kept k.answer k.count k.state flash reply) e
    ∙ ap (λ (x : PostLeft). kept_as x st) (left ∙ ap move read)
    ∙ with_room short room
