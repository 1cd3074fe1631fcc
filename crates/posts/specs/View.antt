-- What a person, or a file of the flash, needs to know of a post, and what an answer of the host says of the end.
use Rattle.std.specs.Prelude.{ℕ, Bool, cond, nat_lt, Some, None}
use Rattle.kinds.specs.Kinds.{base_of}
use Rattle.module_model.specs.Phases.{longest_idle}
use Rattle.module.specs.Session.{takes}
use Rattle.module_model.specs.declared.phases.Transfer.{Transfer}
use Rattle.module_model.specs.declared.phases.Pieces.{Pieces}
use Rattle.module_model.specs.declared.phases.Phase.{Phase}
use Rattle.module_model.specs.declared.phases.Phase.TheVariants.{Closed, Ready, Begun, Loading, Done}
use Rattle.host_model.specs.declared.events.Answer.{Answer}
use Rattle.host_model.specs.declared.events.Answer.TheVariants as answer
use Rattle.posts.specs.declared.post.Post.{Post}
use Rattle.posts.specs.declared.view.View.{View}
use Rattle.posts.specs.declared.ending.Ending.{Ending}
use Rattle.posts.specs.declared.ending.Ending.TheVariants as ending
use Rattle.posts.specs.declared.view.Stand.{Stand}
use Rattle.posts.specs.declared.view.Stand.TheVariants as stand

-- No transfer: only how far the session is.
abbrev pub bare_of : Stand → View
bare_of s = record { stand = s; kind = None; base = 0; extent = 0; written = 0 }

-- A transfer: where its range begins, how long it is, how much of it is written.
abbrev pub seen_of : Stand → Transfer → ℕ → View
seen_of s t written = record { stand = s; kind = Some t.kind; base = base_of t.kind; extent = t.extent; written = written }

abbrev pub cut_of : Stand → Pieces → ℕ → View
cut_of s p written = seen_of s p.transfer written

abbrev pub phase_view : Phase → View
phase_view Closed = bare_of stand.Closed
phase_view Ready = bare_of stand.Ready
phase_view (Begun t) = seen_of stand.Begun t 0
phase_view (Loading p number written) = cut_of stand.Loading p written
phase_view (Done p written) = cut_of stand.Done p written

-- A session that takes no events is seen as closed.
unfoldable pub view_of : Post → View
view_of post = cond (takes post.board.session) (phase_view post.board.session.phase) (bare_of stand.Closed)

-- A closed session was closed by its idle sum, and not by a restart.
abbrev pub idle_of : Post → Bool
idle_of post = nat_lt longest_idle post.board.session.idle

-- A load under way.
abbrev pub begun_of : {R : Type 0} → Ending R
begun_of = ending.UnderWay

-- What an answer of the host says of the end: nothing, done, or refused, with the module's byte that is passed on. A refusal stays as it
-- is told, by name or by any number.
abbrev pub ending_of : {R : Type 0} → Answer R → Ending R
ending_of answer.Nothing = ending.UnderWay
ending_of (answer.Sent n) = ending.UnderWay
ending_of answer.Done = ending.Done
ending_of (answer.Refused refusal) = ending.Refused refusal None
ending_of (answer.Failed refusal passed count) = ending.Refused refusal (Some passed)
