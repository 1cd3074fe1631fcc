-- M1: the notice of State 0 is said exactly with the last packet, each packet having been acknowledged.
use Rattle.std.specs.Prelude.{ℕ, List, [], ◌∷◌, ◌++◌}
use Rattle.std.proofs.Common.{sym, ◌∙◌}
use Rattle.octets.specs.Octets.{Bytes}
use Rattle.commands.specs.Commands.{notice}
use Rattle.module_model.specs.Phases.{total_of}
use Rattle.module_promises.specs.Runs.{Given, exchange, next_of, after_of, run_of, AllBytes, Says}
use Rattle.module_promises.proofs.Said.{AcceptsPacket, Turn, quiet, declares, writes, again, turn_of}
use Rattle.module_promises.proofs.Track.{Pieced, accepted_pieced, tracked_more, reached_tracked}
use Rattle.module_promises.specs.Promises.{Opening, opened_by, LastPacket, Success, SuccessExactly}
use Rattle.module_model.specs.declared.phases.Pieces.{Pieces}
use Rattle.module.specs.declared.session.Session.{Session}

-- A step that acknowledges the last packet of a transfer.
pub record Ends (s : Session) (g : Given) : Type 0 where
  pub p : Pieces
  pub packet : AcceptsPacket s g p (total_of p)

-- The notice is said by such a step only.
pub notice_ends : (s : Session) (g : Given) → Bytes g.payload → Says (exchange s g) (notice 0) → Ends s g
notice_ends s g bytes says = go (turn_of s g bytes)
  where
    ends : (p : Pieces) (number : ℕ) → AcceptsPacket s g p number → Ends s g
    ends p number a = record { p = p; packet = rw (a.notice_last says) at a }

    go : Turn s g → Ends s g
    go (quiet q same phase) = absurd (q.no_notice says)
    go (declares t d phase) = absurd (d.said.no_notice says)
    go (writes p number a expects put) = ends p number a
    go (again p number a behind same put) = ends p number a

-- The last packet, acknowledged, brings the notice.
pub last_notices : (s : Session) (g : Given) → Bytes g.payload → (total : ℕ) → LastPacket (exchange s g) total
    → Says (exchange s g) (notice 0)
last_notices s g bytes total last = go (turn_of s g bytes)
  where
    notices : (p : Pieces) (number : ℕ) → AcceptsPacket s g p number → Says (exchange s g) (notice 0)
    notices p number a =
        let k = a.belongs in
        a.last_notice (sym k.number_is ∙ last.number_field ∙ sym last.total_field ∙ k.total_is)

    go : Turn s g → Says (exchange s g) (notice 0)
    go (quiet q same phase) = absurd (q.no_packet total last.acknowledged)
    go (declares t d phase) = absurd (d.said.no_packet total last.acknowledged)
    go (writes p number a expects put) = notices p number a
    go (again p number a behind same put) = notices p number a

-- At the end of a run from an opening, a step that acknowledges a packet leaves a history that has accepted all packets up to it.
pub run_pieced_to : (o : Opening) (gs : List Given) (g : Given) → AllBytes gs → Bytes g.payload → (p : Pieces) (number : ℕ)
    → AcceptsPacket (after_of (opened_by o) gs) g p number
    → Pieced (run_of (opened_by o) gs ++ (exchange (after_of (opened_by o) gs) g ∷ [])) p number
run_pieced_to o gs g all bytes p number a =
    let s = after_of (opened_by o) gs in
    let history = run_of (opened_by o) gs in
    accepted_pieced (history ++ (exchange s g ∷ [])) (next_of s g).phase p number a.after
    (tracked_more history s g bytes (reached_tracked o gs all))

-- So does the step that ends it: such a step leaves a history that has accepted all packets.
pub run_pieced : (o : Opening) (gs : List Given) (g : Given) → AllBytes gs → Bytes g.payload
    → (e : Ends (after_of (opened_by o) gs) g)
    → Pieced (run_of (opened_by o) gs ++ (exchange (after_of (opened_by o) gs) g ∷ [])) e.p (total_of e.p)
run_pieced o gs g all bytes e = run_pieced_to o gs g all bytes e.p (total_of e.p) e.packet

pub success_exactly : SuccessExactly
success_exactly o gs g all bytes = (only, λ total last accepted. last_notices s g bytes total last)
  where
    s : Session
    s = after_of (opened_by o) gs

    only : Says (exchange s g) (notice 0) → Success s (run_of (opened_by o) gs ++ (exchange s g ∷ [])) (exchange s g)
    only says =
        let e = notice_ends s g bytes says in
        let a = e.packet in
        let h = (run_pieced o gs g all bytes e).track in
        record {
          total = total_of e.p;
          last = record {
            count = a.count;
            packet = a.event_is;
            total_field = a.belongs.total_is;
            number_field = a.belongs.number_is;
            some = a.belongs.one;
            acknowledged = a.said.says;
          };
          all = record { parameters = h.parameters; since = h.since; last = h.last; each = h.loaded.all };
          open_session = a.open_session;
          not_refused = a.not_refused;
        }
