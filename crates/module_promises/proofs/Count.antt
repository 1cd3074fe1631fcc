-- M2: the sizes of the packets that have been acknowledged add up to what the session counts, and at the last one to the declared length.
use Rattle.std.specs.Prelude.{ℕ, ◌+◌, ◌-◌, ◌≤◌, List, [], ◌∷◌, ◌++◌, map, ◌≡◌, refl, length}
use Rattle.std.proofs.Common.{sym, ap, ◌∙◌, arith, length-append}
use Rattle.std.proofs.lemmas.List.{length-map}
use Rattle.std.proofs.Math.ListN.{get_or-map}
use Rattle.octets.specs.Octets.{Bytes}
use Rattle.pieces.specs.PiecesLaws.{ends_with}
use Rattle.commands.specs.Commands.{largest_total, accepted, packet_reply}
use Rattle.module_model.specs.Phases.{total_of}
use Rattle.module_model.proofs.PhasesLaws.{cut_length}
use Rattle.module_model.specs.Rules.{numbers_in, data_in}
use Rattle.module_model.proofs.Outcomes.{Belongs}
use Rattle.module_model.proofs.Leads.{accepted_written, accepted_open}
use Rattle.module.specs.Session.{written_of}
use Rattle.module.specs.SessionLaws.{takes_facts, open_takes, written_open}
use Rattle.module_promises.specs.Runs.{Given, Exchange, exchange, next_of, after_of, run_of, AllBytes, Says, payload_of}
use Rattle.module_promises.proofs.Said.{AcceptsPacket, Turn, quiet, declares, writes, again, turn_of}
use Rattle.module_promises.proofs.Track.{Pieced, last_ends}
use Rattle.module_promises.proofs.Success.{notice_ends, last_notices, run_pieced_to}
use Rattle.module_promises.proofs.Arises.{step_arises, reached_arises}
use Rattle.module_promises.specs.Promises.{Opening, opened_by, joined, LastPacket, length_in, sum_of, HasSize, Counted, CountIsLength}
use Rattle.module_model.specs.declared.phases.Pieces.{Pieces}
use Rattle.module.specs.declared.session.Session.{Session}

-- Pieces one behind the other are as long as all of them together.
joined_long : (ds : List (List ℕ)) → length (joined ds) ≡ sum_of (map length ds)
joined_long [] = refl
joined_long (d ∷ ds) = length-append d (joined ds) ∙ ap (λ (n : ℕ). length d + n) (joined_long ds)

-- A step that acknowledges a packet of some transfer.
record Accepts (s : Session) (g : Given) (k : ℕ) : Type 0 where
  p : Pieces
  packet : AcceptsPacket s g p k

-- The reply says so by such a step only.
says_accepts : (s : Session) (g : Given) → Bytes g.payload → (k : ℕ) → k ≤ largest_total → Says (exchange s g) (packet_reply k accepted)
    → Accepts s g k
says_accepts s g bytes k short says = go (turn_of s g bytes)
  where
    named : (p : Pieces) (number : ℕ) → AcceptsPacket s g p number → Accepts s g k
    named p number a = record { p = p; packet = rw (a.said.only k short says) a }

    go : Turn s g → Accepts s g k
    go (quiet q same phase) = absurd (q.no_packet k says)
    go (declares t d phase) = absurd (d.said.no_packet k says)
    go (writes p number a expects put) = named p number a
    go (again p number a behind same put) = named p number a

-- A packet that belongs to a transfer has the size that its data have.
has_size : (x : Exchange) (p : Pieces) (k flash n : ℕ) → Belongs p k (payload_of x.given) flash → length (data_in (payload_of x.given)) ≡ n → HasSize x n
unfolding numbers_in
has_size x p k flash n b long = record { size_field = b.form.size_is ∙ long; long = long }

-- A run from an opening and one exchange more.
abbrev history_of : Opening → List Given → Given → List Exchange
history_of o gs g = run_of (opened_by o) gs ++ (exchange (after_of (opened_by o) gs) g ∷ [])

-- Any step that acknowledges a packet, at the end of such a run.
module _ (o : Opening) (gs : List Given) (g : Given) (all : AllBytes gs) (bytes : Bytes g.payload) where
  abbrev now : Session
  now = after_of (opened_by o) gs

  abbrev history : List Exchange
  history = history_of o gs g

  -- What the session then counts.
  counts : (k : ℕ) (p : Pieces) → AcceptsPacket now g p k → (h : Pieced history p k) → written_of (next_of now g) ≡ sum_of (map length h.pieces)
  counts k p a h =
      let next = next_of now g in
      let arisen = step_arises now g (reached_arises o gs all) bytes in
      let t = open_takes next arisen (accepted_open next.phase p k a.after) in
      written_open next t
      ∙ accepted_written next.phase p k next.flash a.after (takes_facts next t).1 a.belongs.cut h.one
      ∙ sym (last_ends p k h.pieces h.ending)
      ∙ joined_long h.pieces

  -- The sizes are those of the pieces.
  counted : (k : ℕ) → k ≤ largest_total → (p : Pieces) → AcceptsPacket now g p k → (h : Pieced history p k)
      → Counted (written_of (next_of now g)) history k
  counted k short p a h =
      let l = h.track.loaded in
      record {
        parameters = h.track.parameters;
        since = h.track.since;
        last = h.track.last;
        sizes = map length h.pieces;
        one_each = length-map h.pieces length ∙ l.count;
        each = l.all;
        size = λ x m i one most says.
            let few : i ≤ largest_total = omega (arith, most, short) in
            has_size x p i _ _ (h.belong x m i one few says) (l.sizes x m i one few says ∙ sym (get_or-map length h.pieces (i - 1) []));
        count = counts k p a h;
      }

  -- With the last packet they are the length that the parameters declare.
  whole : (p : Pieces) → AcceptsPacket now g p (total_of p) → (h : Pieced history p (total_of p))
      → sum_of (map length h.pieces) ≡ length_in h.track.parameters
  whole p a h =
      let cut = a.belongs.cut in
      sym (joined_long h.pieces)
      ∙ last_ends p (total_of p) h.pieces h.ending
      ∙ ends_with p.transfer.extent p.size (cut_length p cut) cut.some
      ∙ sym h.track.declared.length_is

pub count_is_length : CountIsLength
unfolding counted
count_is_length o gs g all bytes = (along, at_last)
  where
    s : Session
    s = after_of (opened_by o) gs

    along : (k : ℕ) → 1 ≤ k → k ≤ largest_total → Says (exchange s g) (packet_reply k accepted)
        → Counted (written_of (next_of s g)) (history_of o gs g) k
    along k one short says =
        let a = says_accepts s g bytes k short says in
        counted o gs g all bytes k short a.p a.packet (run_pieced_to o gs g all bytes a.p k a.packet)

    at_last : (total : ℕ) → LastPacket (exchange s g) total
        → (c : Counted (written_of (next_of s g)) (history_of o gs g) total) × (sum_of c.sizes ≡ length_in c.parameters)
    at_last total last =
        let e = notice_ends s g bytes (last_notices s g bytes total last) in
        let p = e.p in
        let a = e.packet in
        let h = run_pieced_to o gs g all bytes p (total_of p) a in
        let is : total ≡ total_of p = sym last.total_field ∙ a.belongs.total_is in
        rw is (counted o gs g all bytes (total_of p) a.belongs.cut.total_most p a h, whole o gs g all bytes p a h)
