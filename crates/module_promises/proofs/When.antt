-- M1, the other way: the expected packet is acknowledged, and a repeat of the one just accepted; with the last comes the notice.
use Rattle.std.specs.Prelude.{ℕ, ◌+◌, ◌≤◌, ◌<◌, true, false, ◌≡◌, refl, length, get_or, drop}
use Rattle.std.proofs.lemmas.Bool.{false≢true}
use mathlib.Core.List.Memᴰ
use mathlib.Core.List.{List, [], ◌∷◌, ◌++◌, Memᴰ}
use Rattle.std.proofs.Common.{sym, ap, ◌∙◌, arith, length-drop}
use Rattle.std.proofs.Math.Decide.{dec_le, dec_lt}
use Rattle.octets.specs.Octets.{Bytes, number_at, part_of}
use Rattle.octets.proofs.Lists.{bytes_take}
use Rattle.octets.proofs.PartLaws.{number_short}
use Rattle.kinds.specs.Kinds.{base_of}
use Rattle.kinds.specs.KindsLaws.{FitsFlash, fits_flash_law}
use Rattle.pieces.specs.Pieces.{count_of, size_at}
use Rattle.pieces.specs.PiecesLaws.{within, size_first}
use Rattle.commands.specs.Commands.{largest_total, packet_command, accepted, packet_reply, notice}
use Rattle.module_model.specs.Phases.{total_of, held}
use Rattle.module_model.proofs.PhasesLaws.{Cut, cut_length, loading_facts, done_facts}
use Rattle.module_model.specs.Rules.{packet_head, data_in, numbers_in, place_of, frames_of, decide_of}
use Rattle.module_model.proofs.Outcomes.{Belongs, Expects, first, later, Accepted, loading, done}
use Rattle.module_model.proofs.Replies.{packet_said}
use Rattle.module_model.proofs.Due.{Confirms, expected_confirmed, repeat_confirmed}
use Rattle.module_model.specs.Answers.{is_refused}
use Rattle.module.specs.Session.{takes}
use Rattle.module.specs.SessionLaws.{takes_facts}
use Rattle.module.specs.Step.{Left}
use Rattle.module_promises.specs.Runs.{Given, Exchange, exchange, after_of, run_of, AllBytes, Says, heard_in, sent_by, payload_in, payload_of}
use Rattle.module_promises.proofs.RunsLaws.{heard_performed}
use Rattle.module_promises.proofs.Steps.{Case, refuses, sleeps, waits, hears, step_of_law}
use Rattle.module_promises.proofs.Flash.{base_is}
use Rattle.module_promises.proofs.Success.{last_notices}
use Rattle.module_promises.proofs.Track.{Track, Pieced, Tracked, reached_tracked}
use Rattle.module_promises.specs.Promises.{Opening, opened_by, LastParameters, Acknowledged, base_in, length_in, Expected}
use Rattle.module_promises.specs.Promises.{PacketFrame, ExpectedSucceeds, RepeatSucceeds}
use Rattle.module_model.specs.declared.phases.Transfer.{Transfer}
use Rattle.module_model.specs.declared.phases.Pieces.{Pieces}
use Rattle.module_model.specs.declared.phases.Phase.{Phase}
use Rattle.module_model.specs.declared.phases.Phase.TheVariants.{Closed, Ready, Begun, Loading, Done}
use Rattle.module_model.specs.declared.events.Event.{Event}
use Rattle.module_model.specs.declared.events.Event.TheVariants.{Frame, Elapsed}
use Rattle.module.specs.declared.session.Session.{Session}

-- ---- the last parameters

-- A history has one last exchange that accepts parameters.
pub last_only : (history : List Exchange) (p : Exchange) (ps : List Exchange) (q : Exchange) (qs : List Exchange)
    → LastParameters history p ps → LastParameters history q qs → (p ≡ q) × (ps ≡ qs)
last_only history p ps q qs l m = go l.before m.before (sym l.split ∙ m.split)
  where
    go : (bs cs : List Exchange) → bs ++ (p ∷ ps) ≡ cs ++ (q ∷ qs) → (p ≡ q) × (ps ≡ qs)
    go [] [] e = (ap (λ (xs : List Exchange). get_or xs 0 p) e, ap (drop 1) e)
    go [] (c ∷ cs) e =
        let behind : ps ≡ cs ++ (q ∷ qs) = ap (drop 1) e in
        absurd (l.no_later q (rw behind (Memᴰ.append_right cs (Memᴰ.head refl))) m.accepts)
    go (b ∷ bs) [] e =
        let behind : qs ≡ bs ++ (p ∷ ps) = sym (ap (drop 1) e) in
        absurd (m.no_later p (rw behind (Memᴰ.append_right bs (Memᴰ.head refl))) l.accepts)
    go (b ∷ bs) (c ∷ cs) e = go bs cs (ap (drop 1) e)

-- It is one of the history.
last_there : (history : List Exchange) (p : Exchange) (ps : List Exchange) → LastParameters history p ps → Memᴰ p history
last_there history p ps l = rw l.split (Memᴰ.append_right l.before (Memᴰ.head refl))

-- ---- what is heard of a packet

-- The command of an event.
abbrev pub command_in : Event → ℕ
command_in (Frame command count) = command
command_in (Elapsed ms) = 0

-- The payload of a frame is bytes.
payload_bytes : (e : Event) (payload : List ℕ) → Bytes payload → Bytes (payload_in e payload)
payload_bytes (Frame command count) payload h = bytes_take count payload h
payload_bytes (Elapsed ms) payload h = tt

-- An open session that does not refuse a packet is lent the flash of the opening, and says what the rules decide.
record Decides (s : Session) (g : Given) : Type 0 where
  size : length g.flash ≡ s.flash
  heard : heard_in (sent_by (exchange s g).left) ≡ frames_of (decide_of s.phase packet_command (payload_of g) g.flash).say

decides : (s : Session) (g : Given) (count : ℕ) → g.event ≡ Frame packet_command count → takes s ≡ true
    → is_refused (exchange s g).left.answer ≡ false → Decides s g
decides s g count ev t taken = go (exchange s g).left refl (step_of_law s g)
  where
    go : (l : Left) → (exchange s g).left ≡ l → Case s g l → Decides s g
    go l at (refuses n e) = absurd (false≢true (sym taken ∙ ap (λ (x : Left). is_refused x.answer) (at ∙ e)))
    go l at (sleeps closed e) = absurd (false≢true (sym closed ∙ t))
    go l at (waits o size ms elapsed e) = absurd (omega (arith, ap command_in (sym ev ∙ elapsed)))
    go l at (hears o size command k frame e) =
        let same : command ≡ packet_command = ap command_in (sym frame ∙ ev) in
        record {
          size = size;
          heard =
              ap (λ (x : Left). heard_in (sent_by x)) (at ∙ e)
              ∙ heard_performed s (decide_of s.phase command (payload_of g) g.flash) (payload_of g) g.flash g.reply
              ∙ ap (λ (n : ℕ). frames_of (decide_of s.phase n (payload_of g) g.flash).say) same;
        }

-- Where that confirms a packet, its acknowledgement is heard.
confirmed_heard : (s : Session) (g : Given) (phase : Phase) (number : ℕ) → Decides s g → s.phase ≡ phase → number ≤ largest_total
    → Confirms (decide_of phase packet_command (payload_of g) g.flash) number → Says (exchange s g) (packet_reply number accepted)
confirmed_heard s g phase number d at short c =
    rw (d.heard, at, c.is) (packet_said c.phase number short).says

-- ---- the expected packet

-- A frame with the numbers of a packet of a transfer belongs to it.
frame_belongs : (p : Pieces) (number : ℕ) (g : Given) (flash : ℕ) → Cut p
    → FitsFlash p.transfer.kind p.transfer.extent flash → 1 ≤ number → number ≤ total_of p
    → PacketFrame g (total_of p) number (size_at p.transfer.extent p.size number) → Belongs p number (payload_of g) flash
unfolding numbers_in
frame_belongs p number g flash cut fit one most f =
    let n = p.transfer.extent in
    let w = within n p.size number (cut_length p cut) cut.some one most in
    let long : length (data_in (payload_of g)) ≡ size_at n p.size number = length-drop packet_head (payload_of g) ∙ omega (arith, f.long) in
    record {
      fitting = fit;
      cut = cut;
      one = one;
      most = most;
      number_is = f.number_field;
      total_is = f.total_field;
      size_is = long;
      form = record {
        some = omega (arith, long, w.some);
        most = omega (arith, long, w.most, cut.small);
        size_is = f.size_field ∙ sym long;
      };
    }

-- Of a history whose last parameters are given: what is tracked of it is told of these.
module _ (history : List Exchange) (parameters : Exchange) (since : List Exchange) (last : LastParameters history parameters since) where
  module _ (t : Transfer) (number : ℕ) (pieces : List (List ℕ)) (r : Track history t number pieces) where
    same_last : (parameters ≡ r.parameters) × (since ≡ r.since)
    same_last = last_only history parameters since r.parameters r.since last r.last

    length_told : length_in parameters ≡ t.extent
    length_told = ap length_in same_last.0 ∙ r.declared.length_is

    base_told : base_in parameters ≡ base_of t.kind
    base_told = ap base_in same_last.0 ∙ base_is r.parameters t r.declared

    -- No packet behind those that were accepted has been acknowledged, and each of them has.
    acknowledged_most : (k : ℕ) → k ≤ largest_total → Acknowledged k since → k ≤ number
    acknowledged_most k short a = r.loaded.most a.exchange (rw same_last.1 at a.there) k short a.says

    acknowledged_all : (k : ℕ) → 1 ≤ k → k ≤ number → Acknowledged k since
    acknowledged_all k one most = rw same_last.1 (r.loaded.all k one most)

  -- An acknowledged packet belongs to the transfer, and the first is as long as its packets.
  module _ (p : Pieces) (number : ℕ) (h : Pieced history p number) where
    belongs_told : (x : Exchange) → Memᴰ x since → (k : ℕ) → 1 ≤ k → k ≤ largest_total → Says x (packet_reply k accepted)
        → Belongs p k (payload_of x.given) (length x.given.flash)
    belongs_told x m k = h.belong x (rw (same_last p.transfer number h.pieces h.track).1 at m) k

    size_told : (size : ℕ)
        → ((x : Exchange) → Memᴰ x since → Says x (packet_reply 1 accepted) → length (data_in (payload_of x.given)) ≡ size)
        → p.size ≡ size
    size_told size set =
        let a = acknowledged_all p.transfer number h.pieces h.track 1 (omega arith) h.one in
        let b = belongs_told a.exchange a.there 1 (omega arith) (omega arith) a.says in
        sym (size_first p.transfer.extent p.size b.cut.some b.cut.within)
        ∙ sym b.size_is
        ∙ set a.exchange a.there a.says

-- The expected packet given to an open session.
module _ (o : Opening) (gs : List Given) (g : Given) (all : AllBytes gs) where
  abbrev now : Session
  now = after_of (opened_by o) gs

  abbrev history : List Exchange
  history = run_of (opened_by o) gs

  module _ (parameters : Exchange) (since : List Exchange) (last : LastParameters history parameters since) (size k : ℕ)
      (e : Expected parameters since size k)
      (f : PacketFrame g (count_of (length_in parameters) size) k (size_at (length_in parameters) size k))
      (t : takes now ≡ true) (d : Decides now g) where
    -- What its phase has gone through could arise over the lent flash.
    held_now : (phase : Phase) → now.phase ≡ phase → held phase (length g.flash) ≡ true
    held_now phase at = rw (d.size, ← at) (takes_facts now t).1

    short : k ≤ largest_total
    short = omega (arith, e.most, e.total_most)

    -- It is acknowledged where the phase expects it, of a transfer with this length and size.
    phase_says : (phase : Phase) (p : Pieces) → now.phase ≡ phase → length_in parameters ≡ p.transfer.extent → p.size ≡ size
        → FitsFlash p.transfer.kind p.transfer.extent (length g.flash) → Expects phase p k
        → Says (exchange now g) (packet_reply k accepted)
    phase_says phase p at long same fit x =
        let cut : Cut p =
        record {
          some = rw same e.size_some;
          small = rw same e.size_most;
          within = rw (same, ← long) e.size_short;
          total_most = rw (same, ← long) e.total_most;
        } in
        let frame : PacketFrame g (total_of p) k (size_at p.transfer.extent p.size k) = rw (same, ← long) f in
        let most : k ≤ total_of p = rw (same, ← long) e.most in
        let b = frame_belongs p k g (length g.flash) cut fit e.some most frame in
        confirmed_heard now g phase k d at short (expected_confirmed phase p k (payload_of g) g.flash (length g.flash) x b)

    expected_says : (phase : Phase) → now.phase ≡ phase → Tracked history phase → Says (exchange now g) (packet_reply k accepted)
    expected_says Closed at h = absurd (false≢true (held_now Closed at))
    expected_says Ready at h = absurd (h parameters (last_there history parameters since last) last.accepts)
    expected_says (Begun tr) at h =
        phase_says (Begun tr) (record { transfer = tr; size = size }) at (length_told history parameters since last tr 0 [] h) refl
        (fits_flash_law tr.kind tr.extent (length g.flash) (held_now (Begun tr) at)) (first refl (only (dec_lt 1 k)))
      where
        only : Dec (1 < k) → k ≡ 1
        only (yes more) =
            absurd (omega (arith, acknowledged_most history parameters since last tr 0 [] h 1 (omega arith) (e.before 1 (omega arith) more)))
        only (no one) = omega (arith, one, e.some)
    expected_says (Loading p number written) at h =
        let l = loading_facts p (length g.flash) number written (held_now (Loading p number written) at) in
        phase_says (Loading p number written) p at (length_told history parameters since last p.transfer number h.pieces h.track)
        (size_told history parameters since last p number h size e.size_set) l.fitting
        (later number written refl (next (omega (arith, l.before, l.cut.total_most)) (dec_le k number) (dec_lt (number + 1) k)))
      where
        next : number + 1 ≤ largest_total → Dec (k ≤ number) → Dec (number + 1 < k) → k ≡ number + 1
        next small (yes old) far =
            absurd (e.not_yet (acknowledged_all history parameters since last p.transfer number h.pieces h.track k e.some old))
        next small (no new) (yes far) =
            absurd (omega (
              arith,
              acknowledged_most history parameters since last p.transfer number h.pieces h.track (number + 1) small
                  (e.before (number + 1) (omega arith) far),
            ))
        next small (no new) (no near) = omega (arith, new, near)
    expected_says (Done p written) at h =
        let total = total_of p in
        let most : k ≤ total =
        rw (
          size_told history parameters since last p total h size e.size_set,
          ← length_told history parameters since last p.transfer total h.pieces h.track,
        ) e.most in
        absurd (e.not_yet (acknowledged_all history parameters since last p.transfer total h.pieces h.track k e.some most))

pub expected_succeeds : ExpectedSucceeds
expected_succeeds o gs g all bytes parameters since last size k e f t taken = (says, notices)
  where
    s : Session
    s = after_of (opened_by o) gs

    says : Says (exchange s g) (packet_reply k accepted)
    says =
        expected_says o gs g all parameters since last size k e f t (decides s g f.count f.packet t taken) s.phase refl
        (reached_tracked o gs all)

    notices : k ≡ count_of (length_in parameters) size → Says (exchange s g) (notice 0)
    notices total =
        last_notices s g bytes k (record {
          count = f.count;
          packet = f.packet;
          total_field = f.total_field ∙ sym total;
          number_field = f.number_field;
          some = e.some;
          acknowledged = says;
        })

-- ---- a repeat

pub repeat_succeeds : RepeatSucceeds
repeat_succeeds o gs g all bytes size k r t taken = (says, notices)
  where
    s : Session
    s = after_of (opened_by o) gs

    history : List Exchange
    history = run_of (opened_by o) gs

    x : Exchange
    x = exchange s g

    d : Decides s g
    d = decides s g r.count r.packet t taken

    -- Its number is two bytes.
    short : k ≤ largest_total
    short = omega (arith, r.number_field, number_short 2 (payload_of g) 2 (payload_bytes g.event g.payload bytes))

    held_then : (phase : Phase) → s.phase ≡ phase → held phase (length g.flash) ≡ true
    held_then phase at = rw (d.size, ← at) (takes_facts s t).1

    -- It is one of those accepted.
    reached : (tr : Transfer) (number : ℕ) (pieces : List (List ℕ)) → Track history tr number pieces → k ≤ number
    reached tr number pieces h =
        acknowledged_most history r.parameters r.since r.last tr number pieces h k short
        (record { exchange = r.former; there = r.there; says = r.acknowledged })

    -- It belongs to the transfer, as the former did.
    belongs_again : (p : Pieces) (number : ℕ) → Pieced history p number → Belongs p k (payload_of g) (length r.former.given.flash)
    belongs_again p number h =
        rw r.same
        (belongs_told history r.parameters r.since r.last p number h r.former r.there k r.some short r.acknowledged)

    -- It is the last of them, as no later one has been acknowledged.
    latest : (p : Pieces) (number : ℕ) → Pieced history p number → number ≤ total_of p → k ≡ number
    latest p number h most = go (dec_lt k number)
      where
        go : Dec (k < number) → k ≡ number
        go (yes before) =
            absurd (r.no_later number before (rw (belongs_again p number h).total_is most)
            (acknowledged_all history r.parameters r.since r.last p.transfer number h.pieces h.track number h.one
            (omega arith)))
        go (no same) = omega (arith, same, reached p.transfer number h.pieces h.track)

    -- So it is acknowledged where the phase has just accepted it.
    phase_says : (phase : Phase) (p : Pieces) (number : ℕ) → s.phase ≡ phase → Pieced history p number → number ≤ total_of p
        → Accepted phase p number → Says x (packet_reply k accepted)
    phase_says phase p number at h most a =
        let is = latest p number h most in
        let again = belongs_again p number h in
        let base = base_told history r.parameters r.since r.last p.transfer number h.pieces h.track in
        let same : p.size ≡ size = size_told history r.parameters r.since r.last p number h size r.size_set in
        let stands : data_in (payload_of g) ≡ part_of g.flash (place_of p k) (length (data_in (payload_of g))) = rw (same, ← base) r.stands in
        confirmed_heard s g phase k d at short (repeat_confirmed phase p k (payload_of g) g.flash _ (rw is a) again stands)

    go : (phase : Phase) → s.phase ≡ phase → Tracked history phase → Says x (packet_reply k accepted)
    go Closed at h = absurd (false≢true (held_then Closed at))
    go Ready at h = absurd (h r.parameters (last_there history r.parameters r.since r.last) r.last.accepts)
    go (Begun tr) at h = absurd (omega (arith, r.some, reached tr 0 [] h))
    go (Loading p number written) at h =
        let l = loading_facts p (length g.flash) number written (held_then (Loading p number written) at) in
        phase_says (Loading p number written) p number at h (omega (arith, l.before)) (loading written refl l.before)
    go (Done p written) at h =
        let f = done_facts p (length g.flash) written (held_then (Done p written) at) in
        phase_says (Done p written) p (total_of p) at h (omega arith) (done (ap (Done p) f.all) refl)

    says : Says x (packet_reply k accepted)
    says = go s.phase refl (reached_tracked o gs all)

    notices : number_at 2 (payload_of g) 0 ≡ k → Says x (notice 0)
    notices total =
        last_notices s g bytes k (record {
          count = r.count;
          packet = r.packet;
          total_field = total;
          number_field = r.number_field;
          some = r.some;
          acknowledged = says;
        })
