-- What a history has accepted since its last parameters, phase by phase, and that each step keeps this.
use Rattle.std.specs.Prelude.{ℕ, ◌+◌, ◌-◌, ◌≤◌, ◌<◌, false, ◌⊎◌, ◌≡◌, refl, get_or, drop}
use mathlib.Core.List.Memᴰ
use mathlib.Core.List.{List, [], ◌∷◌, ◌++◌, append_assoc, append-nil, Memᴰ}
use Rattle.std.proofs.Common.{inl, inr, sym, ◌∙◌, arith}
use Rattle.std.proofs.Math.Path.{ap}
use Rattle.std.proofs.Math.Decide.{dec_le}
use Rattle.std.proofs.Math.ListN.{length, length-append, get_or-append}
use Rattle.std.proofs.lemmas.List.{get_or_at}
use Rattle.octets.specs.Octets.{Bytes, part_of, laid}
use Rattle.octets.proofs.OctetsLaws.{laid_next, laid_nothing}
use Rattle.octets.proofs.PartLaws.{part_behind}
use Rattle.octets.proofs.Choice.{cond_no, either_way}
use Rattle.octets.proofs.Lists.{each_more}
use Rattle.kinds.specs.Kinds.{base_of}
use Rattle.pieces.specs.Pieces.{offset_of, size_at}
use Rattle.pieces.specs.PiecesLaws.{Within, within, next_offset}
use Rattle.commands.specs.Commands.{largest_packet, largest_total, accepted, parameters_reply, packet_reply}
use Rattle.module_model.specs.Phases.{openable, total_of}
use Rattle.module_model.proofs.PhasesLaws.{cut_length}
use Rattle.module_model.specs.Rules.{data_in, place_of}
use Rattle.module_model.proofs.Outcomes.{Belongs, Expects, first, later, Accepted, loading, done}
use Rattle.module_model.proofs.Replies.{Quiet, PacketSaid}
use Rattle.module_model.specs.Answers.{is_refused}
use Rattle.module.specs.Session.{opening_of}
use Rattle.module_promises.specs.Runs.{Given, Exchange, exchange, next_of, after_of, after_by, run_of, run_by, AllBytes, Says, payload_of}
use Rattle.module_promises.proofs.Said.{Declares, AcceptsPacket, Turn, quiet, declares, writes, again, heard_of, turn_of}
use Rattle.module_promises.specs.Promises.{Opening, online, opened_by, LastParameters, Acknowledged, FirstAcknowledged, kept_by, NobodyElse}
use Rattle.module_promises.specs.Promises.{joined}
use Rattle.module_model.specs.declared.phases.Transfer.{Transfer}
use Rattle.module_model.specs.declared.phases.Pieces.{Pieces}
use Rattle.module_model.specs.declared.phases.Phase.{Phase}
use Rattle.module_model.specs.declared.phases.Phase.TheVariants.{Closed, Ready, Begun, Loading, Done}
use Rattle.module.specs.declared.session.Session.{Session}
use Rattle.module.specs.declared.session.Stepped.{Stepped}

-- ---- the flash that nobody else writes

-- The flash after some exchanges, from a flash on.
abbrev pub kept_after : List ℕ → List Exchange → List ℕ
kept_after flash [] = flash
kept_after flash (x ∷ xs) = kept_after (kept_by flash x) xs

-- One exchange more keeps what it keeps of the flash before it.
kept_more : (flash : List ℕ) (xs : List Exchange) (x : Exchange) → kept_after flash (xs ++ (x ∷ [])) ≡ kept_by (kept_after flash xs) x
kept_more flash [] x = refl
kept_more flash (y ∷ xs) x = kept_more (kept_by flash y) xs x

-- Where nobody else has written up to one exchange more, nobody had before it, and it was lent the flash as it stood.
nobody_more : (flash : List ℕ) (xs : List Exchange) (x : Exchange) → NobodyElse flash (xs ++ (x ∷ []))
    → NobodyElse flash xs × (is_refused x.left.answer ≡ false → x.given.flash ≡ kept_after flash xs)
nobody_more flash [] x h = (tt, h.0)
nobody_more flash (y ∷ xs) x h = let rest = nobody_more (kept_by flash y) xs x h.1 in ((h.0, rest.0), rest.1)

-- An exchange that leaves the flash as lent keeps it.
pub kept_same : (flash : List ℕ) (x : Exchange) → x.left.flash ≡ x.given.flash
    → (is_refused x.left.answer ≡ false → x.given.flash ≡ flash) → kept_by flash x ≡ flash
kept_same flash x same lent =
    either_way (λ (l : List ℕ). l ≡ flash) (is_refused x.left.answer) (λ r. refl) (λ r. same ∙ lent r)

-- ---- pieces

-- A piece behind others.
joined_more : (ds : List (List ℕ)) (d : List ℕ) → joined (ds ++ (d ∷ [])) ≡ joined ds ++ d
joined_more [] d = append-nil d
joined_more (e ∷ ds) d = ap (λ (l : List ℕ). e ++ l) (joined_more ds d) ∙ sym (append_assoc e (joined ds) d)

-- ---- the first of some

-- One of some exchanges and one more is one of them, or that one, behind all of them.
split_more : (xs : List Exchange) (x : Exchange) (before : List Exchange) (y : Exchange) (after : List Exchange)
    → xs ++ (x ∷ []) ≡ before ++ (y ∷ after) → ((rest : List Exchange) × (xs ≡ before ++ (y ∷ rest))) ⊎ ((y ≡ x) × (before ≡ xs))
split_more [] x [] y after e = inr (sym (ap (λ (l : List Exchange). get_or l 0 x) e), refl)
split_more [] x (b ∷ bs) y after e =
    let none : 0 ≡ length (bs ++ (y ∷ after)) = ap (λ (l : List Exchange). length (drop 1 l)) e in
    absurd (omega (arith, none, length-append bs (y ∷ after)))
split_more (z ∷ zs) x [] y after e =
    let same : z ≡ y = ap (λ (l : List Exchange). get_or l 0 x) e in inl (zs, ap (λ (w : Exchange). w ∷ zs) same)
split_more (z ∷ zs) x (b ∷ bs) y after e =
    let same : z ≡ b = ap (λ (l : List Exchange). get_or l 0 x) e in
    go same (split_more zs x bs y after (ap (drop 1) e))
  where
    go : z ≡ b → ((rest : List Exchange) × (zs ≡ bs ++ (y ∷ rest))) ⊎ ((y ≡ x) × (bs ≡ zs))
        → ((rest : List Exchange) × (z ∷ zs ≡ (b ∷ bs) ++ (y ∷ rest))) ⊎ ((y ≡ x) × (b ∷ bs ≡ z ∷ zs))
    go same (inl r) = inl (r.0, ap (λ (w : Exchange). w ∷ zs) same ∙ ap (λ (l : List Exchange). b ∷ l) r.1)
    go same (inr r) = inr (r.0, ap (λ (w : Exchange). w ∷ bs) (sym same) ∙ ap (λ (l : List Exchange). z ∷ l) r.1)

-- So the first that acknowledges a packet is the first of them, or that one and none of them did.
first_more : (xs : List Exchange) (x : Exchange) (k : ℕ) (y : Exchange) → FirstAcknowledged k (xs ++ (x ∷ [])) y
    → FirstAcknowledged k xs y ⊎ ((y ≡ x) × (Acknowledged k xs → ⊥))
first_more xs x k y f = go (split_more xs x f.before y f.after f.split)
  where
    go : ((rest : List Exchange) × (xs ≡ f.before ++ (y ∷ rest))) ⊎ ((y ≡ x) × (f.before ≡ xs))
        → FirstAcknowledged k xs y ⊎ ((y ≡ x) × (Acknowledged k xs → ⊥))
    go (inl r) = inl (record { before = f.before; after = r.0; split = r.1; says = f.says; none = f.none })
    go (inr r) = inr (r.0, rw r.1 at f.none)

-- It is one of them.
first_there : (xs : List Exchange) (k : ℕ) (y : Exchange) → FirstAcknowledged k xs y → Memᴰ y xs
first_there xs k y f = rw f.split (Memᴰ.append_right f.before (Memᴰ.head refl))

-- ---- what has been loaded

-- The data of packets stand in the flash from the base on, and those of each acknowledged packet are its piece.
pub record Stand (flash : List ℕ) (base : ℕ) (since : List Exchange) (pieces : List (List ℕ)) : Type 0 where
  pub image : kept_after flash since ≡ laid flash base (joined pieces)
  pub each : (x : Exchange) → Memᴰ x since → (k : ℕ) → 1 ≤ k → k ≤ largest_total → Says x (packet_reply k accepted)
      → data_in (payload_of x.given) ≡ get_or pieces (k - 1) []

-- Packets 1 to number have been acknowledged, no later one has, and they stand in the flash unless somebody else wrote.
pub record Loaded (flash : List ℕ) (base : ℕ) (since : List Exchange) (number : ℕ) (pieces : List (List ℕ)) : Type 0 where
  pub count : length pieces ≡ number
  pub all : (k : ℕ) → 1 ≤ k → k ≤ number → Acknowledged k since
  pub most : (x : Exchange) → Memᴰ x since → (k : ℕ) → k ≤ largest_total → Says x (packet_reply k accepted) → k ≤ number
  pub first : (x : Exchange) (k : ℕ) → 1 ≤ k → k ≤ largest_total → FirstAcknowledged k since x
      → data_in (payload_of x.given) ≡ get_or pieces (k - 1) []
  pub sizes : (x : Exchange) → Memᴰ x since → (k : ℕ) → 1 ≤ k → k ≤ largest_total → Says x (packet_reply k accepted)
      → length (data_in (payload_of x.given)) ≡ length (get_or pieces (k - 1) [])
  pub stand : NobodyElse flash since → Stand flash base since pieces

-- Before packet 1 nothing has been.
loaded_none : (flash : List ℕ) (base : ℕ) → Loaded flash base [] 0 []
loaded_none flash base = record {
  count = refl;
  all = λ k one most. absurd (omega (arith, one, most));
  most = λ x m. absurd (Memᴰ.not-nil m);
  first = λ x k one short f. absurd (Memᴰ.not-nil (first_there [] k x f));
  sizes = λ x m. absurd (Memᴰ.not-nil m);
  stand = λ h. record { image = sym (laid_nothing flash base); each = λ x m. absurd (Memᴰ.not-nil m) };
}

-- One exchange more.
module _ (flash : List ℕ) (base : ℕ) (since : List Exchange) (number : ℕ) (pieces : List (List ℕ))
    (l : Loaded flash base since number pieces) (x : Exchange) where
  -- What it is lent if nobody else has written.
  abbrev Lent : Type 0
  Lent = is_refused x.left.answer ≡ false → x.given.flash ≡ kept_after flash since

  -- What it adds: it acknowledges the packets that are new, none behind them, and the longer pieces stand after it.
  record Adds (reached : ℕ) (longer : List (List ℕ)) : Type 0 where
    size : length longer ≡ reached
    grows : number ≤ reached
    former : (k : ℕ) → 1 ≤ k → k ≤ number → get_or longer (k - 1) [] ≡ get_or pieces (k - 1) []
    new : (k : ℕ) → number < k → k ≤ reached → Says x (packet_reply k accepted)
    none : (k : ℕ) → k ≤ largest_total → Says x (packet_reply k accepted) → k ≤ reached
    fresh : (k : ℕ) → number < k → k ≤ largest_total → Says x (packet_reply k accepted)
        → data_in (payload_of x.given) ≡ get_or longer (k - 1) []
    sized : (k : ℕ) → 1 ≤ k → k ≤ largest_total → Says x (packet_reply k accepted)
        → length (data_in (payload_of x.given)) ≡ length (get_or longer (k - 1) [])
    image : kept_after flash since ≡ laid flash base (joined pieces) → Lent
        → kept_by (kept_after flash since) x ≡ laid flash base (joined longer)
    own : kept_after flash since ≡ laid flash base (joined pieces) → Lent → (k : ℕ) → 1 ≤ k → k ≤ largest_total
        → Says x (packet_reply k accepted) → data_in (payload_of x.given) ≡ get_or longer (k - 1) []

  -- With that, so much more has been loaded.
  loaded_more : (reached : ℕ) (longer : List (List ℕ)) → Adds reached longer → Loaded flash base (since ++ (x ∷ [])) reached longer
  loaded_more reached longer a = record {
    count = a.size;
    all = λ k one most. pick k one most (dec_le k number);
    most =
        each_more (λ (y : Exchange). (k : ℕ) → k ≤ largest_total → Says y (packet_reply k accepted) → k ≤ reached) since x
        (λ y m k short says. omega (arith, l.most y m k short says, a.grows))
        a.none;
    first = λ y k one short f. begin_first y k one short f (first_more since x k y f);
    sizes =
        each_more
        (λ (y : Exchange). (k : ℕ) → 1 ≤ k → k ≤ largest_total → Says y (packet_reply k accepted)
        → length (data_in (payload_of y.given)) ≡ length (get_or longer (k - 1) [])) since x
        (λ y m k one short says. l.sizes y m k one short says ∙ ap length (sym (a.former k one (l.most y m k short says))))
        a.sized;
    stand = λ h.
        let n = nobody_more flash since x h in
        let s = l.stand n.0 in
        record {
          image = kept_more flash since x ∙ a.image s.image n.1;
          each =
              each_more
              (λ (y : Exchange). (k : ℕ) → 1 ≤ k → k ≤ largest_total → Says y (packet_reply k accepted)
              → data_in (payload_of y.given) ≡ get_or longer (k - 1) []) since x
              (λ y m k one short says. s.each y m k one short says ∙ sym (a.former k one (l.most y m k short says)))
              (a.own s.image n.1);
        };
  }
    where
      pick : (k : ℕ) → 1 ≤ k → k ≤ reached → Dec (k ≤ number) → Acknowledged k (since ++ (x ∷ []))
      pick k one most (yes old) =
          let r = l.all k one old in record { exchange = r.exchange; there = Memᴰ.append_left (x ∷ []) r.there; says = r.says }
      pick k one most (no new) =
          record { exchange = x; there = Memᴰ.append_right since (Memᴰ.head refl); says = a.new k (omega arith) most }

      own_first : (k : ℕ) → 1 ≤ k → k ≤ largest_total → Says x (packet_reply k accepted) → (Acknowledged k since → ⊥) → Dec (k ≤ number)
          → data_in (payload_of x.given) ≡ get_or longer (k - 1) []
      own_first k one short says none (yes old) = absurd (none (l.all k one old))
      own_first k one short says none (no new) = a.fresh k (omega arith) short says

      begin_first : (y : Exchange) (k : ℕ) → 1 ≤ k → k ≤ largest_total → FirstAcknowledged k (since ++ (x ∷ [])) y
          → FirstAcknowledged k since y ⊎ ((y ≡ x) × (Acknowledged k since → ⊥)) → data_in (payload_of y.given) ≡ get_or longer (k - 1) []
      begin_first y k one short f (inl g) =
          l.first y k one short g ∙ sym (a.former k one (l.most y (first_there since k y g) k short g.says))
      begin_first y k one short f (inr r) =
          rw r.0 (own_first k one short (rw r.0 at f.says) r.1 (dec_le k number))

  -- It leaves the flash as lent, and acknowledges nothing but the last packet with its own data.
  loaded_same : x.left.flash ≡ x.given.flash
      → ((k : ℕ) → k ≤ largest_total → Says x (packet_reply k accepted)
      → (k ≡ number) × (is_refused x.left.answer ≡ false)
      × (length (data_in (payload_of x.given)) ≡ length (get_or pieces (k - 1) []))
      × (x.given.flash ≡ laid flash base (joined pieces) → data_in (payload_of x.given) ≡ get_or pieces (k - 1) []))
      → Loaded flash base (since ++ (x ∷ [])) number pieces
  loaded_same same only = loaded_more number pieces (record {
    size = l.count;
    grows = omega arith;
    former = λ k one most. refl;
    new = λ k less most. absurd (omega (arith, less, most));
    none = λ k short says. omega (arith, (only k short says).0);
    fresh = λ k more short says. absurd (omega (arith, more, (only k short says).0));
    sized = λ k one short says. (only k short says).2;
    image = λ i lent. kept_same (kept_after flash since) x same lent ∙ i;
    own = λ i lent k one short says. let o = only k short says in o.3 (lent o.1 ∙ i);
  })

  -- It acknowledges the next packet and lays its data behind the others.
  loaded_next : PacketSaid (number + 1) (heard_of x) → is_refused x.left.answer ≡ false
      → base + length (joined pieces) + length (data_in (payload_of x.given)) ≤ length flash
      → x.left.flash ≡ laid x.given.flash (base + length (joined pieces)) (data_in (payload_of x.given))
      → Loaded flash base (since ++ (x ∷ [])) (number + 1) (pieces ++ (data_in (payload_of x.given) ∷ []))
  loaded_next said taken room put =
      let bytes = data_in (payload_of x.given) in
      loaded_more (number + 1) (pieces ++ (bytes ∷ [])) (record {
        size = length-append pieces (bytes ∷ []) ∙ omega (arith, l.count);
        grows = omega arith;
        former = λ k one most. get_or-append pieces (bytes ∷ []) [] (k - 1) (omega (arith, l.count));
        new = λ k less most. let is : k ≡ number + 1 = omega arith in rw is said.says;
        none = λ k short says. omega (arith, said.only k short says);
        fresh = λ k more short says. behind k short says;
        sized = λ k one short says. ap length (behind k short says);
        image = λ i lent.
            cond_no (is_refused x.left.answer) (kept_after flash since) x.left.flash taken
            ∙ put
            ∙ ap (λ (f : List ℕ). laid f (base + length (joined pieces)) bytes) (lent taken ∙ i)
            ∙ laid_next flash base (joined pieces) bytes room
            ∙ ap (laid flash base) (sym (joined_more pieces bytes));
        own = λ i lent k one short says. behind k short says;
      })
    where
      behind : (k : ℕ) → k ≤ largest_total → Says x (packet_reply k accepted)
          → data_in (payload_of x.given) ≡ get_or (pieces ++ (data_in (payload_of x.given) ∷ [])) (k - 1) []
      behind k short says =
          rw (said.only k short says) (sym (get_or_at pieces (data_in (payload_of x.given)) [] [] (number + 1 - 1) (omega (arith, l.count))))

-- ---- what a history has accepted

-- The last parameters of a history declare a transfer, and since then packets 1 to number have been loaded.
pub record Track (history : List Exchange) (t : Transfer) (number : ℕ) (pieces : List (List ℕ)) : Type 0 where
  pub parameters : Exchange
  pub since : List Exchange
  pub last : LastParameters history parameters since
  pub declared : Declares parameters t
  pub loaded : Loaded parameters.given.flash (base_of t.kind) since number pieces

-- One exchange more that accepts no parameters.
last_more : (history : List Exchange) (parameters : Exchange) (since : List Exchange) (x : Exchange)
    → LastParameters history parameters since → (Says x (parameters_reply largest_packet accepted) → ⊥)
    → LastParameters (history ++ (x ∷ [])) parameters (since ++ (x ∷ []))
last_more history parameters since x h none = record {
  before = h.before;
  split = rw h.split (append_assoc h.before (parameters ∷ since) (x ∷ []));
  accepts = h.accepts;
  no_later = each_more (λ (y : Exchange). Says y (parameters_reply largest_packet accepted) → ⊥) since x h.no_later none;
}

-- The history goes on with what has been loaded then.
track_more : (history : List Exchange) (t : Transfer) (number : ℕ) (pieces : List (List ℕ)) (r : Track history t number pieces)
    (x : Exchange) → (Says x (parameters_reply largest_packet accepted) → ⊥) → (reached : ℕ) (longer : List (List ℕ))
    → Loaded r.parameters.given.flash (base_of t.kind) (r.since ++ (x ∷ [])) reached longer
    → Track (history ++ (x ∷ [])) t reached longer
track_more history t number pieces r x none reached longer l = record {
  parameters = r.parameters;
  since = r.since ++ (x ∷ []);
  last = last_more history r.parameters r.since x r.last none;
  declared = r.declared;
  loaded = l;
}

-- An exchange that accepts nothing adds nothing.
track_quiet : (history : List Exchange) (t : Transfer) (number : ℕ) (pieces : List (List ℕ)) (x : Exchange)
    → Track history t number pieces → Quiet (heard_of x) → x.left.flash ≡ x.given.flash → Track (history ++ (x ∷ [])) t number pieces
track_quiet history t number pieces x r q same =
    track_more history t number pieces r x (q.no_parameters largest_packet) number pieces
    (loaded_same _ _ r.since number pieces r.loaded x same (λ k short says. absurd (q.no_packet k says)))

-- Accepted parameters begin anew.
track_begins : (history : List Exchange) (t : Transfer) (x : Exchange) → Declares x t → Track (history ++ (x ∷ [])) t 0 []
track_begins history t x d = record {
  parameters = x;
  since = [];
  last = record {
    before = history;
    split = refl;
    accepts = d.said.accepts;
    no_later = λ y m. absurd (Memᴰ.not-nil m);
  };
  declared = d;
  loaded = loaded_none x.given.flash (base_of t.kind);
}

-- The last of some pieces is that of a packet, and the others are as long as the place where it begins.
pub record LastPiece (p : Pieces) (number : ℕ) (pieces : List (List ℕ)) : Type 0 where
  pub earlier : List (List ℕ)
  pub final : List ℕ
  pub split : pieces ≡ earlier ++ (final ∷ [])
  pub before : length (joined earlier) ≡ offset_of p.size number
  pub size : length final ≡ size_at p.transfer.extent p.size number

-- All of them together end where that piece ends.
pub last_ends : (p : Pieces) (number : ℕ) (pieces : List (List ℕ)) → LastPiece p number pieces
    → length (joined pieces) ≡ offset_of p.size number + size_at p.transfer.extent p.size number
last_ends p number pieces e =
    ap (λ (ds : List (List ℕ)). length (joined ds)) e.split
    ∙ ap length (joined_more e.earlier e.final)
    ∙ length-append (joined e.earlier) e.final
    ∙ omega (arith, e.before, e.size)

-- Every packet that some exchanges acknowledged belongs to a transfer.
abbrev pub AllBelong : List Exchange → Pieces → Type 0
AllBelong xs p =
    (x : Exchange) → Memᴰ x xs → (k : ℕ) → 1 ≤ k → k ≤ largest_total → Says x (packet_reply k accepted)
    → Belongs p k (payload_of x.given) (length x.given.flash)

-- A history has accepted packets 1 to number of a transfer.
pub record Pieced (history : List Exchange) (p : Pieces) (number : ℕ) : Type 0 where
  pub pieces : List (List ℕ)
  pub one : 1 ≤ number
  pub track : Track history p.transfer number pieces
  pub ending : LastPiece p number pieces
  pub belong : AllBelong track.since p

-- No exchange of a history accepts parameters.
abbrev pub NoParameters : List Exchange → Type 0
NoParameters history = (x : Exchange) → Memᴰ x history → Says x (parameters_reply largest_packet accepted) → ⊥

-- What a history has accepted, by the phase that it has led to.
abbrev pub Tracked : List Exchange → Phase → Type 0
Tracked history Closed = Unit
Tracked history Ready = NoParameters history
Tracked history (Begun t) = Track history t 0 []
Tracked history (Loading p number written) = Pieced history p number
Tracked history (Done p written) = Pieced history p (total_of p)

-- A phase that has accepted a packet, and what it has accepted.
pub accepted_pieced : (history : List Exchange) (phase : Phase) (p : Pieces) (number : ℕ) → Accepted phase p number
    → Tracked history phase → Pieced history p number
accepted_pieced history phase p number (loading written e before) h = rw e at h
accepted_pieced history phase p number (done e last) h = let done_now : Pieced history p (total_of p) = rw e at h in rw last done_now

pub pieced_accepted : (history : List Exchange) (phase : Phase) (p : Pieces) (number : ℕ) → Accepted phase p number
    → Pieced history p number → Tracked history phase
pieced_accepted history phase p number (loading written e before) h = rw e h
pieced_accepted history phase p number (done e last) h = rw e (rw last at h)

-- ---- each step

-- One exchange more.
belong_more : (p : Pieces) (xs : List Exchange) (x : Exchange) → AllBelong xs p
    → ((k : ℕ) → 1 ≤ k → k ≤ largest_total → Says x (packet_reply k accepted) → Belongs p k (payload_of x.given) (length x.given.flash))
    → AllBelong (xs ++ (x ∷ [])) p
belong_more p xs x former own =
    each_more
    (λ (y : Exchange). (k : ℕ) → 1 ≤ k → k ≤ largest_total → Says y (packet_reply k accepted)
    → Belongs p k (payload_of y.given) (length y.given.flash)) xs x former own

-- An exchange that accepts nothing changes nothing, in any phase.
pieced_quiet : (history : List Exchange) (p : Pieces) (number : ℕ) (x : Exchange) → Pieced history p number → Quiet (heard_of x)
    → x.left.flash ≡ x.given.flash → Pieced (history ++ (x ∷ [])) p number
unfolding track_quiet track_more
pieced_quiet history p number x h q same = record {
  pieces = h.pieces;
  one = h.one;
  track = track_quiet history p.transfer number h.pieces x h.track q same;
  ending = h.ending;
  belong = belong_more p h.track.since x h.belong (λ k one short says. absurd (q.no_packet k says));
}

tracked_quiet : (history : List Exchange) (phase : Phase) (x : Exchange) → Tracked history phase → Quiet (heard_of x)
    → x.left.flash ≡ x.given.flash → Tracked (history ++ (x ∷ [])) phase
tracked_quiet history Closed x h q same = tt
tracked_quiet history Ready x h q same =
    each_more (λ (y : Exchange). Says y (parameters_reply largest_packet accepted) → ⊥) history x h (q.no_parameters largest_packet)
tracked_quiet history (Begun t) x h q same = track_quiet history t 0 [] x h q same
tracked_quiet history (Loading p number written) x h q same = pieced_quiet history p number x h q same
tracked_quiet history (Done p written) x h q same = pieced_quiet history p (total_of p) x h q same

-- A packet's piece ends within the image.
pub piece_within : (p : Pieces) (number : ℕ) (payload : List ℕ) (flash : ℕ) → Belongs p number payload flash
    → Within p.transfer.extent p.size number
piece_within p number payload flash k =
    within p.transfer.extent p.size number (cut_length p k.cut) k.cut.some k.one k.most

-- It ends within the flash that was lent with the parameters.
piece_room : (p : Pieces) (number : ℕ) (payload : List ℕ) (flash : ℕ) → Belongs p number payload flash → (x : Exchange)
    → Declares x p.transfer → place_of p number + size_at p.transfer.extent p.size number ≤ length x.given.flash
piece_room p number payload flash k x d = omega (arith, (piece_within p number payload flash k).inside, d.fitting.inside)

-- A step that acknowledges a packet.
module _ (history : List Exchange) (s : Session) (g : Given) (p : Pieces) where
  -- The data of the packet, and the base of its transfer.
  abbrev piece : List ℕ
  piece = data_in (payload_of g)

  abbrev base : ℕ
  base = base_of p.transfer.kind

  -- The packet that it acknowledges belongs to the transfer.
  own_belongs : (number : ℕ) → AcceptsPacket s g p number → (k : ℕ) → 1 ≤ k → k ≤ largest_total
      → Says (exchange s g) (packet_reply k accepted) → Belongs p k (payload_of g) (length g.flash)
  own_belongs number a k one short says = rw (a.said.only k short says) a.belongs

  -- The expected packet, written behind the pieces before it.
  pieced_next : (number : ℕ) (pieces : List (List ℕ)) (r : Track history p.transfer number pieces)
      → AllBelong r.since p → length (joined pieces) ≡ offset_of p.size (number + 1) → AcceptsPacket s g p (number + 1)
      → (exchange s g).left.flash ≡ laid g.flash (place_of p (number + 1)) piece
      → Pieced (history ++ (exchange s g ∷ [])) p (number + 1)
  unfolding track_more
  pieced_next number pieces r former before a put =
      let x = exchange s g in
      let k = a.belongs in
      let room : base + length (joined pieces) + length piece ≤ length r.parameters.given.flash =
      omega (arith, before, k.size_is, piece_room p (number + 1) (payload_of g) (length g.flash) k r.parameters r.declared) in
      record {
        pieces = pieces ++ (piece ∷ []);
        one = omega arith;
        track =
            track_more history p.transfer number pieces r x (a.said.no_parameters largest_packet) (number + 1) (pieces ++ (piece ∷ []))
            (loaded_next _ _ r.since number pieces r.loaded x a.said a.not_refused room
            (put ∙ ap (λ (n : ℕ). laid g.flash (base + n) piece) (sym before)));
        ending = record { earlier = pieces; final = piece; split = refl; before = before; size = k.size_is };
        belong = belong_more p r.since x former (own_belongs (number + 1) a);
      }

  -- The last accepted packet once more: its bytes are the last piece.
  pieced_again : (number : ℕ) → Pieced history p number → AcceptsPacket s g p number
      → piece ≡ part_of g.flash (place_of p number) (length piece) → (exchange s g).left.flash ≡ g.flash
      → Pieced (history ++ (exchange s g ∷ [])) p number
  unfolding track_more
  pieced_again number h a same put = record {
    pieces = h.pieces;
    one = h.one;
    track =
        track_more history p.transfer number h.pieces h.track (exchange s g) (a.said.no_parameters largest_packet) number h.pieces
        (loaded_same _ _ h.track.since number h.pieces h.track.loaded (exchange s g) put
        (λ k short says. let is = a.said.only k short says in (is, a.not_refused, rw is sized, λ lent. rw is (own lent))));
    ending = h.ending;
    belong = belong_more p h.track.since (exchange s g) h.belong (own_belongs number a);
  }
    where
      -- Where the last piece stands among the pieces.
      at : length h.ending.earlier ≡ number - 1
      at =
          let e = h.ending in
          omega (arith, h.track.loaded.count, ap length e.split, length-append e.earlier (e.final ∷ []))

      final_is : h.ending.final ≡ get_or h.pieces (number - 1) []
      final_is =
          let e = h.ending in
          sym (get_or_at e.earlier e.final [] [] (number - 1) at)
          ∙ ap (λ (ds : List (List ℕ)). get_or ds (number - 1) []) (sym e.split)

      sized : length piece ≡ length (get_or h.pieces (number - 1) [])
      sized = a.belongs.size_is ∙ sym h.ending.size ∙ ap length final_is

      own : g.flash ≡ laid h.track.parameters.given.flash base (joined h.pieces) → piece ≡ get_or h.pieces (number - 1) []
      own lent =
          let e = h.ending in
          let k = a.belongs in
          let r = h.track in
          let flash = r.parameters.given.flash in
          let size : length piece ≡ length e.final = k.size_is ∙ sym e.size in
          let room : base + length (joined e.earlier) + length e.final ≤ length flash =
          omega (arith, e.before, e.size, piece_room p number (payload_of g) (length g.flash) k r.parameters r.declared) in
          let there : g.flash ≡ laid flash base (joined e.earlier ++ e.final) =
          lent
          ∙ ap (λ (ds : List (List ℕ)). laid flash base (joined ds)) e.split
          ∙ ap (laid flash base) (joined_more e.earlier e.final) in
          same
          ∙ ap (λ (n : ℕ). part_of g.flash (base + n) (length piece)) (sym e.before)
          ∙ ap (part_of g.flash (base + length (joined e.earlier))) size
          ∙ ap (λ (f : List ℕ). part_of f (base + length (joined e.earlier)) (length e.final)) there
          ∙ part_behind flash base (joined e.earlier) e.final room
          ∙ final_is

  -- The expected packet, after parameters or behind those accepted.
  pieced_writes : (number : ℕ) → Tracked history s.phase → Expects s.phase p number → AcceptsPacket s g p number
      → (exchange s g).left.flash ≡ laid g.flash (place_of p number) piece → Pieced (history ++ (exchange s g ∷ [])) p number
  pieced_writes number h (first e one) a put =
      let begun : Track history p.transfer 0 [] = rw e at h in
      let none : AllBelong begun.since p = λ x m k some short says. absurd (omega (arith, some, begun.loaded.most x m k short says)) in
      rw one (pieced_next 0 [] begun none (omega arith) (rw one at a) (rw one at put))
  pieced_writes number h (later before written e next) a put =
      let r : Pieced history p before = rw e at h in
      let size = p.size in
      let n = p.transfer.extent in
      let k = a.belongs in
      let seam : length (joined r.pieces) ≡ offset_of size (before + 1) =
      last_ends p before r.pieces r.ending ∙ next_offset n size before r.one (omega (arith, k.most, next)) in
      rw next (pieced_next before r.pieces r.track r.belong seam (rw next at a) (rw next at put))

-- The phase by another name.
moved : (history : List Exchange) (phase next : Phase) → next ≡ phase → Tracked history phase → Tracked history next
moved history phase next e h = rw e h

-- Any step.
pub tracked_more : (history : List Exchange) (s : Session) (g : Given) → Bytes g.payload → Tracked history s.phase
    → Tracked (history ++ (exchange s g ∷ [])) (next_of s g).phase
tracked_more history s g bytes h = go (turn_of s g bytes)
  where
    x : Exchange
    x = exchange s g

    go : Turn s g → Tracked (history ++ (x ∷ [])) (next_of s g).phase
    go (quiet q same (inl e)) = moved _ s.phase _ e (tracked_quiet history s.phase x h q same)
    go (quiet q same (inr e)) = moved _ Closed _ e tt
    go (declares t d e) = moved _ (Begun t) _ e (track_begins history t x d)
    go (writes p number a expects put) =
        pieced_accepted (history ++ (x ∷ [])) (next_of s g).phase p number a.after (pieced_writes history s g p number h expects a put)
    go (again p number a behind same put) =
        pieced_accepted (history ++ (x ∷ [])) (next_of s g).phase p number a.after
        (pieced_again history s g p number (accepted_pieced history s.phase p number behind h) a same put)

-- A run behind a history.
run_tracked : (history : List Exchange) (s : Session) (gs : List Given) → AllBytes gs → Tracked history s.phase
    → Tracked (history ++ run_of s gs) (after_of s gs).phase
unfolding run_by after_by
run_tracked history s [] bytes h = rw (append-nil history) h
run_tracked history s (g ∷ gs) bytes h =
    rw (← append_assoc history (exchange s g ∷ []) (run_of (next_of s g) gs))
    (run_tracked (history ++ (exchange s g ∷ [])) (next_of s g) gs bytes.1 (tracked_more history s g bytes.0 h))

-- An opening has accepted nothing.
opening_tracked : (o : Opening) → Tracked [] (opened_by o).phase
unfolding opening_of
opening_tracked (online flash) =
    either_way (λ (r : Stepped). Tracked [] r.session.phase) (openable (length flash)) (λ o x m. absurd (Memᴰ.not-nil m)) (λ o. tt)

-- Every run from an opening.
pub reached_tracked : (o : Opening) (gs : List Given) → AllBytes gs
    → Tracked (run_of (opened_by o) gs) (after_of (opened_by o) gs).phase
reached_tracked o gs bytes = run_tracked [] (opened_by o) gs bytes (opening_tracked o)
