-- M2: at success the flash holds the image; at every step a byte changes only in the declared range.
use Rattle.std.specs.Prelude.{ℕ, ◌+◌, ◌≤◌, ◌<◌, false, List, [], ◌∷◌, ◌++◌, ◌≡◌, refl, length, get_or}
use Rattle.std.proofs.Common.{sym, ap, ◌∙◌, arith}
use Rattle.std.proofs.Math.Decide.{dec_le, dec_lt}
use Rattle.octets.proofs.Choice.{cond_no}
use Rattle.octets.specs.Octets.{Bytes, number_at, laid}
use Rattle.octets.proofs.OctetsLaws.{laid_length, laid_before, laid_behind}
use Rattle.kinds.specs.Kinds.{base_of}
use Rattle.pieces.specs.PiecesLaws.{ends_with}
use Rattle.commands.specs.Commands.{largest_total}
use Rattle.module_model.specs.Phases.{total_of}
use Rattle.module_model.proofs.PhasesLaws.{cut_length}
use Rattle.module_model.specs.Rules.{data_in, place_of}
use Rattle.module_model.proofs.Outcomes.{Belongs, Expects, first, later}
use Rattle.module_model.specs.Answers.{is_refused}
use Rattle.module_promises.specs.Runs.{Given, Exchange, exchange, after_of, run_of, payload_of}
use Rattle.module_promises.proofs.Said.{Declares, Turn, quiet, declares, writes, again, turn_of}
use Rattle.module_promises.proofs.Track.{kept_after, kept_same, Track, Pieced, Tracked, last_ends, piece_within, reached_tracked}
use Rattle.module_promises.proofs.Success.{notice_ends, run_pieced}
use Rattle.module_promises.specs.Promises.{opened_by, kept_by, NobodyElse, base_by, base_in, joined, AcceptedData, HoldsImage, SuccessHolds}
use Rattle.module_promises.specs.Promises.{InRange, OnlyInRange}
use Rattle.module_model.specs.declared.phases.Transfer.{Transfer}
use Rattle.module_model.specs.declared.phases.Pieces.{Pieces}
use Rattle.module_model.specs.declared.phases.Phase.{Phase}
use Rattle.module.specs.declared.session.Session.{Session}

-- ---- the last exchange

-- The last of an exchange and those behind it.
abbrev last_of : Exchange → List Exchange → Exchange
last_of x [] = x
last_of x (y ∷ ys) = last_of y ys

-- What stands before an exchange does not matter.
last_behind : (d : Exchange) (xs : List Exchange) (x : Exchange) (ys : List Exchange) → last_of d (xs ++ (x ∷ ys)) ≡ last_of x ys
last_behind d [] x ys = refl
last_behind d (y ∷ xs) x ys = last_behind y xs x ys

-- If it was not refused, the flash is as it left it.
kept_last : (flash : List ℕ) (x : Exchange) (xs : List Exchange) → is_refused (last_of x xs).left.answer ≡ false
    → kept_after (kept_by flash x) xs ≡ (last_of x xs).left.flash
kept_last flash x [] h = cond_no (is_refused x.left.answer) flash x.left.flash h
kept_last flash x (y ∷ xs) h = kept_last (kept_by flash x) y xs h

-- ---- the declared range

-- Parameters that declare a transfer name its base.
pub base_is : (x : Exchange) (t : Transfer) → Declares x t → base_in x ≡ base_of t.kind
base_is x t d = ap base_by d.kind_is

-- ---- at success

-- Of a history that has accepted all packets their data are as long as declared.
accepted_data : (history : List Exchange) (p : Pieces) (payload : List ℕ) (flash : ℕ) (h : Pieced history p (total_of p))
    → Belongs p (total_of p) payload flash → AcceptedData h.track.parameters h.track.since (number_at 2 payload 0) h.pieces
accepted_data history p payload flash h k =
    let r = h.track in
    let d = r.declared in
    let n = p.transfer.extent in
    let short : number_at 2 payload 0 ≤ largest_total = omega (arith, k.total_is, k.cut.total_most) in
    record {
      count = r.loaded.count ∙ sym k.total_is;
      first = λ y i one most. r.loaded.first y i one (omega (arith, most, short));
      sizes = λ y m i one most. r.loaded.sizes y m i one (omega (arith, most, short));
      whole =
          last_ends p (total_of p) h.pieces h.ending
          ∙ ends_with n p.size (cut_length p k.cut) k.cut.some
          ∙ sym d.length_is;
      inside = rw (base_is r.parameters p.transfer d, d.length_is) d.fitting.inside;
    }

-- Of a history that has accepted all packets and ends with an exchange that was not refused, that one left the image in the flash.
holds_image : (before : List Exchange) (x : Exchange) (p : Pieces) (payload : List ℕ) (flash : ℕ)
    → (h : Pieced (before ++ (x ∷ [])) p (total_of p)) → is_refused x.left.answer ≡ false → Belongs p (total_of p) payload flash
    → NobodyElse h.track.parameters.given.flash h.track.since
    → HoldsImage h.track.parameters h.track.since (number_at 2 payload 0) h.pieces x.left.flash
holds_image before x p payload flash h taken k nobody =
    let r = h.track in
    let d = r.declared in
    let lent = r.parameters.given.flash in
    let stand = r.loaded.stand nobody in
    let here : last_of r.parameters r.since ≡ x =
    sym (last_behind x r.last.before r.parameters r.since) ∙ ap (last_of x) (sym r.last.split) ∙ last_behind x before x [] in
    let kept : kept_after lent r.since ≡ x.left.flash =
    ap (λ (f : List ℕ). kept_after f r.since) (sym (kept_same lent r.parameters d.same (λ e. refl)))
    ∙ kept_last lent r.parameters r.since (rw here taken)
    ∙ ap (λ (y : Exchange). y.left.flash) here in
    record {
      each = λ y m i one most. stand.each y m i one (omega (arith, most, k.total_is, k.cut.total_most));
      image = sym kept ∙ stand.image ∙ ap (λ (b : ℕ). laid lent b (joined h.pieces)) (sym (base_is r.parameters p.transfer d));
    }

pub success_holds : SuccessHolds
success_holds o gs g all bytes says =
    let s = after_of (opened_by o) gs in
    let e = notice_ends s g bytes says in
    let h = run_pieced o gs g all bytes e in
    record {
      parameters = h.track.parameters;
      since = h.track.since;
      last = h.track.last;
      pieces = h.pieces;
      accepts = accepted_data _ e.p (payload_of g) (length g.flash) h e.packet.belongs;
      holds =
          holds_image (run_of (opened_by o) gs) (exchange s g) e.p (payload_of g) (length g.flash) h e.packet.not_refused
          e.packet.belongs;
    }

-- ---- at every step

-- A place in the range of the transfer under way.
track_range : (history : List Exchange) (t : Transfer) (number : ℕ) (pieces : List (List ℕ)) → Track history t number pieces → (i : ℕ)
    → base_of t.kind ≤ i → i < base_of t.kind + t.extent → InRange history i
track_range history t number pieces r i low high = record {
  parameters = r.parameters;
  since = r.since;
  last = r.last;
  from_base = rw (base_is r.parameters t r.declared) low;
  to_end = rw (base_is r.parameters t r.declared, r.declared.length_is) high;
}

-- It is under way where a packet of it is expected.
expects_range : (history : List Exchange) (phase : Phase) (p : Pieces) (number : ℕ) → Tracked history phase → Expects phase p number
    → (i : ℕ) → base_of p.transfer.kind ≤ i → i < base_of p.transfer.kind + p.transfer.extent → InRange history i
expects_range history phase p number h (first e one) =
    let begun : Track history p.transfer 0 [] = rw e at h in track_range history p.transfer 0 [] begun
expects_range history phase p number h (later before written e next) =
    let r : Pieced history p before = rw e at h in track_range history p.transfer before r.pieces r.track

-- A byte that a packet's data change stands where they are laid.
laid_there : (d : List ℕ) (at : ℕ) (s : List ℕ) → at + length s ≤ length d → (i : ℕ) → (get_or (laid d at s) i 0 ≡ get_or d i 0 → ⊥)
    → (at ≤ i) × (i < at + length s)
laid_there d at s fits i differs = go (dec_le at i) (dec_lt i (at + length s))
  where
    go : Dec (at ≤ i) → Dec (i < at + length s) → (at ≤ i) × (i < at + length s)
    go (yes low) (yes high) = (low, high)
    go (yes low) (no past) = absurd (differs (laid_behind d at s i fits (omega arith)))
    go (no before) high = absurd (differs (laid_before d at s i (omega arith) (omega arith)))

-- A flash keeps its length, and its bytes change only in the range of the transfer under way.
abbrev OnlyThere : List Exchange → List ℕ → List ℕ → Type 0
OnlyThere history before after =
    (length after ≡ length before) × ((i : ℕ) → (get_or after i 0 ≡ get_or before i 0 → ⊥) → InRange history i)

-- One that stays as it is does.
same_there : (history : List Exchange) (before after : List ℕ) → after ≡ before → OnlyThere history before after
same_there history before after same = (ap length same, λ i differs. absurd (differs (ap (λ (l : List ℕ). get_or l i 0) same)))

-- So does the flash of any step.
step_range : (history : List Exchange) (s : Session) (g : Given) → Bytes g.payload → Tracked history s.phase
    → OnlyThere history g.flash (exchange s g).left.flash
step_range history s g bytes h = go (turn_of s g bytes)
  where
    go : Turn s g → OnlyThere history g.flash (exchange s g).left.flash
    go (quiet q same phase) = same_there history _ _ same
    go (declares t d phase) = same_there history _ _ d.same
    go (again p number a behind same put) = same_there history _ _ put
    go (writes p number a expects put) =
        let k = a.belongs in
        let place = place_of p number in
        let piece = data_in (payload_of g) in
        let ends : place + length piece ≤ base_of p.transfer.kind + p.transfer.extent =
        omega (arith, k.size_is, (piece_within p number (payload_of g) (length g.flash) k).inside) in
        let fits : place + length piece ≤ length g.flash = omega (arith, ends, k.fitting.inside) in (
          ap length put ∙ laid_length g.flash place piece fits,
          λ i differs.
              let there = laid_there g.flash place piece fits i (λ e. differs (ap (λ (l : List ℕ). get_or l i 0) put ∙ e)) in
              expects_range history s.phase p number h expects i (omega (arith, there.0)) (omega (arith, there.1, ends)),
        )

pub only_in_range : OnlyInRange
only_in_range o gs g all bytes =
    step_range (run_of (opened_by o) gs) (after_of (opened_by o) gs) g bytes (reached_tracked o gs all)
