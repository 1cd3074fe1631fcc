-- M5, the other way: every session that passes the test of arises is reached by an opening and a run.
use Rattle.std.specs.Prelude.{ℕ, zero, suc, ◌+◌, ◌-◌, ◌≤◌, ◌<◌, Bool, true, false, ◌&&◌, List, [], ◌∷◌, ◌++◌, ◌≡◌, refl, eqb, length, replicate}
use Rattle.std.proofs.lemmas.Bool.{false≢true}
use Rattle.std.proofs.Common.{sym, ap, ◌∙◌, zero-add, add-one, arith, eqb-true}
use Rattle.std.proofs.lemmas.List.{length-replicate}
use Rattle.std.proofs.Math.Seq.{take-length}
use Rattle.octets.proofs.Choice.{both, one_holds}
use Rattle.octets.specs.Octets.{Bytes, spelled}
use Rattle.octets.proofs.Lists.{bytes_append, bytes_replicate, bytes_spelled}
use Rattle.octets.proofs.PartLaws.{bytes_part}
use Rattle.kinds.specs.Kinds.{number_of, token_of}
use Rattle.kinds.specs.KindsLaws.{FitsFlash, fits_flash_law}
use Rattle.pieces.specs.Pieces.{count_of, offset_of, piece_of}
use Rattle.commands.specs.Commands.{parameters_command, packet_command, restart_command, parameters_for, packet_for}
use Rattle.module_model.specs.Phases.{longest_idle, closing_idle, total_of, openable, held, is_closed, closed_arises}
use Rattle.module_model.proofs.PhasesLaws.{openable_sizes, sizes_openable, Cut, cut_total, loading_facts, done_facts}
use Rattle.module_model.specs.Rules.{phase_at, restart_decision, decide_of}
use Rattle.module_model.proofs.Due.{parameters_accepted, Carries, waiting, waiting_none, waiting_some, packet_taken, written_with}
use Rattle.module_model.proofs.Due.{taken_waits, taken_done}
use Rattle.module.specs.Session.{session, takes, arises}
use Rattle.module.specs.SessionLaws.{facts_takes, takes_facts}
use Rattle.module.specs.Step.{Left, smallest_reply, step_of}
use Rattle.module_promises.specs.Runs.{Given, Offer, given, next_of, after_by}
use Rattle.module_promises.proofs.RunsLaws.{after_append}
use Rattle.module_promises.specs.Promises.{opened, online, opened_by, Frames, RealEvent, Real, AllReal, Reached, ArisesReached}
use Rattle.module_promises.proofs.Forward.{opened_ready, opened_closed, waiting_takes, frame_taken, counted_takes, time_counted}
use Rattle.module_promises.proofs.Forward.{time_closed}
use Rattle.module_model.specs.declared.phases.Transfer.{Transfer}
use Rattle.module_model.specs.declared.phases.Pieces.{Pieces}
use Rattle.module_model.specs.declared.phases.Phase.{Phase}
use Rattle.module_model.specs.declared.phases.Phase.TheVariants.{Closed, Ready, Begun, Loading, Done}
use Rattle.module_model.specs.declared.events.Event.{Event}
use Rattle.module_model.specs.declared.events.Event.TheVariants.{Frame, Elapsed}
use Rattle.module.specs.declared.session.Session.{Session}

-- ---- one step more

-- A real step behind a real run.
all_real_next : (gs : List Given) (g : Given) → AllReal gs → Real g → AllReal (gs ++ (g ∷ []))
all_real_next [] g h r = (r, tt)
all_real_next (x ∷ gs) g h r = (h.0, all_real_next gs g h.1 r)

-- What a step from a session that is reached leads to is reached.
reach_next : (s t : Session) (g : Given) → Real g → next_of s g ≡ t → Reached step_of s → Reached step_of t
unfolding after_by
reach_next s t g r e h =
    record {
      opening = h.opening;
      opening_bytes = h.opening_bytes;
      steps = h.steps ++ (g ∷ []);
      real = all_real_next h.steps g h.real r;
      leads = after_append (opened_by h.opening) h.steps (g ∷ []) ∙ rw h.leads e;
    }

-- Every step is lent a flash of zeros and a reply buffer of 64 zeros.
abbrev zeros : ℕ → List ℕ
zeros n = replicate n 0

zeros_long : (n : ℕ) → length (zeros n) ≡ n
zeros_long n = length-replicate n 0

abbrev step_given : ℕ → Event → List ℕ → Given
step_given n event payload = given (zeros n) (record { event = event; payload = payload; reply = zeros smallest_reply })

step_real : (n : ℕ) (event : Event) (payload : List ℕ) → RealEvent event → Bytes payload → Real (step_given n event payload)
step_real n event payload e b =
    record {
      event_real = e;
      payload_bytes = b;
      flash_bytes = bytes_replicate n 0 (omega arith);
      reply_bytes = bytes_replicate smallest_reply 0 (omega arith);
    }

-- The phase that a frame decides is reached.
reach_frame : (s : Session) (command : ℕ) (payload : List ℕ) (phase : Phase) → takes s ≡ true → command < 256 → Bytes payload
    → (decide_of s.phase command payload (zeros s.flash)).phase ≡ phase → Reached step_of s → Reached step_of (session s.flash 0 phase)
reach_frame s command payload phase t byte b decides h =
    let g = step_given s.flash (Frame command (length payload)) payload in
    let o : Offer = record { event = g.event; payload = payload; reply = g.reply } in
    let f : Frames command payload o =
    record { count = length payload; event_is = refl; payload_is = take-length payload; room = omega arith } in
    let leaves = frame_taken s command payload (zeros s.flash) o t (zeros_long s.flash) f in
    let leads : next_of s g ≡ session s.flash 0 phase =
    ap (λ (l : Left). l.session) leaves ∙ ap (session s.flash 0) decides in
    reach_next s (session s.flash 0 phase) g (step_real s.flash (Frame command (length payload)) payload byte b) leads h

-- ---- openings

-- An opening of a flash of zeros: ready where it can be opened, else closed.
reach_opened : (n : ℕ) (s : Session) → opened (zeros n) ≡ s → Reached step_of s
unfolding after_by
reach_opened n s e = record { opening = online (zeros n); opening_bytes = bytes_replicate n 0 (omega arith); steps = []; real = tt; leads = e }

reach_ready : (n : ℕ) → openable n ≡ true → Reached step_of (session n 0 Ready)
reach_ready n can = reach_opened n (session n 0 Ready) (opened_ready (zeros n) n (zeros_long n) can)

reach_unopened : (n : ℕ) → openable n ≡ false → Reached step_of (session n 0 Closed)
reach_unopened n cannot = reach_opened n (session n 0 Closed) (opened_closed (zeros n) n (zeros_long n) cannot)

-- A ready session over a flash that can be opened takes events.
ready_takes : (n : ℕ) → openable n ≡ true → takes (session n 0 Ready) ≡ true
ready_takes n can =
    let sizes = openable_sizes n can in
    facts_takes (session n 0 Ready) (record { some = sizes.0; most = sizes.1; waited = omega arith }) refl

-- ---- open sessions

-- Parameters that fit, over a flash that can be opened.
reach_begun : (t : Transfer) (flash : ℕ) → openable flash ≡ true → FitsFlash t.kind t.extent flash
    → Reached step_of (session flash 0 (Begun t))
reach_begun t flash can f =
    let image = zeros t.extent in
    let payload = parameters_for t.kind (length image) in
    let fits : FitsFlash t.kind (length image) (length (zeros flash)) = rw (zeros_long t.extent, zeros_long flash) f in
    let decides : (decide_of Ready parameters_command payload (zeros flash)).phase ≡ Begun t =
    rw (parameters_accepted Ready t.kind image (zeros flash) fits, zeros_long t.extent) in
    let rest = bytes_append (spelled 4 (length image)) _ (bytes_spelled 4 (length image)) (bytes_spelled 4 (token_of t.kind)) in
    let b : Bytes payload = bytes_append (spelled 2 (number_of t.kind)) _ (bytes_spelled 2 (number_of t.kind)) rest in
    reach_frame (session flash 0 Ready) parameters_command payload (Begun t) (ready_takes flash can) (omega arith) b decides
    (reach_ready flash can)

-- The packets for an image of bytes are bytes.
packet_bytes : (image : List ℕ) (size k : ℕ) → Bytes image → Bytes (packet_for image size k)
packet_bytes image size k b =
    let piece = piece_of image size k in
    let data_bytes = bytes_part image (offset_of size k) size b in
    let with_size = bytes_append (spelled 2 (length piece)) piece (bytes_spelled 2 (length piece)) data_bytes in
    let with_number = bytes_append (spelled 2 k) _ (bytes_spelled 2 k) with_size in
    bytes_append (spelled 2 (count_of (length image) size)) _ (bytes_spelled 2 (count_of (length image) size)) with_number

-- A transfer of zeros.
zeros_carried : (p : Pieces) (flash : ℕ) → FitsFlash p.transfer.kind p.transfer.extent flash → Cut p
    → Carries p (zeros p.transfer.extent) flash
zeros_carried p flash f c = record { whole = zeros_long p.transfer.extent; fitting = f; cut = c }

-- The packet that is due leads from a phase that waits to the phase with it.
reach_packet : (p : Pieces) (flash n : ℕ) (phase : Phase) → openable flash ≡ true
    → FitsFlash p.transfer.kind p.transfer.extent flash → Cut p → n < total_of p
    → phase_at p (n + 1) (written_with p n) ≡ phase → Reached step_of (session flash 0 (waiting p n)) → Reached step_of (session flash 0 phase)
reach_packet p flash n phase can f c less e h =
    let image = zeros p.transfer.extent in
    let payload = packet_for image p.size (n + 1) in
    let carries = zeros_carried p flash f c in
    let over_zeros : Carries p image (length (zeros flash)) = rw (zeros_long flash) carries in
    let decides : (decide_of (waiting p n) packet_command payload (zeros flash)).phase ≡ phase =
    rw (packet_taken p image (zeros flash) n over_zeros less) e in
    let t = waiting_takes p image flash n carries less (openable_sizes flash can).1 in
    let b = packet_bytes image p.size (n + 1) (bytes_replicate p.transfer.extent 0 (omega arith)) in
    reach_frame (session flash 0 (waiting p n)) packet_command payload phase t (omega arith) b decides h

-- Every phase that waits is reached, packet by packet.
reach_waiting : (p : Pieces) (flash n : ℕ) → openable flash ≡ true → FitsFlash p.transfer.kind p.transfer.extent flash → Cut p
    → n < total_of p → Reached step_of (session flash 0 (waiting p n))
reach_waiting p flash zero can f c less = rw (waiting_none p) (reach_begun p.transfer flash can f)
reach_waiting p flash (suc n) can f c less =
    let before : n < total_of p = omega (arith, less) in
    let next : phase_at p (n + 1) (written_with p n) ≡ waiting p (suc n) =
    taken_waits p n (omega (arith, less)) ∙ ap (waiting p) (add-one n) in
    reach_packet p flash n (waiting p (suc n)) can f c before next (reach_waiting p flash n can f c before)

-- With packet Total the transfer is done.
reach_done : (p : Pieces) (flash : ℕ) → openable flash ≡ true → FitsFlash p.transfer.kind p.transfer.extent flash → Cut p
    → Reached step_of (session flash 0 (Done p p.transfer.extent))
reach_done p flash can f c =
    let n = total_of p - 1 in
    let some = cut_total p c in
    let less : n < total_of p = omega (arith, some) in
    reach_packet p flash n (Done p p.transfer.extent) can f c less (taken_done p n c (omega (arith, some)))
    (reach_waiting p flash n can f c less)

-- Every phase that holds.
reach_held : (phase : Phase) (flash : ℕ) → openable flash ≡ true → held phase flash ≡ true → Reached step_of (session flash 0 phase)
reach_held Closed flash can h = absurd (false≢true h)
reach_held Ready flash can h = reach_ready flash can
reach_held (Begun t) flash can h = reach_begun t flash can (fits_flash_law t.kind t.extent flash h)
reach_held (Loading p number written) flash can h =
    let l = loading_facts p flash number written h in
    let waits : waiting p number ≡ Loading p number written =
    waiting_some p number l.one ∙ ap (Loading p number) (sym l.all) in
    rw waits at (reach_waiting p flash number can l.fitting l.cut l.before)
reach_held (Done p written) flash can h =
    let d = done_facts p flash written h in
    rw d.all (reach_done p flash can d.fitting d.cut)

-- Every session that takes events: its phase, and then the time that it has waited.
reach_open : (s : Session) → takes s ≡ true → Reached step_of s
reach_open s t =
    let facts = takes_facts s t in
    let can : openable s.flash ≡ true = sizes_openable s.flash facts.0.some facts.0.most in
    let fresh = session s.flash 0 s.phase in
    let g = step_given s.flash (Elapsed s.idle) [] in
    let fresh_takes : takes fresh ≡ true = counted_takes s 0 t (omega arith) in
    let short : 0 + s.idle ≤ longest_idle = omega (arith, facts.0.waited) in
    let counts = time_counted fresh s.idle [] (zeros s.flash) g.reply fresh_takes (zeros_long s.flash) (omega arith) short in
    let leads : next_of fresh g ≡ s = ap (λ (l : Left). l.session) counts ∙ rw (zero-add s.idle) in
    let real = step_real s.flash (Elapsed s.idle) [] (omega (arith, facts.0.waited)) tt in
    reach_next fresh s g real leads (reach_held s.phase s.flash can facts.1)

-- ---- closed sessions

-- An accepted 0x06 closes with the sum 0.
reach_restarted : (flash : ℕ) → openable flash ≡ true → Reached step_of (session flash 0 Closed)
unfolding decide_of restart_decision
reach_restarted flash can =
    reach_frame (session flash 0 Ready) restart_command [] Closed (ready_takes flash can) (omega arith) tt refl (reach_ready flash can)

-- A sum over 7,000 closes with 7,001.
reach_expired : (flash : ℕ) → openable flash ≡ true → Reached step_of (session flash closing_idle Closed)
reach_expired flash can =
    let ready = session flash 0 Ready in
    let g = step_given flash (Elapsed closing_idle) [] in
    let t = ready_takes flash can in
    let closes = time_closed ready closing_idle [] (zeros flash) g.reply t (zeros_long flash) (omega arith) (omega arith) in
    let real = step_real flash (Elapsed closing_idle) [] (omega arith) tt in
    reach_next ready (session flash closing_idle Closed) g real (ap (λ (l : Left). l.session) closes) (reach_ready flash can)

-- With the sum 0 any flash will do: one that cannot be opened is refused.
reach_closed : (flash : ℕ) (t : Bool) → openable flash ≡ t → Reached step_of (session flash 0 Closed)
reach_closed flash true can = reach_restarted flash can
reach_closed flash false cannot = reach_unopened flash cannot

reach_shut : (flash idle : ℕ) (phase : Phase) → is_closed phase ≡ true → closed_arises flash idle ≡ true → Reached step_of (session flash idle phase)
unfolding closed_arises
reach_shut flash idle Closed c h =
    one_holds (eqb idle 0) (eqb idle closing_idle && openable flash)
    (λ e. rw (eqb-true idle 0 e) (reach_closed flash (openable flash) refl))
    (λ e. let each = both (eqb idle closing_idle) (openable flash) e in rw (eqb-true idle closing_idle each.0) (reach_expired flash each.1))
    h
reach_shut flash idle Ready c h = absurd (false≢true c)
reach_shut flash idle (Begun t) c h = absurd (false≢true c)
reach_shut flash idle (Loading p number written) c h = absurd (false≢true c)
reach_shut flash idle (Done p written) c h = absurd (false≢true c)

-- One or the other of the two tests holds.
pub arises_reached : ArisesReached
unfolding arises
arises_reached s h =
    one_holds (takes s) (is_closed s.phase && closed_arises s.flash s.idle) (reach_open s)
    (λ e.
    let each = both (is_closed s.phase) (closed_arises s.flash s.idle) e in
    reach_shut s.flash s.idle s.phase each.0 each.1)
    h
