-- H4: a host that gets good answers sends each message of the load once, in order, and is done; and H1: the pieces are the image.
use Rattle.std.specs.Prelude.{ℕ, zero, suc, ◌+◌, ◌*◌, ◌-◌, ◌^◌, ◌≤◌, ◌<◌, true, List, [], ◌∷◌, ◌++◌, ◌≡◌, refl, length, take}
use Rattle.std.proofs.Common.{append_assoc, append-nil, sym, ap, ap₂, ◌∙◌, add-zero, zero-add, zero-mul, arith}
use Rattle.octets.proofs.OctetsLaws.{take_over}
use Rattle.kinds.specs.Kinds.{number_of, fits_file}
use Rattle.kinds.specs.KindsLaws.{file_some}
use Rattle.kinds.specs.declared.Kind.{Kind}
use Rattle.pieces.specs.Pieces.{count_of, piece_of}
use Rattle.pieces.specs.PiecesLaws.{take_more, take_whole, count_some}
use Rattle.wire.specs.Frame.{wire_of}
use Rattle.commands.specs.Commands.{accepted, parameters_reply, restart_reply, notice}
use Rattle.commands.specs.Commands.{rate_frame, parameters_frame, packet_frame, restart_frame}
use Rattle.host_model.specs.Stages.{number_of_rate}
use Rattle.host_model.specs.Waits.{first_stage}
use Rattle.host_model.specs.Messages.{message_of}
use Rattle.host_model.specs.Answers.{piece_size}
use Rattle.host_model.proofs.AnswersLaws.{Carried}
use Rattle.host.specs.Step.{Left, Wishes, plan_of, opening_of}
use Rattle.host_promises.specs.Runs.{Given, leaves, sent_by, sent_over, answers_of}
use Rattle.host_promises.specs.Promises.{largest_message, pieces_from, PiecesAreImage, Heard, frame, packets_heard, frames_heard, start_heard}
use Rattle.host_promises.specs.Promises.{GoodSteps, packets_sent, start_sent, GoodLoad, GoodEnds}
use Rattle.host_model.proofs.WaitsLaws.{first_fits}
use Rattle.host_promises.proofs.Forward.{arrived, Fits, Leads, text_step, rate_step, parameters_step, packet_step, last_step, notice_step}
use Rattle.host_promises.proofs.Forward.{restart_step, opening_sends}
use Rattle.host_model.specs.declared.plan.Rate.{Rate}
use Rattle.host_model.specs.declared.plan.Start.{Start}
use Rattle.host_model.specs.declared.plan.Start.TheVariants.{WithText, AtOnce}
use Rattle.host_model.specs.declared.plan.Plan.{Plan}
use Rattle.host_model.specs.declared.plan.Stage.{Stage}
use Rattle.host_model.specs.declared.plan.Stage.TheVariants.{Text, Asking, Declaring, Sending, Noticing, Restarting}
use Rattle.host.specs.declared.session.Session.{Session}
use Rattle.host_model.specs.Events.{Answer}
use Rattle.host_model.specs.declared.events.Answer.TheVariants.{Done}

-- ---- the pieces

-- Behind the pieces before them, so many pieces in order are so many more.
pieces_behind : (image : List ℕ) (size n k : ℕ) → take (k * size) image ++ pieces_from image size n (k + 1) ≡ take ((k + n) * size) image
pieces_behind image size zero k = rw (append-nil (take (k * size) image), add-zero k)
pieces_behind image size (suc n) k =
    let same : k + 1 - 1 ≡ k = omega arith in
    let more : k + 1 + n ≡ k + suc n = omega arith in
    let one : take (k * size) image ++ piece_of image size (k + 1) ≡ take ((k + 1) * size) image =
    rw same (rw same at (take_more image size (k + 1) (omega arith))) in
    sym (append_assoc (take (k * size) image) (piece_of image size (k + 1)) (pieces_from image size n (k + 1 + 1)))
    ∙ ap (λ (l : List ℕ). l ++ pieces_from image size n (k + 1 + 1)) one
    ∙ pieces_behind image size n (k + 1)
    ∙ ap (λ (x : ℕ). take (x * size) image) more

pub pieces_are_image : PiecesAreImage
pieces_are_image image size some one =
    let total : ℕ = count_of (length image) size in
    let all : take (0 * size) image ++ pieces_from image size total 1 ≡ take ((0 + total) * size) image =
    pieces_behind image size total 0 in
    let front : take (0 * size) image ++ pieces_from image size total 1 ≡ pieces_from image size total 1 = rw (zero-mul size) in
    sym front ∙ all ∙ rw (zero-add total) (take_whole image size some one)

-- ---- runs that end well

-- A run sends this, and its last answer is that the load is done.
record Ends (s : Session) (gs : List Given) (sent : List ℕ) : Type 0 where
  all_sent : sent_over s gs ≡ sent
  before : List Answer
  done_last : answers_of s gs ≡ before ++ (Done ∷ [])

-- A step before such a run: what it sends comes first.
ends_next : (s t : Session) (g : Given) (gs : List Given) (message sent : List ℕ) → (leaves s g).session ≡ t → sent_by (leaves s g) ≡ message
    → Ends t gs sent → Ends s (g ∷ gs) (message ++ sent)
unfolding sent_over answers_of
ends_next s t g gs message sent next said e =
    record {
      all_sent = ap₂ ◌++◌ said (rw next e.all_sent);
      before = (leaves s g).answer ∷ e.before;
      done_last = ap (λ (l : List Answer). (leaves s g).answer ∷ l) (rw next e.done_last);
    }

-- A step with which the load is done ends a run.
ends_done : (s : Session) (g : Given) → (leaves s g).answer ≡ Done → Ends s (g ∷ []) []
unfolding sent_over answers_of
ends_done s g e = record { all_sent = rw e; before = []; done_last = ap (λ (a : Answer). a ∷ []) e }

-- From a stage: where the next one's run ends well, so does this one's.
module _ (plan : Plan) (image : List ℕ) where
  abbrev EndsFrom : Stage → List Given → List ℕ → Type 0
  EndsFrom stage gs sent = Ends (arrived plan image stage) gs sent

  leads_on : (message sent : List ℕ) (stage next : Stage) (g : Given) (gs : List Given) → Leads plan image message stage next g
      → (Fits plan image next → EndsFrom next gs sent) → EndsFrom stage (g ∷ gs) (message ++ sent)
  leads_on message sent stage next g gs l rest =
      ends_next (arrived plan image stage) (arrived plan image next) g gs message sent l.session_is l.sent_is (rest l.fits)

  -- The last answers.
  abbrev last_heard : List Heard
  last_heard = frame (notice 0) ∷ frame (restart_reply accepted) ∷ []

  ends_restart : (rate : Rate) (size : ℕ) (gs : List Given) → Fits plan image (Restarting rate size)
      → GoodSteps image (frame (restart_reply accepted) ∷ []) gs → EndsFrom (Restarting rate size) gs []
  ends_restart rate size [] f h = absurd h
  ends_restart rate size (g ∷ gs) f h =
      rw h.1
      (ends_done (arrived plan image (Restarting rate size)) g
      (ap (λ (l : Left). l.answer) (restart_step plan image g rate size f h.0)))

  ends_notice : (rate : Rate) (size : ℕ) (gs : List Given) → Fits plan image (Noticing rate size)
      → GoodSteps image last_heard gs → EndsFrom (Noticing rate size) gs (wire_of restart_frame)
  ends_notice rate size [] f h = absurd h
  ends_notice rate size (g ∷ gs) f h =
      rw (append-nil (wire_of restart_frame)) at
      (leads_on (wire_of restart_frame) [] (Noticing rate size) (Restarting rate size) g gs (notice_step plan image g rate size f h.0)
      (λ r. ends_restart rate size gs r h.1))

  -- From a packet on: those behind it, and the restart.
  ends_packets : (rate : Rate) (size n k : ℕ) (gs : List Given) → k + n ≡ count_of (length image) size
      → Fits plan image (Sending rate size k) → GoodSteps image (packets_heard (suc n) k last_heard) gs
      → EndsFrom (Sending rate size k) gs (packets_sent image size n (k + 1) ++ wire_of restart_frame)
  ends_packets rate size n k [] e f h = absurd h
  ends_packets rate size zero k (g ∷ gs) e f h =
      leads_on [] (wire_of restart_frame) (Sending rate size k) (Noticing rate size) g gs
      (last_step plan image g rate size k (omega (arith, e)) f h.0)
      (λ r. ends_notice rate size gs r h.1)
  ends_packets rate size (suc n) k (g ∷ gs) e f h =
      let rest : List ℕ = packets_sent image size n (k + 1 + 1) in
      rw (append_assoc (wire_of (packet_frame image size (k + 1))) rest (wire_of restart_frame))
      (leads_on (wire_of (packet_frame image size (k + 1))) (rest ++ wire_of restart_frame)
      (Sending rate size k) (Sending rate size (k + 1)) g gs
      (packet_step plan image g rate size k (omega (arith, e)) f h.0)
      (λ r. ends_packets rate size n (k + 1) gs (omega (arith, e)) r h.1))

  -- From the parameters on: every packet, and the restart.
  ends_parameters : (rate : Rate) (most size total : ℕ) (gs : List Given) → most < 256 ^ 2 → piece_size most plan.wish ≡ size
      → Carried (length image) size → count_of (length image) size ≡ total → 1 ≤ total → Fits plan image (Declaring rate)
      → GoodSteps image (frame (parameters_reply most accepted) ∷ packets_heard total 1 last_heard) gs
      → EndsFrom (Declaring rate) gs (packets_sent image size total 1 ++ wire_of restart_frame)
  ends_parameters rate most size total [] short e c t some f h = absurd h
  ends_parameters rate most size zero (g ∷ gs) short e c t some f h = absurd (omega (arith, some))
  ends_parameters rate most size (suc n) (g ∷ gs) short e c t some f h =
      let rest : List ℕ = packets_sent image size n (1 + 1) in
      rw (append_assoc (wire_of (packet_frame image size 1)) rest (wire_of restart_frame))
      (leads_on (wire_of (packet_frame image size 1)) (rest ++ wire_of restart_frame) (Declaring rate) (Sending rate size 1) g gs
      (parameters_step plan image g rate most size short e c f h.0)
      (λ r. ends_packets rate size n 1 gs (omega (arith, t)) r h.1))

  -- From the first rate on: the parameters, every packet, and the restart.
  ends_rate : (rate : Rate) (most size total : ℕ) (gs : List Given) → most < 256 ^ 2 → piece_size most plan.wish ≡ size
      → Carried (length image) size → count_of (length image) size ≡ total → 1 ≤ total → Fits plan image (Asking rate)
      → GoodSteps image (frames_heard rate most total) gs
      → EndsFrom (Asking rate) gs
      (wire_of (parameters_frame plan.kind (length image)) ++ (packets_sent image size total 1 ++ wire_of restart_frame))
  ends_rate rate most size total [] short e c t some f h = absurd h
  ends_rate rate most size total (g ∷ gs) short e c t some f h =
      leads_on (wire_of (parameters_frame plan.kind (length image))) _ (Asking rate) (Declaring rate) g gs
      (rate_step plan image g rate f h.0)
      (λ r. ends_parameters rate most size total gs short e c t some r h.1)

-- ---- the load

-- An opening whose run ends well is a good load: what it sends comes first.
opening_load : (kind : Kind) (w : Wishes) (image output : List ℕ) (gs : List Given) (start : Start) (sent : List ℕ) → w.start ≡ start
    → fits_file kind (length image) ≡ true → largest_message ≤ length output
    → EndsFrom (plan_of kind w) image (first_stage start w.first) gs sent
    → GoodLoad (opening_of (number_of kind) w image output) gs
    (message_of (plan_of kind w) image (first_stage start w.first) ++ sent)
opening_load kind w image output gs start sent e fits room ends =
    let opening = opening_sends kind w image output start e fits room in
    let message : List ℕ = message_of (plan_of kind w) image (first_stage start w.first) in
    let next = ap (λ (l : Left). l.session) opening in
    record {
      all_sent = ap₂ ◌++◌ (ap sent_by opening ∙ take_over message output (length message) refl) (rw next ends.all_sent);
      before = ends.before;
      done_last = rw next ends.done_last;
    }

-- With the start text and without it.
module _ (kind : Kind) (w : Wishes) (image output : List ℕ) (fits : fits_file kind (length image) ≡ true) (room : largest_message ≤ length output)
    (sent : List ℕ) (hs : List Heard)
    (rest : (gs : List Given) → Fits (plan_of kind w) image (Asking w.first) → GoodSteps image hs gs
    → EndsFrom (plan_of kind w) image (Asking w.first) gs sent) where
  load_of : (start : Start) (gs : List Given) → w.start ≡ start → GoodSteps image (start_heard start hs) gs
      → GoodLoad (opening_of (number_of kind) w image output) gs
      (start_sent start ++ (wire_of (rate_frame (number_of_rate w.first)) ++ sent))
  load_of AtOnce gs e h =
      opening_load kind w image output gs AtOnce sent e fits room
      (rest gs (record { fitting = fits; staged = first_fits (plan_of kind w) (length image) AtOnce e }) h)
  load_of WithText [] e h = absurd h
  load_of WithText (g ∷ gs) e h =
      let plan = plan_of kind w in
      let f : Fits plan image Text = record { fitting = fits; staged = first_fits plan (length image) WithText e } in
      opening_load kind w image output (g ∷ gs) WithText _ e fits room
      (leads_on plan image (wire_of (rate_frame (number_of_rate w.first))) sent Text (Asking w.first) g gs
      (text_step plan image g f h.0)
      (λ r. rest gs r h.1))

pub good_ends : GoodEnds
good_ends kind w image output most gs fits short one few room h =
    let size : ℕ = piece_size most w.wish in
    let total : ℕ = count_of (length image) size in
    let some : 1 ≤ total = count_some (length image) size (file_some kind (length image) fits) one in
    load_of kind w image output fits room
    (wire_of (parameters_frame kind (length image)) ++ (packets_sent image size total 1 ++ wire_of restart_frame))
    (frames_heard w.first most total)
    (λ xs f k. ends_rate (plan_of kind w) image w.first most size total xs short refl (record { some = one; few = few }) refl some f k)
    w.start gs refl h
