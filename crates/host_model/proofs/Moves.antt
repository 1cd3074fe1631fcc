-- Where a move leads: from a stage that could arise only to stages that could arise, and so to small packets.
use Rattle.std.specs.Prelude.{ℕ, ◌+◌, ◌≤◌, true, ◌&&◌, List, ◌≡◌, eqb, ltb, get_or}
use Rattle.std.proofs.Common.{arith}
use borrow.Author.Tests.{ltb-true, leb-true}
use Rattle.std.proofs.Math.Dec.{leb}
use Rattle.octets.proofs.Choice.{either_way, both}
use Rattle.octets.specs.Octets.{number_at, same_bytes}
use Rattle.pieces.specs.Pieces.{count_of}
use Rattle.pieces.specs.PiecesLaws.{count_some}
use Rattle.commands.specs.Commands.{rate_command, parameters_command, packet_command, restart_command, notice_command}
use Rattle.commands.specs.Commands.{largest_packet, largest_total, start_answer}
use Rattle.host_model.specs.Stages.{number_of_rate, rate_fits, stage_fits}
use Rattle.host_model.proofs.StagesLaws.{stage_small}
use Rattle.host_model.specs.Small.{SmallMove}
use Rattle.host_model.proofs.StagesLaws.{facts_rate, rate_facts, facts_sending, sending_facts, SendingOf, facts_sent}
use Rattle.host_model.specs.Answers.{lower_move, rate_move, piece_size, size_move, parameters_move, accepted_move, same_move, packet_move}
use Rattle.host_model.specs.Answers.{notice_move, frame_move, text_move, line_move}
use Rattle.host_model.proofs.AnswersLaws.{ack_any, where_any, piece_packet, piece_wish}
use Rattle.host_model.specs.declared.plan.Rate.{Rate}
use Rattle.host_model.specs.declared.plan.Rate.TheVariants.{R9600, R19200, R38400, R57600, R115200}
use Rattle.host_model.specs.declared.plan.Same.{Same}
use Rattle.host_model.specs.declared.plan.Same.TheVariants.{GoOn, Stop}
use Rattle.host_model.specs.declared.plan.Plan.{Plan}
use Rattle.host_model.specs.declared.plan.Stage.{Stage}
use Rattle.host_model.specs.declared.plan.Stage.TheVariants.{Text, Asking, Declaring, Sending, Noticing, Restarting}
use Rattle.host_model.specs.declared.answers.Move.{Move}
use Rattle.host_model.specs.declared.answers.Move.TheVariants.{Stay, Enter, Await, Resend, Refuse, TooMany, Finish}

-- A move leads only to a stage that fits.
abbrev pub FitsMove : Plan → ℕ → Move → Type 0
FitsMove plan image Stay = Unit
FitsMove plan image (Enter next) = stage_fits plan image next ≡ true
FitsMove plan image (Await next) = stage_fits plan image next ≡ true
FitsMove plan image Resend = Unit
FitsMove plan image (Refuse refusal passed) = Unit
FitsMove plan image TooMany = Unit
FitsMove plan image Finish = Unit

module _ (plan : Plan) (image : ℕ) where
  -- By the rules, one by one: a lower rate is not above the first either.
  fits_lower : (rate : Rate) → rate_fits plan.first rate ≡ true → FitsMove plan image (lower_move rate)
  fits_lower R9600 h = tt
  fits_lower R19200 h = facts_rate plan.first R9600 (omega (arith, rate_facts plan.first R19200 h))
  fits_lower R38400 h = facts_rate plan.first R19200 (omega (arith, rate_facts plan.first R38400 h))
  fits_lower R57600 h = facts_rate plan.first R38400 (omega (arith, rate_facts plan.first R57600 h))
  fits_lower R115200 h = facts_rate plan.first R57600 (omega (arith, rate_facts plan.first R115200 h))

  fits_rate : (asked : Rate) (rate ack : ℕ) → rate_fits plan.first asked ≡ true → FitsMove plan image (rate_move asked rate ack)
  unfolding rate_move
  fits_rate asked rate ack h =
      let F : Move → Type 0 = FitsMove plan image in
      either_way F (eqb rate (number_of_rate asked)) (λ _. ack_any F ack h (fits_lower asked h) tt tt tt)
      (λ _. either_way F (eqb rate 0) (λ _. ack_any F ack tt tt tt tt tt) (λ _. tt))

  -- A size that is tested has a first piece.
  fits_size : (rate : Rate) (size : ℕ) → 1 ≤ image → number_of_rate rate ≤ number_of_rate plan.first → size ≤ largest_packet
      → size ≤ plan.wish → FitsMove plan image (size_move rate image size)
  unfolding size_move
  fits_size rate size some asked small wished =
      either_way (FitsMove plan image) (leb 1 size && leb (count_of image size) largest_total)
      (λ e.
      let each = both (leb 1 size) _ e in
      let one : 1 ≤ size = leb-true 1 size each.0 in
      facts_sending plan image rate size 1 (record {
        asked = asked;
        cut = record { some = one; small = small; wished = wished; carried = leb-true (count_of image size) largest_total each.1 };
        this = record { one = omega arith; most = count_some image size some one };
      }))
      (λ _. tt)

  fits_parameters : (rate : Rate) (most ack : ℕ) → 1 ≤ image → rate_fits plan.first rate ≡ true
      → FitsMove plan image (parameters_move plan image rate most ack)
  unfolding parameters_move
  fits_parameters rate most ack some h =
      let wish = plan.wish in
      ack_any (FitsMove plan image) ack
      (fits_size rate (piece_size most wish) some (rate_facts plan.first rate h) (piece_packet most wish) (piece_wish most wish))
      tt tt tt tt

  fits_accepted : (rate : Rate) (size number : ℕ) → SendingOf plan image rate size number
      → FitsMove plan image (accepted_move image rate size number)
  unfolding accepted_move
  fits_accepted rate size number s =
      either_way (FitsMove plan image) (ltb number (count_of image size))
      (λ e. facts_sending plan image rate size (number + 1) (record {
        asked = s.asked;
        cut = s.cut;
        this = record { one = omega arith; most = omega (arith, ltb-true number (count_of image size) e) };
      }))
      (λ _. facts_sent plan image rate size (record { asked = s.asked; cut = s.cut }))

  fits_same : (way : Same) (move : Move) → FitsMove plan image move → FitsMove plan image (same_move way move)
  fits_same GoOn move h = h
  fits_same Stop move h = tt

  fits_packet : (rate : Rate) (size number given ack : ℕ) → SendingOf plan image rate size number
      → FitsMove plan image (packet_move plan image rate size number given ack)
  unfolding packet_move
  fits_packet rate size number given ack s =
      let F : Move → Type 0 = FitsMove plan image in
      let go = fits_accepted rate size number s in
      either_way F (eqb given number)
      (λ _. ack_any F ack go tt (fits_same plan.same (accepted_move image rate size number) go) tt tt)
      (λ _. either_way F (eqb given 0) (λ _. ack_any F ack tt tt tt tt tt) (λ _. tt))

  fits_notice : (rate : Rate) (size state : ℕ) → stage_fits plan image (Noticing rate size) ≡ true
      → FitsMove plan image (notice_move rate size state)
  unfolding notice_move
  fits_notice rate size state h = either_way (FitsMove plan image) (eqb state 0) (λ _. h) (λ _. tt)

  fits_text : (line : List ℕ) → FitsMove plan image (text_move plan.first line)
  unfolding text_move
  fits_text line =
      either_way (FitsMove plan image) (same_bytes line start_answer) (λ _. facts_rate plan.first plan.first (omega arith)) (λ _. tt)

  -- From a stage that fits, a frame leads to one that fits, and so does a line.
  pub fits_frame : (stage : Stage) (command : ℕ) (payload : List ℕ) → 1 ≤ image → stage_fits plan image stage ≡ true
      → FitsMove plan image (frame_move plan image stage command payload)
  fits_frame Text command payload some h = tt
  fits_frame (Asking rate) command payload some h =
      where_any (FitsMove plan image) rate_command 2 command payload (fits_rate rate (get_or payload 0 0) (get_or payload 1 0) h) tt
  fits_frame (Declaring rate) command payload some h =
      where_any (FitsMove plan image) parameters_command 3 command payload
      (fits_parameters rate (number_at 2 payload 0) (get_or payload 2 0) some h)
      tt
  fits_frame (Sending rate size number) command payload some h =
      where_any (FitsMove plan image) packet_command 3 command payload
      (fits_packet rate size number (number_at 2 payload 0) (get_or payload 2 0) (sending_facts plan image rate size number h))
      tt
  fits_frame (Noticing rate size) command payload some h =
      where_any (FitsMove plan image) notice_command 1 command payload (fits_notice rate size (get_or payload 0 0) h) tt
  fits_frame (Restarting rate size) command payload some h =
      where_any (FitsMove plan image) restart_command 1 command payload
      (ack_any (FitsMove plan image) (get_or payload 0 0) tt tt tt tt tt)
      tt

  pub fits_line : (stage : Stage) (line : List ℕ) → FitsMove plan image (line_move plan stage line)
  fits_line Text line = fits_text line
  fits_line (Asking rate) line = tt
  fits_line (Declaring rate) line = tt
  fits_line (Sending rate size number) line = tt
  fits_line (Noticing rate size) line = tt
  fits_line (Restarting rate size) line = tt

-- A stage that fits has small packets, so a move to it leads to small ones.
pub fits_small : (plan : Plan) (image : ℕ) (move : Move) → FitsMove plan image move → SmallMove move
fits_small plan image Stay h = tt
fits_small plan image (Enter next) h = stage_small plan image next h
fits_small plan image (Await next) h = stage_small plan image next h
fits_small plan image Resend h = tt
fits_small plan image (Refuse refusal passed) h = tt
fits_small plan image TooMany h = tt
fits_small plan image Finish h = tt
