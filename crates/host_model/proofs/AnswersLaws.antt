-- The laws of Answers: where each answer leads.
use Rattle.std.specs.Prelude.{ℕ, ◌+◌, ◌≤◌, ◌<◌, min, true, false, ◌&&◌, List, ◌≡◌, refl, eqb, leb, length}
use Rattle.std.proofs.Math.Bool.{not-eq-not}
use Rattle.std.proofs.Common.{◌∙◌, arith, le-leb, leb-true, lt-ltb, le-ltb, eq-eqb, ne_eqb, eqb-true}
use Rattle.std.proofs.Math.Nat.{min-le_left, min-le_right}
use Rattle.octets.proofs.Choice.{cond_yes, cond_no, either_way, both}
use Rattle.octets.specs.Octets.{same_bytes}
use Rattle.refusals.specs.Refusals.{module_refused, bad_notice}
use Rattle.pieces.specs.Pieces.{count_of}
use Rattle.commands.specs.Commands.{accepted, wrong_first, wrong_second, not_understood, largest_packet, largest_total}
use Rattle.host_model.specs.Stages.{number_of_rate}
use Rattle.commands.specs.Commands.{start_answer}
use Rattle.host_model.specs.Answers.{by_ack, lower_move, rate_move, piece_size, size_move, parameters_move, accepted_move, same_move, packet_move}
use Rattle.host_model.specs.Answers.{notice_move, fitting, where_fitting, text_move}
use Rattle.host_model.specs.declared.plan.Rate.{Rate}
use Rattle.host_model.specs.declared.plan.Plan.{Plan}
use Rattle.host_model.specs.declared.plan.Stage.TheVariants.{Asking, Declaring, Sending, Noticing, Restarting}
use Rattle.host_model.specs.declared.answers.Move.{Move}
use Rattle.host_model.specs.declared.answers.Move.TheVariants.{Stay, Enter, Await, Resend, Refuse, TooMany}

-- ---- the ACK

-- Each listed ACK leads where it is said to.
pub ack_accepted : (good first second : Move) → by_ack accepted good first second ≡ good
unfolding by_ack
ack_accepted good first second = refl

pub ack_first : (good first second : Move) → by_ack wrong_first good first second ≡ first
unfolding by_ack
ack_first good first second = refl

pub ack_second : (good first second : Move) → by_ack wrong_second good first second ≡ second
unfolding by_ack
ack_second good first second = refl

pub ack_again : (good first second : Move) → by_ack not_understood good first second ≡ Resend
unfolding by_ack
ack_again good first second = refl

-- An ACK that is none of the four.
pub record OtherAck (ack : ℕ) : Type 0 where
  pub good : ack ≡ accepted → ⊥
  pub first : ack ≡ wrong_first → ⊥
  pub second : ack ≡ wrong_second → ⊥
  pub again : ack ≡ not_understood → ⊥

-- It counts as no answer.
pub ack_other : (ack : ℕ) (good first second : Move) → OtherAck ack → by_ack ack good first second ≡ Stay
unfolding by_ack
ack_other ack good first second o =
    cond_no _ _ _ (ne_eqb ack accepted o.good)
    ∙ cond_no _ _ _ (ne_eqb ack wrong_first o.first)
    ∙ cond_no _ _ _ (ne_eqb ack wrong_second o.second)
    ∙ cond_no _ _ _ (ne_eqb ack not_understood o.again)

-- What holds where each ACK leads, given that it is that ACK, holds of where an ACK leads.
pub ack_cases : (P : Move → Type 0) (ack : ℕ) {good first second : Move} → (ack ≡ accepted → P good) → (ack ≡ wrong_first → P first)
    → (ack ≡ wrong_second → P second) → (ack ≡ not_understood → P Resend) → P Stay → P (by_ack ack good first second)
unfolding by_ack
ack_cases P ack good first second unread none =
    either_way P (eqb ack accepted) (λ e. good (eqb-true ack accepted e)) (λ _.
    either_way P (eqb ack wrong_first) (λ e. first (eqb-true ack wrong_first e)) (λ _.
    either_way P (eqb ack wrong_second) (λ e. second (eqb-true ack wrong_second e)) (λ _.
    either_way P (eqb ack not_understood) (λ e. unread (eqb-true ack not_understood e)) (λ _. none))))

-- So what holds of each place that an ACK can lead to.
pub ack_any : (P : Move → Type 0) (ack : ℕ) {good first second : Move} → P good → P first → P second → P Resend → P Stay
    → P (by_ack ack good first second)
ack_any P ack good first second again none = ack_cases P ack (λ _. good) (λ _. first) (λ _. second) (λ _. again) none

-- ---- 0x01

-- The rate asked for is answered by its ACK, rate 0 only by ACK 10, any other rate counts as no answer.
pub rate_asked : (asked : Rate) (rate ack : ℕ) → rate ≡ number_of_rate asked
    → rate_move asked rate ack ≡ by_ack ack (Enter (Declaring asked)) (lower_move asked) Stay
unfolding rate_move
rate_asked asked rate ack h = cond_yes _ _ _ (eq-eqb rate (number_of_rate asked) h)

pub rate_none : (asked : Rate) (rate ack : ℕ) → (rate ≡ number_of_rate asked → ⊥) → rate ≡ 0
    → rate_move asked rate ack ≡ by_ack ack Stay Stay Stay
unfolding rate_move
rate_none asked rate ack h k = cond_no _ _ _ (ne_eqb rate (number_of_rate asked) h) ∙ cond_yes _ _ _ (eq-eqb rate 0 k)

pub rate_other : (asked : Rate) (rate ack : ℕ) → (rate ≡ number_of_rate asked → ⊥) → (rate ≡ 0 → ⊥) → rate_move asked rate ack ≡ Stay
unfolding rate_move
rate_other asked rate ack h k = cond_no _ _ _ (ne_eqb rate (number_of_rate asked) h) ∙ cond_no _ _ _ (ne_eqb rate 0 k)

-- ---- 0x02

-- A size cuts an image into pieces whose number two bytes carry.
pub record Carried (image size : ℕ) : Type 0 where
  pub some : 1 ≤ size
  pub few : count_of image size ≤ largest_total

-- With such a size packets begin, with any other the load stops.
pub size_begins : (rate : Rate) (image size : ℕ) → Carried image size → size_move rate image size ≡ Enter (Sending rate size 1)
unfolding size_move
size_begins rate image size c = rw (le-leb 1 size c.some, le-leb (count_of image size) largest_total c.few)

pub size_stops : (rate : Rate) (image size : ℕ) → (Carried image size → ⊥) → size_move rate image size ≡ TooMany
unfolding size_move
size_stops rate image size h =
    cond_no (leb 1 size && leb (count_of image size) largest_total) _ _ (not-eq-not.0 (λ e. h (carried e)))
  where
    carried : (leb 1 size && leb (count_of image size) largest_total) ≡ true → Carried image size
    carried e =
        let each = both (leb 1 size) _ e in
        record { some = leb-true 1 size each.0; few = leb-true (count_of image size) largest_total each.1 }

-- The piece size is neither over 1,024 nor over the wish.
pub piece_packet : (most wish : ℕ) → piece_size most wish ≤ largest_packet
piece_packet most wish = omega (arith, min-le_left (min most largest_packet) wish, min-le_right most largest_packet)

pub piece_wish : (most wish : ℕ) → piece_size most wish ≤ wish
piece_wish most wish = min-le_right (min most largest_packet) wish

-- An answer to 0x02 is decided by its ACK.
pub parameters_ack : (plan : Plan) (image : ℕ) (rate : Rate) (most ack : ℕ)
    → parameters_move plan image rate most ack
    ≡ by_ack ack (size_move rate image (piece_size most plan.wish)) (Refuse module_refused wrong_first) (Refuse module_refused wrong_second)
unfolding parameters_move
parameters_ack plan image rate most ack = refl

-- ---- 0x05

-- Behind the last packet the notice is awaited, behind any other the next is sent.
pub accepted_last : (image : ℕ) (rate : Rate) (size number : ℕ) → count_of image size ≤ number
    → accepted_move image rate size number ≡ Await (Noticing rate size)
unfolding accepted_move
accepted_last image rate size number h = cond_no _ _ _ (le-ltb number (count_of image size) h)

pub accepted_before : (image : ℕ) (rate : Rate) (size number : ℕ) → number < count_of image size
    → accepted_move image rate size number ≡ Enter (Sending rate size (number + 1))
unfolding accepted_move
accepted_before image rate size number h = cond_yes _ _ _ (lt-ltb number (count_of image size) h)

-- The number sent is answered by its ACK, PkNo 0 by ACK 01 or 10, any other PkNo counts as no answer.
pub packet_this : (plan : Plan) (image : ℕ) (rate : Rate) (size number given ack : ℕ) → given ≡ number
    → packet_move plan image rate size number given ack
    ≡ by_ack ack (accepted_move image rate size number) (Refuse module_refused wrong_first)
    (same_move plan.same (accepted_move image rate size number))
unfolding packet_move
packet_this plan image rate size number given ack h = cond_yes _ _ _ (eq-eqb given number h)

pub packet_none : (plan : Plan) (image : ℕ) (rate : Rate) (size number given ack : ℕ) → (given ≡ number → ⊥) → given ≡ 0
    → packet_move plan image rate size number given ack ≡ by_ack ack Stay (Refuse module_refused wrong_first) Stay
unfolding packet_move
packet_none plan image rate size number given ack h k = cond_no _ _ _ (ne_eqb given number h) ∙ cond_yes _ _ _ (eq-eqb given 0 k)

pub packet_other : (plan : Plan) (image : ℕ) (rate : Rate) (size number given ack : ℕ) → (given ≡ number → ⊥) → (given ≡ 0 → ⊥)
    → packet_move plan image rate size number given ack ≡ Stay
unfolding packet_move
packet_other plan image rate size number given ack h k = cond_no _ _ _ (ne_eqb given number h) ∙ cond_no _ _ _ (ne_eqb given 0 k)

-- ---- the notice, and the answer to the start text

-- State 0 leads to the restart, any other is passed on.
pub notice_good : (rate : Rate) (size state : ℕ) → state ≡ 0 → notice_move rate size state ≡ Enter (Restarting rate size)
unfolding notice_move
notice_good rate size state h = cond_yes _ _ _ (eq-eqb state 0 h)

pub notice_bad : (rate : Rate) (size state : ℕ) → (state ≡ 0 → ⊥) → notice_move rate size state ≡ Refuse bad_notice state
unfolding notice_move
notice_bad rate size state h = cond_no _ _ _ (ne_eqb state 0 h)

-- The answer to the start text leads to the first rate, any other line counts as no answer.
pub text_same : (first : Rate) (line : List ℕ) → same_bytes line start_answer ≡ true → text_move first line ≡ Enter (Asking first)
unfolding text_move
text_same first line h = cond_yes _ _ _ h

pub text_other : (first : Rate) (line : List ℕ) → same_bytes line start_answer ≡ false → text_move first line ≡ Stay
unfolding text_move
text_other first line h = cond_no _ _ _ h

-- ---- which frames fit

-- A frame fits just where its command and its payload length are those expected.
pub record FittingOf (expected n command size : ℕ) : Type 0 where
  pub same : command ≡ expected
  pub long : size ≡ n

pub fitting_facts : (expected n command size : ℕ) → fitting expected n command size ≡ true → FittingOf expected n command size
unfolding fitting
fitting_facts expected n command size h =
    let each = both (eqb command expected) _ h in
    record { same = eqb-true command expected each.0; long = eqb-true size n each.1 }

pub fitting_no : (expected n command size : ℕ) → (FittingOf expected n command size → ⊥) → fitting expected n command size ≡ false
fitting_no expected n command size h = not-eq-not.0 (λ e. h (fitting_facts expected n command size e))

-- Of the expected command the payload length decides.
pub fitting_long : (expected n command size : ℕ) → command ≡ expected → fitting expected n command size ≡ eqb size n
unfolding fitting
fitting_long expected n command size h = rw (eq-eqb command expected h)

-- What holds of a move and of staying holds of the move of the frames that fit.
pub where_any : (P : Move → Type 0) (expected n command : ℕ) (payload : List ℕ) {move : Move} → P move → P Stay
    → P (where_fitting expected n command payload move)
where_any P expected n command payload h k = either_way P (fitting expected n command (length payload)) (λ _. h) (λ _. k)
