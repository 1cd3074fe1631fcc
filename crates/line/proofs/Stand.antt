-- How a host, a module and a flash stand together at any time of a load: what L1 keeps from move to move.
use Rattle.std.specs.Prelude.{ℕ, ◌+◌, ◌*◌, ◌≤◌, Bool, true, ◌≡◌, length}
use mathlib.Core.List.{List, Memᴰ}
use Rattle.kinds.specs.Kinds.{base_of, longest_image}
use Rattle.kinds.specs.declared.Kind.{Kind}
use Rattle.pieces.specs.Pieces.{count_of}
use Rattle.wire.specs.Frame.{Frame}
use Rattle.commands.specs.Commands.{largest_packet, largest_total, accepted, parameters_reply, notice}
use Rattle.commands.specs.Commands.{rate_frame, parameters_frame, packet_frame, restart_frame}
use Rattle.host_model.specs.Stages.{number_of_rate}
use Rattle.host_model.specs.Answers.{piece_size}
use Rattle.host_model.specs.declared.plan.Rate.{Rate}
use Rattle.host_model.specs.declared.plan.Stage.{Stage}
use Rattle.host_model.specs.declared.plan.Stage.TheVariants.{Text, Asking, Declaring, Sending, Noticing, Restarting}
use Rattle.module_model.proofs.Due.{transfer_for}
use Rattle.module_model.specs.declared.phases.Phase as module_phase
use Rattle.module_model.specs.declared.phases.Phase.TheVariants.{Closed, Ready, Begun, Loading, Done}
use Rattle.host.specs.Session.{arises}
use Rattle.host.specs.Step.{Wishes, plan_of}
use Rattle.host_model.specs.declared.waits.Phase as host_phase
use Rattle.host_model.specs.declared.waits.Phase.TheVariants.{Ended, EndedAt, Waiting}
use Rattle.line.specs.Joined.{Joined}
use Rattle.line.proofs.Filled.{Filled, Kept}

module _ (kind : Kind) (w : Wishes) (image : List ℕ) where
  -- The piece size of the load, and its number of packets: the module's MaxPk is always 1,024.
  abbrev pub size_of : ℕ
  size_of = piece_size largest_packet w.wish

  abbrev pub counted_of : ℕ
  counted_of = count_of (length image) size_of

  -- A frame that the host has sent. Packets only once the module has begun this transfer.
  pub data HostFrame (begun : Bool) (f : Frame) : Type 0 where
    rate : (r : Rate) → f ≡ rate_frame (number_of_rate r) → HostFrame begun f
    parameters : length image ≤ longest_image → f ≡ parameters_frame kind (length image) → HostFrame begun f
    packet : (k : ℕ) → begun ≡ true → 1 ≤ length image → 1 ≤ size_of → 1 ≤ k → k ≤ counted_of → counted_of ≤ largest_total
        → f ≡ packet_frame image size_of k → HostFrame begun f
    restart : f ≡ restart_frame → HostFrame begun f

  -- Where the host stands: behind the parameters only once the module has begun, behind the notice only once that was sent.
  abbrev pub StageStands : Bool → List Frame → Stage → Type 0
  StageStands begun sent Text = Unit
  StageStands begun sent (Asking r) = Unit
  StageStands begun sent (Declaring r) = Unit
  StageStands begun sent (Sending r size number) = (begun ≡ true) × (size ≡ size_of)
  StageStands begun sent (Noticing r size) = (begun ≡ true) × (size ≡ size_of)
  StageStands begun sent (Restarting r size) = Memᴰ (notice 0) sent

  abbrev pub HostStands : Bool → List Frame → host_phase.Phase → Type 0
  HostStands begun sent Ended = Unit
  HostStands begun sent (EndedAt type at) = Unit
  HostStands begun sent (Waiting wait) = (wait.plan ≡ plan_of kind w) × StageStands begun sent wait.stage

  -- Where the module stands once it has begun: at this transfer, in pieces of the load's size.
  abbrev pub Ours : module_phase.Phase → Type 0
  Ours Closed = Unit
  Ours Ready = Unit
  Ours (Begun t) = t ≡ transfer_for kind image
  Ours (Loading p number written) = (p.transfer ≡ transfer_for kind image) × (p.size ≡ size_of)
  Ours (Done p written) = p.transfer ≡ transfer_for kind image

  -- How much of the image is in the flash then.
  abbrev pub filled_to : module_phase.Phase → ℕ
  filled_to Closed = 0
  filled_to Ready = 0
  filled_to (Begun t) = 0
  filled_to (Loading p number written) = number * size_of
  filled_to (Done p written) = length image

  pub record Stand (before : List ℕ) (j : Joined) : Type 0 where
    -- whether the module has accepted the parameters of this load since the host's opening,
    pub begun : Bool
    pub sound : arises j.host ≡ true
    pub same_image : j.host.image ≡ length image
    pub host_at : HostStands begun j.from_board j.host.phase
    pub frames : (f : Frame) → Memᴰ f j.from_host → HostFrame begun f
    -- it says so only then, and always with MaxPk 1,024,
    pub told : (most : ℕ) → most ≤ largest_total → Memᴰ (parameters_reply most accepted) j.from_board
        → (most ≡ largest_packet) × (begun ≡ true)
    -- nothing outside the range has changed, and from then on so much of the image is in the flash,
    pub kept : Kept image (base_of kind) before j.flash
    pub inside : begun ≡ true → base_of kind + length image ≤ length before
    pub board_at : begun ≡ true → Ours j.board.phase × Filled image (base_of kind) (filled_to j.board.phase) j.flash
    -- all of it once success was said.
    pub success : Memᴰ (notice 0) j.from_board → (begun ≡ true) × Filled image (base_of kind) (length image) j.flash
