-- What the host sends at each stage.
use Rattle.std.specs.Prelude.{ℕ, cond, List, ltb, length}
use Rattle.refusals.specs.Refusals.{no_room}
use Rattle.refusals.specs.Written.{Out, refused, written}
use Rattle.pieces.specs.Pieces.{count_of}
use Rattle.wire.specs.Frame.{Frame, wire_of}
use Rattle.commands.specs.Commands.{start_text, rate_frame, parameters_frame, packet_frame, restart_frame}
use Rattle.host_model.specs.Stages.{number_of_rate}
use Rattle.host_model.specs.declared.plan.Plan.{Plan}
use Rattle.host_model.specs.declared.plan.Stage.{Stage}
use Rattle.host_model.specs.declared.plan.Stage.TheVariants.{Text, Asking, Declaring, Sending, Noticing, Restarting}

-- How a frame goes out.
abbrev pub goes_out : Frame → List ℕ
goes_out f = wire_of f

-- What 0x02 declares.
abbrev pub declared_by : Plan → List ℕ → Frame
declared_by plan image = parameters_frame plan.kind (length image)

-- What is sent at a stage, first and again. While the notice is awaited it is the last packet.
abbrev pub message_of : Plan → List ℕ → Stage → List ℕ
message_of plan image Text = start_text
message_of plan image (Asking rate) = goes_out (rate_frame (number_of_rate rate))
message_of plan image (Declaring rate) = goes_out (declared_by plan image)
message_of plan image (Sending rate size number) = goes_out (packet_frame image size number)
message_of plan image (Noticing rate size) = goes_out (packet_frame image size (count_of (length image) size))
message_of plan image (Restarting rate size) = goes_out restart_frame

-- A message stands at the front of the output; 2 where the output is shorter, and nothing is written.
unfoldable pub sent_of : List ℕ → List ℕ → Out
sent_of message output = cond (ltb (length output) (length message)) (refused no_room output) (written message output)
