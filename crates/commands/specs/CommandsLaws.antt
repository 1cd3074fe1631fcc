-- The laws of Commands: the payloads of 0x02 and 0x05 as they are built.
use Rattle.std.specs.Prelude.{ℕ, ◌+◌, ◌%◌, ◌≤◌, List, [], ◌∷◌, ◌++◌, ◌≡◌, refl, length, take}
use Rattle.std.proofs.Common.{append-nil, ap, ◌∙◌, arith, length-append}
use Rattle.octets.specs.Octets.{Pieces, end_to_end, spelled, laid}
use Rattle.octets.proofs.OctetsLaws.{over_nil, over_all, take_over, length_spelled, spelled_rest}
use Rattle.octets.proofs.PartLaws.{Sized, lay_all_law, length_laid, part_most}
use Rattle.kinds.specs.Kinds.{number_of, token_of}
use Rattle.kinds.specs.declared.Kind.{Kind}
use Rattle.pieces.specs.Pieces.{count_of, piece_of, offset_of}
use Rattle.wire.specs.Frame.{longest_payload}
use Rattle.commands.specs.Commands.{largest_packet, parameters_for, packet_for}

-- The pieces of the payload of 0x02.
abbrev parameters_pieces : Kind → ℕ → Pieces
parameters_pieces kind n = (2, spelled 2 (number_of kind)) ∷ (4, spelled 4 n) ∷ (4, spelled 4 (token_of kind)) ∷ []

-- Type, length and token, each put at its place, are the payload.
pub parameters_built : (kind : Kind) (n : ℕ) (zeros : List ℕ) → length zeros ≡ 10
    → laid (laid (laid zeros 0 (spelled 2 (number_of kind))) 2 (spelled 4 (n % 4294967296))) 6 (spelled 4 (token_of kind))
    ≡ parameters_for kind n
parameters_built kind n zeros z =
    let ps = parameters_pieces kind n in
    let sizes : Sized ps = (length_spelled 2 (number_of kind), (length_spelled 4 n, (length_spelled 4 (token_of kind), tt))) in
    let rest : spelled 4 (n % 4294967296) ≡ spelled 4 n = spelled_rest 4 n in
    let long : length (end_to_end ps) ≡ 10 = length_laid ps sizes in
    rw rest (rw over_nil at (lay_all_law ps [] zeros 0 refl sizes (omega arith)))
    ∙ over_all (end_to_end ps) zeros (omega arith)
    ∙ ap (λ (l : List ℕ). spelled 2 (number_of kind) ++ (spelled 4 n ++ l)) (append-nil (spelled 4 (token_of kind)))

-- The payload has ten bytes.
pub length_parameters : (kind : Kind) (n : ℕ) → length (parameters_for kind n) ≡ 10
length_parameters kind n =
    simp (length-append, length_spelled 2 (number_of kind), length_spelled 4 n, length_spelled 4 (token_of kind))

-- The pieces of the payload of 0x05.
abbrev packet_pieces : List ℕ → ℕ → ℕ → Pieces
packet_pieces image size k =
    (2, spelled 2 (count_of (length image) size))
    ∷ (2, spelled 2 k)
    ∷ (2, spelled 2 (length (piece_of image size k)))
    ∷ (length (piece_of image size k), piece_of image size k)
    ∷ []

-- A piece is never longer than the size.
pub piece_most : (image : List ℕ) (size k : ℕ) → length (piece_of image size k) ≤ size
piece_most image size k = part_most image (offset_of size k) size

-- The payload is six bytes longer than the piece.
pub length_packet : (image : List ℕ) (size k : ℕ) → length (packet_for image size k) ≡ length (piece_of image size k) + 6
length_packet image size k =
    simp (
      length-append,
      length_spelled 2 (count_of (length image) size),
      length_spelled 2 k,
      length_spelled 2 (length (piece_of image size k)),
    )
    (omega arith)

-- Total, number, size and piece, each put at its place, are the payload at the front.
pub packet_built : (image : List ℕ) (size k : ℕ) (zeros : List ℕ) → length zeros ≡ longest_payload
    → length (piece_of image size k) ≤ largest_packet
    → take (length (piece_of image size k) + 6)
    (laid
    (laid
    (laid (laid zeros 0 (spelled 2 (count_of (length image) size % 65536))) 2 (spelled 2 (k % 65536)))
    4
    (spelled 2 (length (piece_of image size k) % 65536)))
    6
    (piece_of image size k))
    ≡ packet_for image size k
packet_built image size k zeros z most =
    let ps = packet_pieces image size k in
    let piece : List ℕ = piece_of image size k in
    let total : ℕ = count_of (length image) size in
    let sizes : Sized ps = (length_spelled 2 total, (length_spelled 2 k, (length_spelled 2 (length piece), (refl, tt)))) in
    let rest : (x : ℕ) → spelled 2 (x % 65536) ≡ spelled 2 x = spelled_rest 2 in
    let whole : end_to_end ps ≡ packet_for image size k =
    ap (λ (l : List ℕ). spelled 2 total ++ (spelled 2 k ++ (spelled 2 (length piece) ++ l))) (append-nil piece) in
    let put = rw over_nil at (lay_all_law ps [] zeros 0 refl sizes (omega arith)) in
    rw (rest total, rest k, rest (length piece))
    (ap (take (length piece + 6)) put
    ∙ take_over (end_to_end ps) zeros (length piece + 6) (ap length whole ∙ length_packet image size k)
    ∙ whole)
