-- Wrong readers, each a small variation of our step, and a promise that it breaks.
use Rattle.std.specs.Prelude.{ℕ, ◌+◌, ◌-◌, ◌≤◌, Bool, true, false, cond, not, ◌&&◌, ◌≡◌, refl, eqb, length, get_or, take, replicate}
use Rattle.std.proofs.lemmas.Bool.{false≢true}
use Rattle.std.proofs.Common.{true≢false, sym, ap, ◌∙◌, arith}
use mathlib.Core.List.{List, [], ◌∷◌, ◌++◌, map, Memᴰ}
use Rattle.std.proofs.lemmas.List.{length-replicate}
use Rattle.octets.specs.Octets.{Bytes, little, spelled, number_at, xor_from, xor_of, part_of, over}
use Rattle.octets.proofs.Lists.{bytes_snoc}
use Rattle.wire.specs.Escape.{head_mark, tail_mark, is_mark, second_of, may_follow, escape_of, escaped}
use Rattle.wire.specs.Frame.{Frame, frame, Acceptable, longest_content, shortest_content}
use Rattle.wire.specs.Frame.{unchecked_of, content_of, wire_form, wire_of, is_content}
use Rattle.wire.specs.Write.{write_of}
use Rattle.refusals.specs.Written.{Out}
use Rattle.commands.specs.Commands.{restart_frame}
use Rattle.reader.specs.Moves.{content_move, follow_move, tail_move, inside_move, move_of}
use Rattle.reader.specs.Reader.{fresh, known_of, held_of, closed_of, answers, known_step, step_of}
use Rattle.reader.specs.declared.steps.Heard.{Heard}
use Rattle.reader.specs.declared.steps.Heard.TheVariants.{Nothing, Frame as Whole, Dropped}
use Rattle.reader.specs.declared.steps.Reader.{Reader}
use Rattle.reader.specs.declared.steps.Stepped.{Stepped}
use Rattle.reader_promises.specs.Runs.{Step, Placed, placed, later, handed_by}
use Rattle.reader_promises.specs.Promises.{RoundTripOf, ReadBackOf, ResyncOf, EveryStretchOf, DroppedExactlyOf, BenchTableOf}
use Rattle.reader_promises.specs.Promises.{PrintedRowOf, StandsIn}
use Rattle.reader_promises.proofs.SeenLaws.{fresh_known}
use Rattle.reader_promises.specs.Table.{Row, bench_table}

-- The restart frame on the wire.
abbrev restart_bytes : List ℕ
restart_bytes = 0xDB ∷ 0x03 ∷ 0x00 ∷ 0x01 ∷ 0x06 ∷ 0x04 ∷ 0xDE ∷ []

restart_are_bytes : Bytes restart_bytes
restart_are_bytes = (omega arith, (omega arith, (omega arith, (omega arith, (omega arith, (omega arith, (omega arith, tt)))))))

restart_form : wire_of restart_frame ≡ restart_bytes
unfolding wire_of wire_form content_of unchecked_of spelled xor_from escaped escape_of is_mark second_of
restart_form = refl

restart_stands : StandsIn restart_bytes (wire_of restart_frame) 6
restart_stands = rw restart_form (record { before = []; after = []; split = refl; ends = refl })

restart_acceptable : Acceptable restart_frame
restart_acceptable = record { command_byte = omega arith; payload_bytes = tt; payload_fits = omega arith }

-- A frame is more than none.
one_more : (p : Placed) → ◌≡◌ {A = List Placed} [] (p ∷ []) → ⊥
one_more p e = let counts : ◌≡◌ {A = ℕ} 0 1 = ap length e in omega (arith, counts)

-- Our step, but with something else said in place of what it hears.
abbrev saying : (Heard → Heard) → Step
saying other r b = answers (other (step_of r b).heard) (step_of r b).reader

-- ---- W1, W3, W4: hands out nothing

-- Each frame is said to be dropped.
abbrev unsaid : Heard → Heard
unsaid Nothing = Nothing
unsaid (Whole command n) = Dropped
unsaid Dropped = Dropped

abbrev pub hands_out_nothing : Step
hands_out_nothing = saying unsaid

nothing_handed : handed_by hands_out_nothing fresh 0 restart_bytes ≡ []
unfolding handed_by step_of known_step known_of fresh move_of inside_move tail_move content_move held_of is_content number_at little xor_from
nothing_handed = refl

pub hands_out_nothing_round_trip_refuted : RoundTripOf hands_out_nothing wire_of → ⊥
hands_out_nothing_round_trip_refuted promise =
    one_more _ (sym nothing_handed ∙ (rw restart_form at (promise fresh restart_frame fresh_known.size (omega arith))))

pub hands_out_nothing_stretches_refuted : EveryStretchOf hands_out_nothing → ⊥
hands_out_nothing_stretches_refuted promise =
    let there = (promise restart_bytes restart_are_bytes).complete restart_frame 6 restart_acceptable restart_stands in
    mathlib.Core.List.Memᴰ.not-nil (rw nothing_handed at there)

pub hands_out_nothing_table_refuted : BenchTableOf hands_out_nothing wire_of → ⊥
hands_out_nothing_table_refuted promise =
    let row : Row = record { frame = restart_frame; bytes = restart_bytes } in
    let sixth : Memᴰ row bench_table =
    mathlib.Core.List.Memᴰ.tail (mathlib.Core.List.Memᴰ.tail (mathlib.Core.List.Memᴰ.tail (mathlib.Core.List.Memᴰ.tail (mathlib.Core.List.Memᴰ.tail (mathlib.Core.List.Memᴰ.head refl))))) in
    one_more _ (sym nothing_handed ∙ (promise row sixth).1)

-- ---- W1: drops content byte 1,035

-- Our step, but the content byte that would be the 1,035th drops the frame.
abbrev pub ends_early : Step
ends_early r b = cond (eqb (step_of r b).reader.count longest_content) (answers Dropped (closed_of r)) (step_of r b)

-- A frame with the longest payload.
abbrev longest : Frame
longest = frame 0x05 (replicate 1030 0x00)

early_handed : handed_by ends_early fresh 0 (wire_of longest) ≡ []
unfolding handed_by step_of known_step known_of fresh move_of inside_move tail_move content_move held_of is_content number_at little xor_from
    wire_of wire_form content_of unchecked_of spelled escaped escape_of is_mark
early_handed = refl

pub ends_early_refuted : RoundTripOf ends_early wire_of → ⊥
ends_early_refuted promise =
    let short : length longest.payload ≤ 1030 = omega (arith, length-replicate {A = ℕ} 1030 0x00) in
    one_more _ (sym early_handed ∙ promise fresh longest fresh_known.size short)

-- ---- W1, the way back: hands out another frame

-- The command of a frame is told one too high.
abbrev raised : Heard → Heard
raised Nothing = Nothing
raised (Whole command n) = Whole (command + 1) n
raised Dropped = Dropped

abbrev pub raises_command : Step
raises_command = saying raised

raised_handed : handed_by raises_command fresh 0 restart_bytes ≡ placed 6 (frame 0x07 []) ∷ []
unfolding handed_by step_of known_step known_of fresh move_of inside_move tail_move content_move held_of is_content number_at little xor_from part_of
raised_handed = refl

-- The frame that it hands out is written with its own command.
raised_written : get_or (write_of (frame 0x07 []) restart_bytes).output 4 0 ≡ 7
unfolding write_of wire_of wire_form content_of unchecked_of spelled xor_from escaped escape_of is_mark over
raised_written = refl

pub raises_command_refuted : ReadBackOf raises_command write_of → ⊥
unfolding wire_of wire_form content_of unchecked_of spelled xor_from escaped escape_of is_mark over
raises_command_refuted promise =
    let there : Memᴰ (placed 6 (frame 0x07 [])) (handed_by raises_command fresh 0 restart_bytes) = rw raised_handed (mathlib.Core.List.Memᴰ.head refl) in
    let same = promise restart_bytes restart_are_bytes (placed 6 (frame 0x07 [])) there restart_bytes (omega arith) in
    let fifth : ◌≡◌ {A = ℕ} 7 6 = sym raised_written ∙ ap (λ (o : Out). get_or o.output 4 0) same in
    omega (arith, fifth)

-- ---- W2: forgets that a head begins anew

-- Our step, but opening keeps the count.
abbrev pub keeps_count : Step
keeps_count r b =
    cond (eqb b head_mark) (answers Nothing (record { store = r.store; count = r.count; opened = true; pending = false })) (step_of r b)

-- Our step, but opening keeps a pending escape.
abbrev pub keeps_escape : Step
keeps_escape r b =
    cond (eqb b head_mark) (answers Nothing (record { store = r.store; count = 0; opened = true; pending = r.pending })) (step_of r b)

-- Our step, but a head after an escape is a bad byte.
abbrev pub head_is_bad : Step
head_is_bad r b = cond (r.pending && eqb b head_mark) (answers Dropped (closed_of r)) (step_of r b)

-- Noise that opens a frame and has a content byte; noise that ends in an escape.
abbrev open_noise : List ℕ
open_noise = 0xDB ∷ 0x00 ∷ []

abbrev escape_noise : List ℕ
escape_noise = 0xDB ∷ 0xDC ∷ []

-- A reader that has to find the frame and loses it does not resynchronise.
not_resynced : (step : Step) (before rest : List ℕ) → handed_by step fresh 0 (before ++ (head_mark ∷ rest)) ≡ []
    → handed_by step fresh 0 before ++ map (later (length before)) (handed_by step fresh 0 (head_mark ∷ rest)) ≡ placed 8 restart_frame ∷ []
    → ResyncOf step → ⊥
not_resynced step before rest lost found promise = one_more _ (sym lost ∙ promise fresh before rest fresh_known.size ∙ found)

-- The restart frame behind its head.
abbrev after_head : List ℕ
after_head = 0x03 ∷ 0x00 ∷ 0x01 ∷ 0x06 ∷ 0x04 ∷ 0xDE ∷ []

pub keeps_count_refuted : ResyncOf keeps_count → ⊥
unfolding handed_by step_of known_step known_of fresh move_of inside_move tail_move content_move held_of is_content number_at little xor_from
    follow_move part_of
keeps_count_refuted = not_resynced keeps_count open_noise after_head refl refl

pub keeps_escape_refuted : ResyncOf keeps_escape → ⊥
unfolding handed_by step_of known_step known_of fresh move_of inside_move tail_move content_move held_of is_content number_at little xor_from
    follow_move may_follow part_of
keeps_escape_refuted = not_resynced keeps_escape escape_noise after_head refl refl

pub head_is_bad_refuted : ResyncOf head_is_bad → ⊥
unfolding handed_by step_of known_step known_of fresh move_of inside_move tail_move content_move held_of is_content number_at little xor_from
    follow_move may_follow part_of
head_is_bad_refuted = not_resynced head_is_bad escape_noise after_head refl refl

-- ---- W3: a frame at every tail

-- A frame with this command is told, whatever the content so far is, and closed.
abbrev told : ℕ → Reader → Stepped
told command r = answers (Whole command (r.count - shortest_content)) (closed_of r)

-- Our step, but every tail inside a frame hands out a frame.
abbrev pub always_one_frame : Step
always_one_frame r b = cond (r.opened && eqb b tail_mark) (told (get_or r.store 3 0) r) (step_of r b)

-- A head and a tail hold no frame.
always_handed : handed_by always_one_frame fresh 0 (0xDB ∷ 0xDE ∷ []) ≡ placed 1 (frame 0x00 []) ∷ []
unfolding handed_by step_of known_step known_of fresh move_of inside_move tail_move content_move held_of is_content number_at little xor_from part_of
always_handed = refl

pub always_one_frame_refuted : EveryStretchOf always_one_frame → ⊥
unfolding wire_of wire_form content_of unchecked_of spelled xor_from escaped escape_of is_mark
always_one_frame_refuted promise =
    let found = (promise (0xDB ∷ 0xDE ∷ []) (omega arith, (omega arith, tt))).sound (placed 1 (frame 0x00 []))
    (rw always_handed (mathlib.Core.List.Memᴰ.head refl)) in
    omega (arith, found.1.ends)

-- ---- W3: the command, or the frame, a place one on

-- The tail ends good content.
abbrev ends : Reader → ℕ → Bool
ends r b = r.opened && (eqb b tail_mark && is_content (held_of r))

-- Our step, but the command is told from one place on in the store.
abbrev pub command_one_on : Step
command_one_on r b = cond (ends r b) (told (get_or r.store 4 0) r) (step_of r b)

-- Our step, but each frame is told one place on, with the byte behind its tail. (Until then an escape pending outside a frame stands for it.)
abbrev pub place_one_on : Step
place_one_on r b =
    cond (not r.opened && r.pending) (told (get_or r.store 3 0) r)
    (cond (ends r b) (answers Nothing (record { store = r.store; count = r.count; opened = false; pending = true })) (step_of r b))

command_handed : handed_by command_one_on fresh 0 restart_bytes ≡ placed 6 (frame 0x04 []) ∷ []
unfolding handed_by step_of known_step known_of fresh move_of inside_move tail_move content_move held_of is_content number_at little xor_from part_of
command_handed = refl

place_handed : handed_by place_one_on fresh 0 (restart_bytes ++ (0x00 ∷ [])) ≡ placed 7 restart_frame ∷ []
unfolding handed_by step_of known_step known_of fresh move_of inside_move tail_move content_move held_of is_content number_at little xor_from part_of
place_handed = refl

-- Command 4 does not stand in the restart frame's bytes, and the restart frame does not stand a place further on.
not_command : (before after : List ℕ) → restart_bytes ≡ before ++ (wire_of (frame 0x04 []) ++ after)
    → 7 ≡ length before + length (wire_of (frame 0x04 [])) → ⊥
unfolding wire_of wire_form content_of unchecked_of spelled xor_from escaped escape_of is_mark
not_command [] after e h = let fifth : ◌≡◌ {A = ℕ} 6 4 = ap (λ (l : List ℕ). get_or l 4 0) e in omega (arith, fifth)
not_command (b ∷ before) after e h = omega (arith, h)

not_further : (before after : List ℕ) → restart_bytes ++ (0x00 ∷ []) ≡ before ++ (restart_bytes ++ after)
    → 8 ≡ length before + length restart_bytes → ⊥
not_further [] after e h = omega (arith, h)
not_further (b ∷ []) after e h = let second : ◌≡◌ {A = ℕ} 0x03 0xDB = ap (λ (l : List ℕ). get_or l 1 0) e in omega (arith, second)
not_further (b ∷ c ∷ before) after e h = omega (arith, h)

pub command_one_on_refuted : EveryStretchOf command_one_on → ⊥
command_one_on_refuted promise =
    let found = ((promise restart_bytes restart_are_bytes).sound (placed 6 (frame 0x04 [])) (rw command_handed (mathlib.Core.List.Memᴰ.head refl))).1 in
    not_command found.before found.after found.split found.ends

pub place_one_on_refuted : EveryStretchOf place_one_on → ⊥
place_one_on_refuted promise =
    let bytes = bytes_snoc restart_bytes 0x00 restart_are_bytes (omega arith) in
    let there = ((promise (restart_bytes ++ (0x00 ∷ [])) bytes).sound (placed 7 restart_frame) (rw place_handed (mathlib.Core.List.Memᴰ.head refl))).1 in
    let found = rw restart_form at there in
    not_further found.before found.after found.split found.ends

-- ---- dropped, where it is not said or said too often

-- Nobody is told of a frame that is dropped.
abbrev hushed : Heard → Heard
hushed Nothing = Nothing
hushed (Whole command n) = Whole command n
hushed Dropped = Nothing

abbrev pub drops_in_silence : Step
drops_in_silence = saying hushed

-- Every byte that brings nothing is said to be dropped.
abbrev loud : Heard → Heard
loud Nothing = Dropped
loud (Whole command n) = Whole command n
loud Dropped = Dropped

abbrev pub noise_is_dropped : Step
noise_is_dropped = saying loud

-- A frame just begun, and its tail; a fresh reader, and a byte of noise.
abbrev just_begun : Reader
just_begun = record { store = []; count = 0; opened = true; pending = false }

pub drops_in_silence_refuted : DroppedExactlyOf drops_in_silence → ⊥
unfolding step_of known_step known_of move_of inside_move tail_move held_of is_content
drops_in_silence_refuted promise = false≢true (promise just_begun tail_mark)

pub noise_is_dropped_refuted : DroppedExactlyOf noise_is_dropped → ⊥
unfolding step_of known_step known_of fresh move_of
noise_is_dropped_refuted promise = true≢false (promise fresh 0x00)

-- ---- W4: the printed row is read

-- Our step, but Length is not compared: at the tail the check alone counts.
abbrev pub counts_nothing : Step
counts_nothing r b =
    cond (r.opened && (eqb b tail_mark && eqb (get_or (held_of r) (r.count - 1) 0) (xor_of (take (r.count - 1) (held_of r)))))
    (told (get_or r.store 3 0) r) (step_of r b)

pub counts_nothing_refuted : PrintedRowOf counts_nothing → ⊥
unfolding handed_by step_of known_step known_of fresh move_of inside_move tail_move content_move held_of is_content number_at little xor_from part_of
counts_nothing_refuted promise = let counts : ◌≡◌ {A = ℕ} 1 0 = ap length promise in omega (arith, counts)
