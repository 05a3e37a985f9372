-- Two outcomes that one contract allows are equal, for every public call (RULES 9.2). There are no exceptions.
-- What that means and its one law stand in `bits` (specs/ and proofs/Determined). That an answer's cases are told apart stands with its type:
-- here, in `refusal`, `view` and `colour` (proofs/Told) and in `pulses` (proofs/Encodes). Next door: `log_line::parse` and the calls for C, each in the
-- proofs/Determined of its crate.
use mathlib.Core.Path.{◌≡◌, refl, ap}
use Rattle.std.specs.Prelude.{Option, Some, None, Result}
use mathlib.Core.Bool.{Bool}
use mathlib.Core.List.{List}
use Prim.Native.Nat.{ℕ}
use Rattle.bits.specs.Determined.{Once, Determined}
use Rattle.bits.proofs.Determined.{one, same}
use Rattle.colour.specs.declared.Rgb555.{Rgb555}
use Rattle.colour.specs.declared.Rgb8.{Rgb8}
use Rattle.colour.specs.declared.BorderMapEntry.{BorderMapEntry}
use Rattle.colour.proofs.Told.{word_of}
use Rattle.refusal.specs.declared.Refusal.{Refusal}
use Rattle.refusal.specs.Codes.{code_or_0}
use Rattle.refusal.proofs.Told.{one_told, one_or_0}
use Rattle.refusal.proofs.Refusal.code.Reads as refusal-code
use Rattle.refusal.proofs.Refusal.number.Reads as refusal-number
use Rattle.refusal.proofs.Refusal.offset.Reads as refusal-offset
use Rattle.pulses.specs.Answer.{encoded_answer, verdict_answer}
use Rattle.pulses.proofs.Encodes.{one-encoded, one_verdict}
use Rattle.pulses.proofs.encode.Reads as encode
use Rattle.pulses.proofs.verdict.Reads as verdict
use Rattle.screen.proofs.displayed_screen.Reads as displayed-screen
use Rattle.border.proofs.tile.Reads as tile
use Rattle.colour.proofs.Rgb555.to_rgb8.Reads as to-rgb8
use Rattle.colour.proofs.Rgb555.from_bytes.Reads as from_bytes
use Rattle.colour.proofs.BorderMapEntry.tile.Reads as entry-tile
use Rattle.colour.proofs.BorderMapEntry.palette.Reads as entry-palette
use Rattle.colour.proofs.BorderMapEntry.flip_x.Reads as entry-flip-x
use Rattle.colour.proofs.BorderMapEntry.flip_y.Reads as entry-flip-y
use Rattle.view.specs.Answers.{number_told, colour_told, entry_told, border_told}
use Rattle.view.proofs.Told.{one_number, one_colour, one_entry, one-border}
use Rattle.view.proofs.check.Reads as refusal
use Rattle.view.proofs.mask_mode.Reads as mask-mode
use Rattle.view.proofs.backdrop.Reads as backdrop
use Rattle.view.proofs.color_at.Reads as color-at
use Rattle.view.proofs.map_entry.Reads as map-entry
use Rattle.view.proofs.border_color_at.Reads as border-color-at
use Rattle.view.proofs.row.Reads as row
use Rattle.view.proofs.picture.Reads as picture
use Rattle.unit.specs.declared.Played.{Played}
use Rattle.unit.specs.Answers.{packets_of, written_told, taken_as, played_told, shown_told}
use Rattle.unit.specs.Plays.{Taken}
use Rattle.transfer.specs.declared.pending.Transfer.{Transfer}
use Rattle.transfer.specs.Pending.{landed_of}
use Rattle.transfer.proofs.Pendings.{landed_once}
use Rattle.unit.proofs.write_joypad.Reads as write-joypad
use Rattle.unit.proofs.play.Reads as play
use Rattle.unit.proofs.update_screen.Reads as update-screen
use Rattle.unit.proofs.new.Reads as new
use Rattle.unit.proofs.post_boot.Reads as post-boot
use Rattle.unit.proofs.check.Reads as check

-- ---- the answers of this crate

one-packets : Once packets_of
one-packets None None e = refl
one-packets None (Some n) e = cc
one-packets (Some m) None e = cc
one-packets (Some m) (Some n) e = ap Some (cc)

one_written : Once written_told
one_written = one_told packets_of one-packets

one-taken : Once taken_as
one-taken p q e =
    let x : p.writes ≡ q.writes = ap (λ (t : Taken). t.writes) e in
    let y : p.packets ≡ q.packets = one-packets p.packets q.packets (ap (λ (t : Taken). t.packets) e) in
    λ t. record { writes = x t; packets = y t }

one-played : Once played_told
one-played = one_told taken_as one-taken

one-shown : Once shown_told
one-shown = one_told landed_of landed_once

-- ---- each call, in the order of docs/PROOFS.md

-- the answer, the block, the buffer
pub write_joypad_determined : (k : _) → Determined (Result (Option ℕ) Refusal × List ℕ × List ℕ) (write-joypad.Learnt k) (λ r e. (r, e.0.now, e.1.1.0.now))
write_joypad_determined k a r s e f p q = λ t. (one written_told one_written r s p.0 q.0 t, same _ _ p.1.0 q.1.0 t, same _ _ p.1.1 q.1.1 t)

-- the answer, the block, the buffer
pub play_determined : (k : _) → Determined (Result Played Refusal × List ℕ × List ℕ) (play.Learnt k) (λ r e. (r, e.0.now, e.1.1.0.now))
play_determined k a r s e f p q = λ t. (one played_told one-played r s p.0 q.0 t, same _ _ p.1.0 q.1.0 t, same _ _ p.1.1 q.1.1 t)

-- the answer, the block
pub update-screen_determined : (k : _) → Determined (Result (Option Transfer) Refusal × List ℕ) (update-screen.Learnt k) (λ r e. (r, e.0.now))
update-screen_determined k a r s e f p q = λ t. (one shown_told one-shown r s p.0 q.0 t, same _ _ p.1 q.1 t)

pub new_determined : (k : _) → Determined (Result Unit Refusal × List ℕ) (new.Learnt k) (λ r e. (r, e.0.now))
new_determined k a r s e f p q = λ t. (one code_or_0 one_or_0 r s p.0 q.0 t, same _ _ p.1 q.1 t)

pub post_boot_determined : (k : _) → Determined (Result Unit Refusal × List ℕ) (post-boot.Learnt k) (λ r e. (r, e.0.now))
post_boot_determined k a r s e f p q = λ t. (one code_or_0 one_or_0 r s p.0 q.0 t, same _ _ p.1 q.1 t)

-- the answer alone: nothing is lent to be written
pub check_determined : (k : _) → Determined (Result Unit Refusal) (check.Learnt k) (λ r e. r)
check_determined k a r s e f p q = one code_or_0 one_or_0 r s p q

pub refusal_determined : (k : _) → Determined (Result Unit Refusal) (refusal.Learnt k) (λ r e. r)
refusal_determined k a r s e f p q = one code_or_0 one_or_0 r s p q

pub mask-mode_determined : (k : _) → Determined (Result ℕ Refusal) (mask-mode.Learnt k) (λ r e. r)
mask-mode_determined k a r s e f p q = one number_told one_number r s p q

pub backdrop_determined : (k : _) → Determined (Result Rgb555 Refusal) (backdrop.Learnt k) (λ r e. r)
backdrop_determined k a r s e f p q = one colour_told one_colour r s p q

pub color_at_determined : (k : _) → Determined (Result Rgb555 Refusal) (color-at.Learnt k) (λ r e. r)
color_at_determined k a r s e f p q = one colour_told one_colour r s p q

pub map-entry_determined : (k : _) → Determined (Result BorderMapEntry Refusal) (map-entry.Learnt k) (λ r e. r)
map-entry_determined k a r s e f p q = one entry_told one_entry r s p q

pub border_color_at_determined : (k : _) → Determined (Result (Option Rgb555) Refusal) (border-color-at.Learnt k) (λ r e. r)
border_color_at_determined k a r s e f p q = one border_told one-border r s p q

-- the answer, the output
pub row_determined : (k : _) → Determined (Result ℕ Refusal × List ℕ) (row.Learnt k) (λ r e. (r, e.1.1.0.now))
row_determined k a r s e f p q = λ t. (one number_told one_number r s p.0 q.0 t, same _ _ p.1 q.1 t)

pub picture_determined : (k : _) → Determined (Result ℕ Refusal × List ℕ) (picture.Learnt k) (λ r e. (r, e.1.0.now))
picture_determined k a r s e f p q = λ t. (one number_told one_number r s p.0 q.0 t, same _ _ p.1 q.1 t)

-- the colour
pub to-rgb8_determined : (k : _) → Determined Rgb8 (to-rgb8.Learnt k) (λ r e. r)
to-rgb8_determined k a r s e f p q = same r s p q

pub from-bytes_determined : (k : _) → Determined Rgb555 (from_bytes.Learnt k) (λ r e. r)
from-bytes_determined k a r s e f p q = one (λ (c : Rgb555). c.0) word_of r s p q

-- the field of a map word
pub entry-tile_determined : (k : _) → Determined ℕ (entry-tile.Learnt k) (λ r e. r)
entry-tile_determined k a r s e f p q = same r s p q

pub entry-palette_determined : (k : _) → Determined ℕ (entry-palette.Learnt k) (λ r e. r)
entry-palette_determined k a r s e f p q = same r s p q

pub entry_flip-x_determined : (k : _) → Determined Bool (entry-flip-x.Learnt k) (λ r e. r)
entry_flip-x_determined k a r s e f p q = same r s p q

pub entry_flip-y_determined : (k : _) → Determined Bool (entry-flip-y.Learnt k) (λ r e. r)
entry_flip-y_determined k a r s e f p q = same r s p q

-- what a refusal is told by
pub refusal-code_determined : (k : _) → Determined ℕ (refusal-code.Learnt k) (λ r e. r)
refusal-code_determined k a r s e f p q = same r s p q

pub refusal-number_determined : (k : _) → Determined ℕ (refusal-number.Learnt k) (λ r e. r)
refusal-number_determined k a r s e f p q = same r s p q

pub refusal_offset_determined : (k : _) → Determined ℕ (refusal-offset.Learnt k) (λ r e. r)
refusal_offset_determined k a r s e f p q = same r s p q

-- the bytes of the part that is handed back
pub displayed-screen_determined : (k : _) → Determined (List ℕ) (displayed-screen.Learnt k) (λ r e. r.now)
displayed-screen_determined k a r s e f p q = same _ _ p q

pub tile_determined : (k : _) → Determined (List ℕ) (tile.Learnt k) (λ r e. r.now)
tile_determined k a r s e f p q = same _ _ p q

pub encode_determined : (k : _) → Determined (Result ℕ Refusal × List ℕ) (encode.Learnt k) (λ r e. (r, e.1.0.now))
encode_determined k a r s e f p q = λ t. (one encoded_answer one-encoded r s p.answer q.answer t, same _ _ p.output q.output t)

pub verdict_determined : (k : _) → Determined (Result Bool Refusal) (verdict.Learnt k) (λ r e. r)
verdict_determined k a r s e f p q = one verdict_answer one_verdict r s p.answer q.answer
