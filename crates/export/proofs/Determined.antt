-- Two outcomes that one contract allows are equal, for every call for C, in the order of include/sporedrift.h. There are no exceptions.
-- A number that crosses is named outright by its contract, and so are the bytes that are lent to be written: all go by `same`.
use mathlib.Core.List.{List}
use Prim.Native.Nat.{ℕ}
use Rattle.bits.specs.Determined.{Determined}
use Rattle.state_spans.specs.Going.{Lent, lent}
use Rattle.bits.proofs.Determined.{same}
use Rattle.export.proofs.changing.sporedrift_new.Reads as new
use Rattle.export.proofs.changing.sporedrift_post_boot.Reads as post-boot
use Rattle.export.proofs.changing.sporedrift_check.Reads as check
use Rattle.export.proofs.changing.sporedrift_write_joypad.Reads as write-joypad
use Rattle.export.proofs.changing.sporedrift_play.Reads as play
use Rattle.export.proofs.changing.sporedrift_update_screen.Reads as update-screen
use Rattle.export.proofs.exchanging.sporedrift_from_spans.Reads as from-spans
use Rattle.export.proofs.exchanging.sporedrift_to_spans.Reads as to-spans
use Rattle.export.proofs.looking.sporedrift_mask_mode.Reads as mask-mode
use Rattle.export.proofs.looking.sporedrift_backdrop.Reads as backdrop
use Rattle.export.proofs.looking.sporedrift_color_at.Reads as color-at
use Rattle.export.proofs.looking.sporedrift_map_entry.Reads as map-entry
use Rattle.export.proofs.looking.sporedrift_border_color_at.Reads as border-color-at
use Rattle.export.proofs.looking.sporedrift_row.Reads as row
use Rattle.export.proofs.looking.sporedrift_picture.Reads as picture
use Rattle.export.proofs.looking.sporedrift_to_rgb8.Reads as to-rgb8
use Rattle.export.proofs.lending.sporedrift_displayed_screen.Reads as displayed-screen
use Rattle.export.proofs.lending.sporedrift_tile.Reads as tile
use Rattle.export.proofs.sending.sporedrift_encode.Reads as encode
use Rattle.export.proofs.sending.sporedrift_verdict.Reads as verdict
use Rattle.export.proofs.sending.sporedrift_page_screen.Reads as page-screen
use Rattle.export.proofs.reading.sporedrift_parse_line.Reads as parse-line
use Rattle.export.proofs.reading.sporedrift_version.Reads as version

-- the number, the block
pub new_determined : (k : _) → Determined (ℕ × List ℕ) (new.Learnt k) (λ r e. (r, e.0.now))
new_determined k a r s e f p q = λ t. (same r s p.0 q.0 t, same _ _ p.1 q.1 t)

pub post_boot_determined : (k : _) → Determined (ℕ × List ℕ) (post-boot.Learnt k) (λ r e. (r, e.0.now))
post_boot_determined k a r s e f p q = λ t. (same r s p.0 q.0 t, same _ _ p.1 q.1 t)

-- the number alone: nothing is lent to be written
pub check_determined : (k : _) → Determined ℕ (check.Learnt k) (λ r e. r)
check_determined k a r s e f p q = same r s p q

-- the number, the block
pub from_spans_determined : (k : _) → Determined (ℕ × List ℕ) (from-spans.Learnt k) (λ r e. (r, e.0.now))
from_spans_determined k a r s e f p q = λ t. (same r s p.0 q.0 t, same _ _ p.1 q.1 t)

-- the number, the fields and the twelve spans
pub to_spans_determined : (k : _) → Determined (ℕ × Lent) (to-spans.Learnt k) (λ r e. (r, lent e.1.0.now e.1.1.0.now e.1.1.1.0.now e.1.1.1.1.0.now e.1.1.1.1.1.0.now e.1.1.1.1.1.1.0.now e.1.1.1.1.1.1.1.0.now e.1.1.1.1.1.1.1.1.0.now e.1.1.1.1.1.1.1.1.1.0.now e.1.1.1.1.1.1.1.1.1.1.0.now e.1.1.1.1.1.1.1.1.1.1.1.0.now e.1.1.1.1.1.1.1.1.1.1.1.1.0.now e.1.1.1.1.1.1.1.1.1.1.1.1.1.0.now))
to_spans_determined k a r s e f p q = λ t. (same r s p.0 q.0 t, same _ _ p.1 q.1 t)

-- the number, the block, the buffer
pub write_joypad_determined : (k : _) → Determined (ℕ × List ℕ × List ℕ) (write-joypad.Learnt k) (λ r e. (r, e.0.now, e.1.1.0.now))
write_joypad_determined k a r s e f p q = λ t. (same r s p.0 q.0 t, same _ _ p.1.0 q.1.0 t, same _ _ p.1.1 q.1.1 t)

pub play_determined : (k : _) → Determined (ℕ × List ℕ × List ℕ) (play.Learnt k) (λ r e. (r, e.0.now, e.1.1.0.now))
play_determined k a r s e f p q = λ t. (same r s p.0 q.0 t, same _ _ p.1.0 q.1.0 t, same _ _ p.1.1 q.1.1 t)

-- the number, the block
pub update-screen_determined : (k : _) → Determined (ℕ × List ℕ) (update-screen.Learnt k) (λ r e. (r, e.0.now))
update-screen_determined k a r s e f p q = λ t. (same r s p.0 q.0 t, same _ _ p.1 q.1 t)

-- the number alone
pub mask-mode_determined : (k : _) → Determined ℕ (mask-mode.Learnt k) (λ r e. r)
mask-mode_determined k a r s e f p q = same r s p q

pub backdrop_determined : (k : _) → Determined ℕ (backdrop.Learnt k) (λ r e. r)
backdrop_determined k a r s e f p q = same r s p q

pub color_at_determined : (k : _) → Determined ℕ (color-at.Learnt k) (λ r e. r)
color_at_determined k a r s e f p q = same r s p q

pub map-entry_determined : (k : _) → Determined ℕ (map-entry.Learnt k) (λ r e. r)
map-entry_determined k a r s e f p q = same r s p q

pub border_color_at_determined : (k : _) → Determined ℕ (border-color-at.Learnt k) (λ r e. r)
border_color_at_determined k a r s e f p q = same r s p q

-- the number, the output
pub row_determined : (k : _) → Determined (ℕ × List ℕ) (row.Learnt k) (λ r e. (r, e.1.1.0.now))
row_determined k a r s e f p q = λ t. (same r s p.0 q.0 t, same _ _ p.1 q.1 t)

pub picture_determined : (k : _) → Determined (ℕ × List ℕ) (picture.Learnt k) (λ r e. (r, e.1.0.now))
picture_determined k a r s e f p q = λ t. (same r s p.0 q.0 t, same _ _ p.1 q.1 t)

-- the number alone
pub to-rgb8_determined : (k : _) → Determined ℕ (to-rgb8.Learnt k) (λ r e. r)
to-rgb8_determined k a r s e f p q = same r s p q

pub displayed-screen_determined : (k : _) → Determined ℕ (displayed-screen.Learnt k) (λ r e. r)
displayed-screen_determined k a r s e f p q = same r s p q

pub tile_determined : (k : _) → Determined ℕ (tile.Learnt k) (λ r e. r)
tile_determined k a r s e f p q = same r s p q

-- the number, the output
pub encode_determined : (k : _) → Determined (ℕ × List ℕ) (encode.Learnt k) (λ r e. (r, e.1.0.now))
encode_determined k a r s e f p q = λ t. (same r s p.0 q.0 t, same _ _ p.1 q.1 t)

-- the number alone
pub verdict_determined : (k : _) → Determined ℕ (verdict.Learnt k) (λ r e. r)
verdict_determined k a r s e f p q = same r s p q

-- the number, the screen
pub page-screen_determined : (k : _) → Determined (ℕ × List ℕ) (page-screen.Learnt k) (λ r e. (r, e.1.0.now))
page-screen_determined k a r s e f p q = λ t. (same r s p.0 q.0 t, same _ _ p.1 q.1 t)

-- the number, the bytes of the line
pub parse-line_determined : (k : _) → Determined (ℕ × List ℕ) (parse-line.Learnt k) (λ r e. (r, e.1.0.now))
parse-line_determined k a r s e f p q = λ t. (same r s p.0 q.0 t, same _ _ p.1 q.1 t)

-- the number alone
pub version_determined : (k : _) → Determined ℕ (version.Learnt k) (λ r e. r)
version_determined k a r s e f p q = same r s p q
