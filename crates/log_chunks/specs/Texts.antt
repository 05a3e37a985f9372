-- What each program prints for a log, from its bytes to the bytes printed. RULES 8.5 and 8.6.
use Rattle.std.specs.Prelude.{ℕ, zero, suc, ◌+◌, List, [], ◌∷◌, ◌++◌, take}
use Rattle.layout.specs.Block.{save}
use Rattle.layout.specs.Sgb.{Sgb}
use Rattle.picture.specs.Picture.{row_of}
use Rattle.block_picture.specs.Drawn.{parts_of}
use Rattle.log_text.specs.Text.{hex_line, refusal_text, row_line}
use Rattle.log_chunks.specs.Events.{Event, completed, refusal, events_of, unit_after}

-- ---- `replay`: the log's commands and refused lines as they come, and at the end the head of the block

unfoldable pub shown_one : Event → List ℕ
shown_one (completed c) = hex_line c
shown_one (refusal k) = refusal_text k

unfoldable pub shown : List Event → List ℕ
shown [] = []
shown (e ∷ es) = shown_one e ++ shown es

-- the block's bytes 0 to 12
abbrev pub head_bytes : ℕ
head_bytes = 13

unfoldable pub head_line : List ℕ → List ℕ
head_line block = hex_line (take head_bytes block)

unfoldable pub replay_text : List ℕ → List ℕ
replay_text input = shown (events_of input) ++ head_line (save (unit_after input))

-- ---- `plate`: the picture, or the first refused line and nothing else

-- n rows from row y on
unfoldable pub row_lines : ℕ → ℕ → Sgb → List ℕ
row_lines zero y u = []
row_lines (suc n) y u = row_line (row_of (parts_of u) y) ++ row_lines n (y + 1) u

unfoldable pub picture_lines : Sgb → List ℕ
picture_lines u = row_lines 224 0 u

-- the first refusal, or the picture
unfoldable pub refused_or : List Event → List ℕ → List ℕ
refused_or [] picture = picture
refused_or (completed c ∷ es) picture = refused_or es picture
refused_or (refusal k ∷ es) picture = refusal_text k

unfoldable pub plate_text : List ℕ → List ℕ
plate_text input = refused_or (events_of input) (picture_lines (unit_after input))
