-- A word that draws has palette 4, 5 or 6, so the place is within the 96 bytes.
use mathlib.Core.Path.{◌∙◌}
use native.Mathlib.Omega.{arith}
use Rattle.bits.specs.Word.{word_at}
use Rattle.border.specs.Border.{in_palette}
use Rattle.border.proofs.Entries.{drawn-palette}
use Rattle.border.proofs.in_palette.Goals as goal

pub overflow_sub-palette : goal.overflow_sub-palette
overflow_sub-palette c = let d = drawn-palette _ c.requires.value in omega (arith, c.palette.ensures)

pub bounds-palettes-at : goal.bounds-palettes-at
bounds-palettes-at c = let d = drawn-palette _ c.requires.value in omega (arith, c.palette.ensures, c.from-p.ensures)

pub bounds-palettes-at-2 : goal.bounds-palettes-at-2
bounds-palettes-at-2 c = let d = drawn-palette _ c.requires.value in omega (arith, c.palette.ensures, c.from-p.ensures)

pub returns : goal.returns
unfolding in_palette word_at
returns c = c.from_bytes.ensures ∙ rw (c.from-p.ensures, c.palette.ensures)
