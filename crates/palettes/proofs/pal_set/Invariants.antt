use mathlib.Core.Path.{◌≡◌}
use lib.ListN.{length}
use Rattle.parts.specs.Parts.{palettes_bytes}
use Rattle.palettes.proofs.Choosing.{Chosen}
use Rattle.palettes.proofs.pal_set.Given as goal

abbrev pub invariant-loop-i : goal.invariant-loop-i
invariant-loop-i l = (length l.palettes ≡ palettes_bytes) × Chosen l.d l.system l.initial.palettes l.palettes l.i
