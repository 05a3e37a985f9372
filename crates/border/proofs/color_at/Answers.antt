-- The answer follows from the word and its index (`is-transparent`, `is-opaque`).
use Prim.Native.Nat.{◌%◌}
use native.Mathlib.Omega.{arith}
use Rattle.border.specs.Border.{colour_of}
use Rattle.border.proofs.Entries.{is-transparent, is-opaque, shown-drawn}
use Rattle.border.proofs.color_at.Goals as goal

pub returns-in-0 : goal.returns-in-0
unfolding colour_of
returns-in-0 c =
    let a = c.args in
    is-transparent a.tiles.now a.map.now a.palettes.now a.x a.y _ _ c.map_entry-entry.ensures c.index.ensures.0 c.in-0.is

pub in_palette-requires-clause-value : goal.in_palette-requires-clause-value
in_palette-requires-clause-value c =
    let a = c.args in
    shown-drawn a.tiles.now _ (a.x % 8) (a.y % 8) _ c.index.ensures.0 (λ e. omega arith)

pub returns-in_default : goal.returns-in_default
unfolding colour_of
returns-in_default c =
    let a = c.args in
    is-opaque a.tiles.now a.map.now a.palettes.now a.x a.y _ _ c.map_entry-entry.ensures c.index.ensures.0 _ (λ e. omega arith) c.in_palette.ensures
