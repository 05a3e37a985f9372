-- A border of which a span is missing is not looked at, and else the lengths are.
use mathlib.Core.Bool.{true, ◌&&◌}
use mathlib.Core.Path.{◌≡◌, refl, sym, ◌∙◌}
use lib.Dec.{eqb}
use lib.ListN.{length}
use Rattle.std.proofs.Common.{arith}
use Rattle.std.proofs.lemmas.Grind.{common_steps}
use Rattle.parts.specs.Parts.{tiles_bytes, border_map_bytes, border_palettes_bytes}
use Rattle.state_spans.specs.Told.{span_told}
use Rattle.state_spans.specs.Coming.{border_fits}
use Rattle.state_spans.proofs.Lending.{border-lengths}
use Rattle.state_fits.proofs.border_fits.Goals as goal

pub returns-in_default : goal.returns-in_default
unfolding border_fits
returns-in_default c = grind (arith, common_steps)

pub returns-then-border-eq-BORDER_MAP_BYTES : goal.returns-then-border-eq-BORDER_MAP_BYTES
returns-then-border-eq-BORDER_MAP_BYTES c =
    let b = c.in-Some.border in
    let s = c.args.spans.now in
    let e = c.in-Some.ensures in
    let lengths : (eqb (length b.tiles.now) tiles_bytes && (eqb (length b.map.now) border_map_bytes && eqb (length b.palettes.now) border_palettes_bytes))
    ≡ border_fits (span_told s.border_tiles) (span_told s.border_map) (span_told s.border_palettes) =
    border-lengths true true true b.tiles.now b.map.now b.palettes.now refl ∙ (λ i. border_fits (sym e.0 i) (sym e.1.0 i) (sym e.1.1 i)) in
    grind (arith, common_steps, lengths)

pub returns-else-border-eq-BORDER_MAP_BYTES : goal.returns-else-border-eq-BORDER_MAP_BYTES
returns-else-border-eq-BORDER_MAP_BYTES c =
    let b = c.in-Some.border in
    let s = c.args.spans.now in
    let e = c.in-Some.ensures in
    let lengths : (eqb (length b.tiles.now) tiles_bytes && (eqb (length b.map.now) border_map_bytes && eqb (length b.palettes.now) border_palettes_bytes))
    ≡ border_fits (span_told s.border_tiles) (span_told s.border_map) (span_told s.border_palettes) =
    border-lengths true true true b.tiles.now b.map.now b.palettes.now refl ∙ (λ i. border_fits (sym e.0 i) (sym e.1.0 i) (sym e.1.1 i)) in
    grind (arith, common_steps, lengths)
