-- Span after span, or zeros in the place of each.
use mathlib.Core.Path.{◌≡◌, sym, ◌∙◌}
use native.Mathlib.Omega.{arith}
use lib.ListN.{length}
use Rattle.bits.specs.Over.{over}
use Rattle.parts.specs.Parts.{tiles_at, tiles_bytes, border_map_at, border_map_bytes, border_palettes_at, border_palettes_bytes}
use Rattle.state_spans.specs.Told.{span_told}
use Rattle.state_in.proofs.Spanned.{some-long, whole-some, border-in, border-out}
use Rattle.state_in.proofs.put_border.Goals as goal

pub put-requires : goal.put-requires
put-requires c =
    let e = c.in-Some.ensures in
    let whole = whole-some _ _ _ _ _ _ e.0 e.1.0 e.1.1 in
    let tiles : length c.in-Some.border.tiles.now ≡ tiles_bytes = some-long _ _ _ e.0 (c.requires.1.0 whole) in
    omega arith

pub put-requires-in-Some : goal.put-requires-in-Some
put-requires-in-Some c =
    let e = c.in-Some.ensures in
    let whole = whole-some _ _ _ _ _ _ e.0 e.1.0 e.1.1 in
    let map : length c.in-Some.border.map.now ≡ border_map_bytes = some-long _ _ _ e.1.0 (c.requires.1.1.0 whole) in
    omega arith

pub put-requires-in-Some-2 : goal.put-requires-in-Some-2
put-requires-in-Some-2 c =
    let e = c.in-Some.ensures in
    let whole = whole-some _ _ _ _ _ _ e.0 e.1.0 e.1.1 in
    let palettes : length c.in-Some.border.palettes.now ≡ border_palettes_bytes = some-long _ _ _ e.1.1 (c.requires.1.1.1 whole) in
    omega arith

pub returns-in-Some : goal.returns-in-Some
returns-in-Some c =
    let e = c.in-Some.ensures in
    let b = c.in-Some.border in
    let whole = whole-some _ _ _ _ _ _ e.0 e.1.0 e.1.1 in
    let tiles : length b.tiles.now ≡ tiles_bytes = some-long _ _ _ e.0 (c.requires.1.0 whole) in
    let map : length b.map.now ≡ border_map_bytes = some-long _ _ _ e.1.0 (c.requires.1.1.0 whole) in
    let palettes : length b.palettes.now ≡ border_palettes_bytes = some-long _ _ _ e.1.1 (c.requires.1.1.1 whole) in
    let first = c.put.ensures ∙ (λ t. over tiles_at (tiles t) (sym (border-in _ tiles_bytes _ _ whole e.0) t) c.args.block.now) in
    let second = c.put-in-Some.ensures ∙ (λ t. over border_map_at (map t) (sym (border-in _ border_map_bytes _ _ whole e.1.0) t) (first t)) in
    c.put-in-Some-2.ensures ∙ (λ t. over border_palettes_at (palettes t) (sym (border-in _ border_palettes_bytes _ _ whole e.1.1) t) (second t))

pub returns-in-None : goal.returns-in-None
returns-in-None c =
    let s = c.args.spans.now in
    let e = c.in-None.ensures in
    let first = c.clear_in.ensures ∙ (λ t. over tiles_at tiles_bytes (sym (border-out _ tiles_bytes (span_told s.border_tiles) e) t) c.args.block.now) in
    let second = c.clear_in-in-None.ensures ∙ (λ t. over border_map_at border_map_bytes (sym (border-out _ border_map_bytes (span_told s.border_map) e) t) (first t)) in
    c.clear_in-in-None-2.ensures ∙ (λ t. over border_palettes_at border_palettes_bytes (sym (border-out _ border_palettes_bytes (span_told s.border_palettes) e) t) (second t))
