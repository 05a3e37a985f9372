-- A word that draws shows its tile's index at the flipped place (`an-index`), any other 0 (`no_index`).
use Prim.Native.Nat.{◌≤◌}
use mathlib.Core.Bool.{Bool}
use mathlib.Core.Path.{sym, ap, ◌∙◌}
use native.Mathlib.Omega.{arith}
use lib.ListN.{length}
use Rattle.border.specs.Border.{flipped}
use Rattle.border.proofs.Entries.{no_index, drawn-tile, tile-long, an-index}
use Rattle.border.proofs.index.Goals as goal

pub index_in-requires : goal.index_in-requires
index_in-requires c =
    let d = drawn-tile _ (sym c.draws.ensures ∙ c.if-draws.true) in
    let n : c.from-n.result ≤ 255 = omega (arith, c.tile.ensures, c.from-n.ensures) in
    (ap length c.tile-then-draws.ensures ∙ tile-long _ _ c.requires.0 n, c.flipped.ensures.1, c.flipped-then-draws.ensures.1)

pub returns-then-draws : goal.returns-then-draws
returns-then-draws c =
    let a = c.args in
    let w = a.entry.0 in
    let row = c.flipped.ensures.0 ∙ ap (λ (f : Bool). flipped f a.y) c.flip_y-flip_y.ensures in
    let column = c.flipped-then-draws.ensures.0 ∙ ap (λ (f : Bool). flipped f a.x) c.flip_x-flip_x.ensures in
    (an-index a.tiles.now _ w a.x a.y _ _ _ _ (sym c.draws.ensures ∙ c.if-draws.true) (c.from-n.ensures ∙ c.tile.ensures) c.tile-then-draws.ensures row column c.index_in.ensures.0, c.index_in.ensures.1)

pub returns : goal.returns
returns c =
    let a = c.args in
    (sym (no_index a.tiles.now a.entry.0 a.x a.y (sym c.draws.ensures ∙ c.if-draws.false)), omega arith)
