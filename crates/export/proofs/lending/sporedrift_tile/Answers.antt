-- The part that the call hands back tells by its length whether it is there.
use native.Mathlib.Omega.{arith}
use mathlib.Core.Path.{sym, ap, ◌∙◌}
use mathlib.Core.Bool.{false≢true}
use lib.ListN.{length}
use borrow.Author.Tests.{eq-eqb, eqb-true}
use Rattle.export.specs.Parts.{tile_at}
use Rattle.export.proofs.Places.{empty-placed, some-placed, tile-within}
use Rattle.export.proofs.lending.sporedrift_tile.Goals as goal

pub returns-then-is_empty : goal.returns-then-is_empty
unfolding tile_at
returns-then-is_empty c = sym (empty-placed _ _ (ap length (sym c.tile.ensures) ∙ eqb-true _ 0 (sym c.is_empty.ensures ∙ c.if-is_empty.true)))

pub overflow_mul-n : goal.overflow_mul-n
overflow_mul-n c =
    let w = tile-within _ _ (λ e. false≢true (sym c.if-is_empty.false ∙ (c.is_empty.ensures ∙ eq-eqb _ 0 (ap length c.tile.ensures ∙ e)))) in
    omega arith

pub overflow_cast-n : goal.overflow_cast-n
overflow_cast-n c =
    let w = tile-within _ _ (λ e. false≢true (sym c.if-is_empty.false ∙ (c.is_empty.ensures ∙ eq-eqb _ 0 (ap length c.tile.ensures ∙ e)))) in
    omega arith

pub value-requires : goal.value-requires
value-requires c =
    let w = tile-within _ _ (λ e. false≢true (sym c.if-is_empty.false ∙ (c.is_empty.ensures ∙ eq-eqb _ 0 (ap length c.tile.ensures ∙ e)))) in
    omega arith

pub returns : goal.returns
unfolding tile_at
returns c =
    c.value.ensures
    ∙ sym (some-placed _ _ (λ e. false≢true (sym c.if-is_empty.false ∙ (c.is_empty.ensures ∙ eq-eqb _ 0 (ap length c.tile.ensures ∙ e)))))
