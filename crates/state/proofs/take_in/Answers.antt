-- The rules are those of the front; and the parts, each in its place, are the block.
use mathlib.Core.Path.{refl, ap, ◌∙◌}
use native.Mathlib.Omega.{arith}
use Rattle.refusal.specs.Codes.{code_or_0}
use Rattle.refusal.proofs.Told.{code-some, passed_on}
use borrow.Author.Tests.{ne_eqb}
use Rattle.state_spans.specs.Told.{state_told}
use Rattle.state_spans.proofs.Blocks.{front_of, tables_of, captures-of}
use Rattle.state.proofs.Takes.{number_is, tiles_long, map_long, palettes_long, block-is}
use Rattle.state.proofs.take_in.Goals as goal

pub fill_front-requires : goal.fill_front-requires
fill_front-requires c = let f = front_of (state_told c.args.spans.now) c.requires.1 in (refl, (f.fields, (f.packet, (omega (arith, f.packets, f.received), f.preset))))

pub returns-in_err-broken_rule : goal.returns-in_err-broken_rule
returns-in_err-broken_rule c =
    let e = c.in_err-broken_rule in
    let r = e.field-0.0 in
    let out = ap code_or_0 (passed_on c.from_residual.result r c.from_residual.ensures.1) in
    let number = number_is (state_told c.args.spans.now) c.requires.1 _ _ c.fill_front.ensures e.ensures in
    record { result_value = out ∙ number; block_after = rw (out, ne_eqb _ _ (code-some r)) }

pub put_tables-requires : goal.put_tables-requires
put_tables-requires c =
    let s = state_told c.args.spans.now in
    let t = tables_of s c.requires.1 in
    (c.requires.0, (c.fill_front.auto.front, (t.palettes, (t.attribute_map, (t.system_palettes, t.attribute_files)))))

pub put_captures-requires : goal.put_captures-requires
put_captures-requires c = let k = captures-of (state_told c.args.spans.now) c.requires.1 in (c.put_tables.auto.block ∙ c.requires.0, (k.capture, k.frozen_capture))

pub put_border-requires : goal.put_border-requires
put_border-requires c =
    let s = state_told c.args.spans.now in
    (c.put_captures.auto.block ∙ c.put_tables.auto.block ∙ c.requires.0, (tiles_long s c.requires.1, (map_long s c.requires.1, palettes_long s c.requires.1)))

pub returns : goal.returns
returns c =
    let s = state_told c.args.spans.now in
    record {
      result_value = number_is s c.requires.1 _ _ c.fill_front.ensures c.in_ok-broken_rule.ensures;
      block_after = block-is s c.requires.1 c.args.block.now _ _ _ _ c.requires.0 c.fill_front.ensures c.put_tables.ensures c.put_captures.ensures c.put_border.ensures;
    }
