-- One after the other, the packets that are in, and the preset with its flag.
use mathlib.Core.Option.{some}
use mathlib.Core.Path.{◌≡◌, ap, ◌∙◌}
use Prim.Native.Nat.{ℕ, ◌+◌, ◌-◌, ◌*◌}
use native.Mathlib.Omega.{arith}
use borrow.Author.Tests.{eq-eqb, ne_eqb}
use Rattle.bits.specs.Over.{part}
use Rattle.layout.specs.Block.{byte, held}
use Rattle.parts.specs.Parts.{received_at, store_at}
use Rattle.state_spans.specs.Going.{state_of, laid}
use Rattle.state_out.proofs.lay_front.Goals as goal

pub shape_of-fields-then-block-eq1 : goal.shape_of-fields-then-block-eq1
shape_of-fields-then-block-eq1 c = c.put.auto.dst

pub shape_of-packet-then-block-eq1 : goal.shape_of-packet-then-block-eq1
shape_of-packet-then-block-eq1 c = c.put-2.auto.dst

pub shape_of-packets-then-block-eq1 : goal.shape_of-packets-then-block-eq1
shape_of-packets-then-block-eq1 c = c.put-3.auto.dst

pub shape_of-preset : goal.shape_of-preset
shape_of-preset c = c.put-then-block-eq1.auto.dst

pub returns-then-block-eq1 : goal.returns-then-block-eq1
unfolding state_of laid held
returns-then-block-eq1 c = let b = c.args.block.now in
    let n : store_at + 16 * c.from.result - store_at ≡ 16 * byte received_at b = omega (arith, c.from.ensures) in
    let packets = c.put-3.ensures ∙ ap (λ (k : ℕ). laid (some (part store_at k b)) c.args.packets.now) n in
    record { fields_after = c.put.ensures; packet_after = c.put-2.ensures; packets_after = packets; preset_after = rw (eq-eqb _ _ c.if-block-eq1.true) c.put-then-block-eq1.ensures }

pub shape_of-fields-else-block-eq1 : goal.shape_of-fields-else-block-eq1
shape_of-fields-else-block-eq1 c = c.put.auto.dst

pub shape_of-packet-else-block-eq1 : goal.shape_of-packet-else-block-eq1
shape_of-packet-else-block-eq1 c = c.put-2.auto.dst

pub shape_of-packets-else-block-eq1 : goal.shape_of-packets-else-block-eq1
shape_of-packets-else-block-eq1 c = c.put-3.auto.dst

pub returns-else-block-eq1 : goal.returns-else-block-eq1
unfolding state_of laid held
returns-else-block-eq1 c = let b = c.args.block.now in
    let n : store_at + 16 * c.from.result - store_at ≡ 16 * byte received_at b = omega (arith, c.from.ensures) in
    let packets = c.put-3.ensures ∙ ap (λ (k : ℕ). laid (some (part store_at k b)) c.args.packets.now) n in
    record { fields_after = c.put.ensures; packet_after = c.put-2.ensures; packets_after = packets; preset_after = rw (ne_eqb _ _ c.if-block-eq1.false) }
