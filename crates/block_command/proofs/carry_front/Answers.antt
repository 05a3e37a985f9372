-- The part that is lent is the command of n packets.
use Prim.Native.Nat.{ℕ, ◌*◌}
use mathlib.Core.Path.{◌≡◌, ◌∙◌, ap, subst}
use native.Mathlib.Omega.{arith}
use lib.ListN.{take}
use Rattle.attribute_map.specs.Data.{Whole}
use Rattle.commands.specs.Command.{decode}
use Rattle.block_plain.specs.Carrying.{carried_block}
use Rattle.block_command.proofs.carry_front.Goals as goal

pub carry_out-requires : goal.carry_out-requires
carry_out-requires c =
    let start = c in
    let e : 16 * start.args.n ≡ 16 * c.from.result = omega (arith, c.from.ensures) in
    (start.requires.0, subst (λ (k : ℕ). Whole (take k start.args.buffer.now)) e start.requires.1)

pub returns : goal.returns
returns c =
    let start = c in
    let e : 16 * c.from.result ≡ 16 * start.args.n = omega (arith, c.from.ensures) in
    c.carry_out.ensures ∙ ap (λ (k : ℕ). carried_block (decode (take k start.args.buffer.now)) start.args.block.now) e
