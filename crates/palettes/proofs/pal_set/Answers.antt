-- Each turn puts the next chosen palette behind those that are there.
use mathlib.Core.Path.{◌≡◌, ◌∙◌}
use Prim.Native.Nat.{◌+◌, ◌-◌, ◌*◌}
use native.Mathlib.Omega.{arith}
use borrow.Author.Rules.{rules}
use lib.ListN.{length-take, length-drop, length}
use Rattle.bits.proofs.Overs.{length_over, length_part}
use Rattle.bits.specs.Over.{part, over}
use Rattle.palettes.specs.Palettes.{chosen}
use Rattle.palettes.proofs.Choosing.{chosen_none, chosen_more, chosen_all}
use Rattle.palettes.proofs.pal_set.Goals as goal

pub loop-i-init : goal.loop-i-init
loop-i-init c = (search rules, chosen_none)

pub put-requires : goal.put-requires
put-requires c = simp (length-take, length-drop) (omega arith)

pub loop-i-preserved : goal.loop-i-preserved
unfolding chosen
loop-i-preserved c =
    let loop = c.loop-i in
    let system = c.args.system.now in
    let n = c.system_number-at.result in
    let k : 8 * n + 8 - 8 * n ≡ 8 = omega arith in
    let l : length (part (8 * n) 8 system) ≡ 8 = length_part (8 * n) 8 system (omega arith) in
    let e : c.put.new.dst ≡ over (8 * loop.i) 8 (part (8 * n) 8 system) loop.palettes = c.put.ensures ∙ rw (k, l) in
    (rw e (length_over (8 * loop.i) 8 (part (8 * n) 8 system) loop.palettes (omega arith) l ∙ loop.invariant.0), chosen_more loop.invariant.1 (search rules) (e ∙ rw c.system_number-at.ensures.0))

pub returns : goal.returns
returns c = chosen_all c.loop-i.invariant.1 (omega arith) (search rules)
