-- `hex_digits::spells` meets its contract: all digits passed are below 16 exactly if their OR is, and an odd number of them spells nothing.
use Prim.Native.Nat.{◌/◌}
use mathlib.Core.Path.{sym, ◌∙◌}
use native.Mathlib.Omega.{arith}
use lib.ListN.{length}
use Rattle.hex_digits.proofs.Reading.{even-spells, odd-spells, digits_turn, digits_end}
use Rattle.hex_digits.proofs.spells.Goals as goal

pub returns-then-text-eq1 : goal.returns-then-text-eq1
returns-then-text-eq1 c = let s = c.args.text.now in sym (odd-spells (length s / 2) s (omega arith))

pub loop-b-preserved : goal.loop-b-preserved
loop-b-preserved c =
    let l = c.loop-b in
    l.invariant ∙ digits_turn c.args.text.now l.b-index l.all _ (omega arith) c.digit-all.ensures

pub returns : goal.returns
returns c =
    let l = c.loop-b in
    let s = c.args.text.now in
    sym (even-spells (length s / 2) s (omega arith) ∙ l.invariant ∙ digits_end s l.b-index l.all (omega arith))
