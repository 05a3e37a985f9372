-- After i turns there are i palettes, and past them what was there.
use mathlib.Core.List.{List, ◌++◌, append-nil}
use mathlib.Core.Path.{◌≡◌, ◌∙◌, ap, refl}
use Prim.Native.Nat.{ℕ, ◌≤◌, ◌*◌}
use native.Mathlib.Omega.{arith}
use lib.ListN.{drop_of_length-le, length}
use Rattle.parts.specs.Parts.{system_bytes}
use Rattle.bits.specs.Over.{over}
use Rattle.layout.specs.Fresh.{times, word_bytes}
use Rattle.block_fresh.proofs.Made.{fill_none, fill_turn}
use Rattle.block_fresh.proofs.fill_system.Invariants.{palette}
use Rattle.block_fresh.proofs.fill_system.Goals as goal

pub loop-i-init : goal.loop-i-init
loop-i-init c = fill_none palette _

pub loop-i-preserved : goal.loop-i-preserved
unfolding word_bytes
loop-i-preserved c = c.put_palette.ensures ∙ ap (over (8 * c.loop-i.i) 8 palette) c.loop-i.invariant ∙ fill_turn c.loop-i.i palette c.args.system.now refl

pub returns : goal.returns
returns c = let e : c.loop-i.i ≡ 512 = omega arith in
    let h : length c.args.system.now ≤ system_bytes = omega arith in
    c.loop-i.invariant ∙ rw e (ap (λ (l : List ℕ). times 512 palette ++ l) (drop_of_length-le c.args.system.now h) ∙ append-nil _)
