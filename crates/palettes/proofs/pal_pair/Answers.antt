-- Colour 0 is shared, then each of the two palettes gets its three.
use mathlib.Core.Path.{◌≡◌, ◌∙◌}
use native.Mathlib.Omega.{arith}
use lib.ListN.{length}
use Rattle.bits.specs.Over.{part}
use Rattle.bits.proofs.Overs.{length_part}
use Rattle.palettes.specs.Palettes.{pal_pair}
use Rattle.palettes.proofs.pal_pair.Goals as goal

pub returns : goal.returns
unfolding pal_pair
returns c =
    let second = c in
    let first = second in
    let share = first in
    let d = share.args.d.now in
    let k : length (part 3 6 d) ≡ 6 = length_part 3 6 d (omega arith) in
    let l : length (part 9 6 d) ≡ 6 = length_part 9 6 d (omega arith) in
    second.put-2.ensures ∙ rw (first.put.ensures, share.share.ensures, k, l)
