-- The colour is put at the start of each palette, one after another.
use mathlib.Core.Path.{◌≡◌, ◌∙◌}
use native.Mathlib.Omega.{arith}
use lib.ListN.{length}
use Rattle.bits.specs.Over.{part}
use Rattle.bits.proofs.Overs.{length_part}
use Rattle.palettes.specs.Palettes.{shared}
use Rattle.palettes.proofs.share.Goals as goal

pub returns : goal.returns
unfolding shared
returns c =
    let four = c in
    let three = four in
    let two = three in
    let one = two in
    let d = one.args.d.now in
    let l : length (part 1 2 d) ≡ 2 = length_part 1 2 d (omega arith) in
    four.put-4.ensures ∙ rw (three.put-3.ensures, two.put-2.ensures, one.put.ensures, l)
