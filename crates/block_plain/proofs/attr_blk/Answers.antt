-- `block_plain::attr_blk` meets its contract: the map that comes back is the one part that changes.
use mathlib.Core.Path.{refl}
use Rattle.commands.specs.Command.{attr_blk}
use Rattle.commands.specs.Maps as maps
use Rattle.commands.proofs.Sizes.{length_attr_blk}
use Rattle.rules.specs.Carry.{plainly}
use Rattle.block_plain.proofs.Steps.{map-changed}
use Rattle.block_plain.proofs.attr_blk.Goals as goal

pub returns : goal.returns
unfolding plainly
returns c =
    let start = c in
    let d = start.args.d.now in
    map-changed (attr_blk d) (maps.attr_blk d) (λ g. refl) (length_attr_blk d) _ _ start.requires.0 c.attr_blk.ensures
