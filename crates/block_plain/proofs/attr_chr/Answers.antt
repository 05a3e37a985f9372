-- `block_plain::attr_chr` meets its contract: the map that comes back is the one part that changes.
use mathlib.Core.Path.{refl}
use Rattle.commands.specs.Command.{attr_chr}
use Rattle.commands.specs.Maps as maps
use Rattle.commands.proofs.Sizes.{length_attr_chr}
use Rattle.rules.specs.Carry.{plainly}
use Rattle.block_plain.proofs.Steps.{map-changed}
use Rattle.block_plain.proofs.attr_chr.Goals as goal

pub returns : goal.returns
unfolding plainly
returns c =
    let start = c in
    let d = start.args.d.now in
    map-changed (attr_chr d) (maps.attr_chr d) (λ g. refl) (length_attr_chr d) _ _ start.requires.0 c.attr_chr.ensures
