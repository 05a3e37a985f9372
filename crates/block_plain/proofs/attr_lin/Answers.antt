-- `block_plain::attr_lin` meets its contract: the map that comes back is the one part that changes.
use mathlib.Core.Path.{refl}
use Rattle.commands.specs.Command.{attr_lin}
use Rattle.commands.specs.Maps as maps
use Rattle.commands.proofs.Sizes.{length_attr_lin}
use Rattle.rules.specs.Carry.{plainly}
use Rattle.block_plain.proofs.Steps.{map-changed}
use Rattle.block_plain.proofs.attr_lin.Goals as goal

pub returns : goal.returns
unfolding plainly
returns c =
    let start = c in
    let d = start.args.d.now in
    map-changed (attr_lin d) (maps.attr_lin d) (λ g. refl) (length_attr_lin d) _ _ start.requires.0 c.attr_lin.ensures
