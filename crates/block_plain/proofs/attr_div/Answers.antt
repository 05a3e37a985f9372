-- `block_plain::attr_div` meets its contract: the map that comes back is the one part that changes.
use mathlib.Core.Path.{refl}
use Rattle.commands.specs.Command.{attr_div}
use Rattle.commands.specs.Maps as maps
use Rattle.commands.proofs.Sizes.{length_attr-div}
use Rattle.rules.specs.Carry.{plainly}
use Rattle.block_plain.proofs.Steps.{map-changed}
use Rattle.block_plain.proofs.attr_div.Goals as goal

pub returns : goal.returns
unfolding plainly
returns c =
    let start = c in
    let d = start.args.d.now in
    map-changed (attr_div d) (λ m. maps.attr_div d) (λ g. refl) (λ m. length_attr-div d) _ _ start.requires.0 c.attr_div.ensures
