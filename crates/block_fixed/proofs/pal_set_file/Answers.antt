-- The map is changed as the command asks, and keeps its size.
use borrow.Author.Rules.{rules}
use Rattle.commands.specs.Files.{pal_set_map}
use Rattle.block_fixed.proofs.Chain.{pal-long}
use Rattle.block_fixed.proofs.pal_set_file.Goals as goal

pub returns : goal.returns
returns c = c.change_map.ensures (pal_set_map c.args.flags) (pal-long c.args.flags) (λ map files r after p. search rules)
