-- The map is changed as the command asks, and keeps its size.
use borrow.Author.Rules.{rules}
use Rattle.commands.specs.Files.{attr_set_map}
use Rattle.block_fixed.proofs.Chain.{set_long}
use Rattle.block_fixed.proofs.attr_set_file.Goals as goal

pub returns : goal.returns
returns c = c.change_map.ensures (attr_set_map c.args.flags) (set_long c.args.flags) (λ map files r after p. search rules)
