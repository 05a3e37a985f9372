-- File, then mask, which starts from the unit that the file left.
use lib.ListN.{get_or}
use Rattle.commands.specs.Files.{attr_set_map}
use Rattle.block_fixed.proofs.Chain.{filing, filing-kept, changed-valid, set_long, attr-set-done}
use Rattle.block_fixed.proofs.attr_set.Goals as goal

pub unmask-requires : goal.unmask-requires
unmask-requires c =
    let start = c in
    let flags = get_or start.args.d.now 1 0 in
    changed-valid (filing (attr_set_map flags)) (filing-kept (attr_set_map flags) (set_long flags)) _ start.requires.0 _ c.attr_set_file.ensures

pub returns : goal.returns
returns c = attr-set-done _ c.requires.0 _ _ _ c.attr_set_file.ensures c.unmask.ensures
