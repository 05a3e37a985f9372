-- Palettes, file, mask: each step starts from the unit that the one before left.
use lib.ListN.{get_or}
use Rattle.commands.specs.Files.{pal_set_map}
use Rattle.block_fixed.proofs.Chain.{taking, taking-kept, filing, filing-kept, changed-valid, pal-long, pal-set-done}
use Rattle.block_fixed.proofs.pal_set.Goals as goal

pub pal_set_file-requires : goal.pal_set_file-requires
pal_set_file-requires c =
    let start = c in
    changed-valid (taking start.args.d.now) (taking-kept _) _ start.requires.0 _ c.take_palettes.ensures

pub unmask-requires : goal.unmask-requires
unmask-requires c =
    let start = c in
    let flags = get_or start.args.d.now 9 0 in
    changed-valid (filing (pal_set_map flags)) (filing-kept (pal_set_map flags) (pal-long flags)) _
    (changed-valid (taking start.args.d.now) (taking-kept _) _ start.requires.0 _ c.take_palettes.ensures)
    _ c.pal_set_file.ensures

pub returns : goal.returns
returns c =
    pal-set-done _ c.requires.0 _ _ _ _ c.take_palettes.ensures c.pal_set_file.ensures c.unmask.ensures
