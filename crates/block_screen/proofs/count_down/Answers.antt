-- Each call says what it reads from or writes to the two bytes.
use mathlib.Core.Path.{ap, ◌∙◌}
use Rattle.transfer.specs.Pending as pending
use Rattle.layout.specs.Block.{load}
use Rattle.rules.specs.Screen.{landing}
use Rattle.block_screen.proofs.Landings.{counted-down}
use Rattle.block_screen.proofs.count_down.Goals as goal

pub returns : goal.returns
unfolding load landing
returns c =
    let store = c in
    let fall = store in
    let load = fall in
    let start = load in
    (c.lands.ensures ∙ ap pending.lands load.load-pending.ensures, counted-down start.args.block.now _ _ _ load.load-pending.ensures fall.fall-left.ensures store.store_pending.ensures)
