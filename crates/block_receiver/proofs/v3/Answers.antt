-- The stage's number picks the row of V3 (RULES 1.8); a lent front is bytes.
use borrow.Author.Tests.{lt-leb}
use native.Mathlib.Omega.{arith}
use mathlib.Core.Path.{sym, ◌∙◌}
use lib.ListN.{get_or}
use Rattle.parts.specs.Parts.{stage_at}
use Rattle.layout.specs.Block.{load, stage_of}
use Rattle.layout.specs.Valid.{v3}
use Rattle.receiver.specs.Valid as receiver
use Rattle.block_receiver.proofs.v3.Goals as goal

pub returns-in-0 : goal.returns-in-0
unfolding v3 load stage_of receiver.v3 receiver.v3_at
returns-in-0 c = rw (sym c.stage.ensures.value ∙ c.in-0.is, c.stage.ensures.packet) c.idle.ensures

pub returns-in-1 : goal.returns-in-1
unfolding v3 load stage_of receiver.v3 receiver.v3_at
returns-in-1 c = rw (sym c.stage.ensures.value ∙ c.in-1.is, c.stage.ensures.packet) c.receiving.ensures

pub returns-in-2 : goal.returns-in-2
unfolding v3 load stage_of receiver.v3 receiver.v3_at
returns-in-2 c = rw (sym c.stage.ensures.value ∙ c.in-2.is, c.stage.ensures.packet) c.awaiting.ensures

pub returns-in_default : goal.returns-in_default
unfolding v3
returns-in_default c = rw (lt-leb (get_or c.args.front.bytes.now stage_at 0) 2 (omega (arith, c.stage.ensures.value)))
