-- The stage's number picks what is asked; a lent front is bytes.
use borrow.Author.Tests.{lt-leb}
use native.Mathlib.Omega.{arith}
use mathlib.Core.Path.{ap₂, sym, ◌∙◌}
use lib.ListN.{get_or}
use Rattle.parts.specs.Parts.{stage_at}
use Rattle.layout.specs.Block.{stage_of}
use Rattle.broken.specs.Broken.{between, later, asks3, asks_of, byte_of, lower, lowest}
use Rattle.broken.proofs.Lowest.{lowest-append}
use Rattle.block_found.specs.Found.{found_told}
use Rattle.block_broken_v3.proofs.at_v3.Goals as goal

pub returns-in-0 : goal.returns-in-0
unfolding asks3 asks_of lowest lower byte_of stage_of
returns-in-0 c = rw (sym c.stage.ensures.value ∙ c.in-0.is, c.stage.ensures.packet) c.resting.ensures

pub returns-in-1 : goal.returns-in-1
unfolding asks3 asks_of lowest lower byte_of stage_of
returns-in-1 c = rw (sym c.stage.ensures.value ∙ c.in-1.is, c.stage.ensures.packet) c.receiving.ensures

pub returns-in-2 : goal.returns-in-2
unfolding asks3 asks_of lowest lower byte_of stage_of
returns-in-2 c = rw (sym c.stage.ensures.value ∙ c.in-2.is, c.stage.ensures.packet) (c.lower.ensures ∙ ap₂ lower c.between.ensures c.later.ensures ∙ sym (lowest-append (between c.args.front.bytes.now) (later c.args.front.bytes.now)))

pub returns-in_default : goal.returns-in_default
unfolding asks3 lowest lower byte_of found_told
returns-in_default c = rw (lt-leb (get_or c.args.front.bytes.now stage_at 0) 2 (omega (arith, c.stage.ensures.value)))
