-- The preset's bytes are looked at exactly if byte 9 is 0.
use borrow.Author.Tests.{eq-eqb, ne_eqb}
use Rattle.broken.specs.Broken.{asks5, lowest}
use Rattle.block_found.specs.Found.{found_told}
use Rattle.block_broken.proofs.at_v5.Goals as goal

pub returns-then-front-ne0 : goal.returns-then-front-ne0
unfolding asks5 lowest found_told
returns-then-front-ne0 c = rw (ne_eqb _ _ c.if-front-ne0.true)

pub returns : goal.returns
unfolding asks5
returns c = rw (eq-eqb _ _ c.if-front-ne0.false) c.set_in.ensures
