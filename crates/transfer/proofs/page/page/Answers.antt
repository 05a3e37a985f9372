-- The second pass puts the first one's bytes into the order of the page (`page_is`).
use native.Mathlib.Omega.{arith}
use Rattle.transfer.proofs.Pages.{page_is}
use Rattle.transfer.proofs.page.page.Goals as goal

pub returns : goal.returns
returns c = page_is _ _ _ _ c.tiles.ensures c.planes.ensures (omega arith)
