-- Both passes give the screen (`screen_is`).
use native.Mathlib.Omega.{arith}
use Rattle.pages.proofs.Passes.{screen_is}
use Rattle.pages.proofs.draw.Goals as goal

pub returns : goal.returns
returns c = screen_is _ _ _ (omega arith) c.lay.ensures c.pack.ensures
