-- The two bytes at that place pack the row's eight pixels (`plane-at`).
use mathlib.Core.Path.{◌≡◌, refl, ◌∙◌}
use native.Mathlib.Omega.{arith}
use Rattle.transfer.proofs.Pages.{plane-at}
use Rattle.transfer.proofs.page.plane_byte.Goals as goal

pub returns-then-p-eq0 : goal.returns-then-p-eq0
returns-then-p-eq0 c = c.low_plane.ensures ∙ rw c.if-p-eq0.true (plane-at c.args.screen.now c.args.t c.args.r 0 _ refl)

pub returns : goal.returns
returns c = let one : c.args.p ≡ 1 = omega arith in c.high_plane.ensures ∙ rw one (plane-at c.args.screen.now c.args.t c.args.r 1 _ refl)
