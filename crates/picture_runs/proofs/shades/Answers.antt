-- The two bytes at that place pack the eight shades (`packs`).
use Prim.Native.Nat.{◌+◌, ◌-◌, ◌*◌}
use native.Mathlib.Omega.{arith}
use Rattle.picture_runs.specs.Runs.{screen_from}
use Rattle.picture_runs.proofs.Eights.{packs}
use Rattle.picture_runs.proofs.shades.Goals as goal

pub returns : goal.returns
returns c =
    let a = c.args in
    let at = (a.y - 40) * 40 + (a.c - 6) * 2 in
    packs a.screen.now (screen_from a.c a.y) at _ (omega arith) (omega (arith, c.type_inv.screen (at + 1))) c.word.ensures
