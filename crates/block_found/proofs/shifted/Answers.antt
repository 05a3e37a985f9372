-- A byte has no ninth bit.
use mathlib.Core.Path.{sym}
use Prim.Native.Nat.{◌^◌, ◌≤◌}
use native.Mathlib.Omega.{arith}
use native.Mathlib.Nat.{div-eq_of_lt}
use lib.Pow.{pow_mono}
use Rattle.block_found.proofs.shifted.Goals as goal

pub returns-else-n-lt8 : goal.returns-else-n-lt8
returns-else-n-lt8 c = let top : 2 ^ 8 ≤ 2 ^ c.args.n = pow_mono {i = 8} {j = c.args.n} (let k = c.if-n-lt8.false in omega arith) in sym (div-eq_of_lt (omega arith))
