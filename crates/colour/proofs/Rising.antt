-- The ramp's rule, by one test over the whole table: 32 levels, from 0 to 255, each brighter than the one below it.
-- So no two levels look alike.
use mathlib.Core.Path.{◌≡◌, refl}
use Prim.Native.Nat.{ℕ, suc, ◌<◌}
use lib.Dec.{ltb, ltb→lt}
use lib.ListN.{length}
use Rattle.bits.proofs.Every.{every_at}
use Rattle.colour.specs.Colour.{gamma_ramp, ramp}

pub ramp-length : length gamma_ramp ≡ 32
unfolding gamma_ramp
ramp-length = refl

pub ramp-from : ramp 0 ≡ 0
unfolding gamma_ramp ramp
ramp-from = refl

pub ramp-to : ramp 31 ≡ 255
unfolding gamma_ramp ramp
ramp-to = refl

pub ramp-rises : (k : ℕ) → k < 31 → ramp k < ramp (suc k)
unfolding gamma_ramp ramp
ramp-rises k h = ltb→lt (ramp k) (ramp (suc k)) (every_at 31 (λ i. ltb (ramp i) (ramp (suc i))) tt k h)
