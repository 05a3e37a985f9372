use mathlib.Core.Path.{◌≡◌}
use Prim.Native.Nat.{◌<◌}
use Rattle.receiver.specs.Rises.{rises}
use Rattle.receiver_polling.proofs.index_rises.Given as goal

abbrev pub invariant-loop : goal.invariant-loop
invariant-loop l = (l.x < 255) × (l.x ≡ rises l.counter l.index l.mask)
