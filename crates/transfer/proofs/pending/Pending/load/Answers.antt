-- A number that names a kind is that kind's, and so is read back (`kind-read-back`).
use mathlib.Core.Path.{sym}
use Rattle.transfer.proofs.Pendings.{kind-read-back}
use Rattle.transfer.proofs.pending.Pending.load.Goals as goal

pub returns-in-Ok : goal.returns-in-Ok
returns-in-Ok c = rw c.in-Ok.ensures (sym (kind-read-back _ _ c.if-countdown-gt0.true))
