-- What a write and writes in a row tell of the command that they complete: its packets, or none.
use mathlib.Core.Path.{◌≡◌, refl}
use mathlib.Core.List.{List}
use mathlib.Core.Option.{Option, none, some}
use Prim.Native.Nat.{ℕ}
use Rattle.layout.specs.Good.{Good}
use Rattle.layout.specs.Sgb.{Sgb}
use Rattle.rules.specs.Write.{answer}
use Rattle.rules.proofs.Keeps.{WholeIf, answered-whole}
use Rattle.block_port.specs.Bytes.{packets_told, packets_some}
use Rattle.unit.specs.Answers.{packets_of}
use Rattle.unit.specs.Calls.{packets_answered}

pub answer-whole : (u : Sgb) (v : ℕ) → Good u → WholeIf (answer u v)
unfolding answer
answer-whole u v g = answered-whole u.port v g.port

-- the workers tell a command by its packets
pub packets-some : (o : Option (List ℕ)) → packets_of (packets_some o) ≡ packets_answered o
unfolding packets_some packets_told packets_answered
packets-some none = refl
packets-some (some d) = refl
