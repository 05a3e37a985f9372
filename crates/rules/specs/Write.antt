-- A write to the joypad register: what it answers and what it leaves. RULES 3. What the lines and the receiver do is in the
-- crate `receiver`; which command a write carries out is told by the port alone (`carries`).
use Rattle.std.specs.Prelude.{ℕ, List}
use Rattle.std.proofs.Math.Option.{Option, none, some}
use Rattle.receiver.specs.Lines.{indexed}
use Rattle.receiver.specs.Port.{Port, wrote, answered}
use Rattle.commands.specs.Command.{Command, plain, nothing, decode}
use Rattle.layout.specs.Sgb.{Sgb, Game}
use Rattle.rules.specs.Carry.{with_pads, carried}

-- a rise of P15 moves the joypad index (RULES 3.2)
unfoldable pub advanced : Port → ℕ → Game → Game
advanced p v g = with_pads (indexed g.index g.pads p.p15 v) g.pads g

-- a write that completes no command does what one does that says nothing
unfoldable pub meant : Option (List ℕ) → Command
meant none = plain nothing
meant (some d) = decode d

unfoldable pub carries : Port → ℕ → Command
carries p v = meant (answered p v)

-- what a write does before its command is carried out: the port, and the joypad index
unfoldable pub stepped : Sgb → ℕ → Sgb
stepped u v = record { port = wrote u.port v; game = advanced u.port v u.game; snes = u.snes }

unfoldable pub written : Sgb → ℕ → Sgb
written u v = carried (carries u.port v) (stepped u v)

-- the command that is complete, its 16 to 112 bytes, or none
unfoldable pub answer : Sgb → ℕ → Option (List ℕ)
answer u v = answered u.port v
