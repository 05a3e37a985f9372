-- Serves the loop over writes; nobody need believe it: that a run of the port, with its command carried out at its end, is what was played
-- (`Play`) is proofs/Plays, `plays`. Here is what such a run leaves.
use Rattle.std.specs.Prelude.{ℕ, List}
use Rattle.std.proofs.Math.Option.{Option}
use Rattle.receiver_run.specs.Run.{Ended, runs}
use Rattle.block_port.specs.Bytes.{taken, settled}
use Rattle.layout.specs.Sgb.{Sgb}
use Rattle.rules.specs.Carry.{with_pads}

-- with its command handed over, the store is empty again
unfoldable pub handed_over : Ended → Ended
handed_over e = record {
  port = record { p15 = e.port.p15; both = e.port.both; rx = e.port.rx; store = settled e.packets e.port.store };
  index = e.index;
  at = e.at;
  packets = e.packets;
}

-- the command that a run completed
unfoldable pub command_of : Ended → Option (List ℕ)
command_of e = taken e.packets e.port.store

-- a run of the unit's port (`Run` of the crate `receiver_run`), and the unit with what it leaves of the port
unfoldable pub ran_to : Sgb → List ℕ → Ended
ran_to u ws = runs u.game.pads 0 u.game.index u.port ws

unfoldable pub ran_unit : Sgb → Ended → Sgb
ran_unit u e = record { port = (handed_over e).port; game = with_pads e.index u.game.pads u.game; snes = u.snes }
