-- Serves the loops over writes; nobody need believe it: that runs hear what the writes say, one after the other (`heard` of `Port` in
-- `receiver`), is proofs/Hears, `hears`. A run of writes ends as one completes a command or they end. A complete command's bytes stand at
-- the front of the packet store, for the caller to carry out; only then the store is emptied (`cleared`).
use Rattle.std.specs.Prelude.{ℕ, zero, suc, ◌*◌, ◌<◌, ◌≡◌, List, [], ◌∷◌, length, take, replicate}
use Rattle.std.proofs.Math.Option.{some}
use Rattle.parts.specs.Parts.{store_bytes}
use Rattle.receiver.specs.Lines.{p15_high, both_high, indexed}
use Rattle.receiver.specs.Receive.{rx_of, Sound}
use Rattle.receiver.specs.Store.{packets_of, number_if}
use Rattle.receiver.specs.Port.{Port, step_at, filed_at, Heard, told, heard}
use Rattle.receiver.specs.declared.Receiver.{Receiver}
use Rattle.receiver_run.specs.declared.Lines.{Lines}
use Rattle.receiver_run.specs.declared.Ran.{Ran}

-- where a run ended: the port, the joypad index, after how many writes, and the packets of the command that is complete, or 0
pub record Ended : Type 0 where
  pub port : Port
  pub index : ℕ
  pub at : ℕ
  pub packets : ℕ

-- the port after a write, with what the write completed in its store
unfoldable pub lined : Port → ℕ → Port
lined u v = record { p15 = p15_high v; both = both_high v; rx = (step_at u v).next; store = filed_at u v }

-- at a command the run ends, else it goes on
unfoldable pub onward : ℕ → Port → ℕ → ℕ → Ended → Ended
onward zero u x i rest = rest
onward (suc n) u x i rest = record { port = u; index = x; at = i; packets = suc n }

-- the writes from the i-th on, with the joypad index x
unfoldable pub runs : ℕ → ℕ → ℕ → Port → List ℕ → Ended
runs mask i x u [] = record { port = u; index = x; at = i; packets = 0 }
runs mask i x u (v ∷ vs) =
    onward (packets_of (step_at u v).done) (lined u v) (indexed x mask u.p15 v) (suc i)
    (runs mask (suc i) (indexed x mask u.p15 v) (lined u v) vs)

-- the port when its command has been carried out
unfoldable pub cleared : Port → Port
cleared u = record { p15 = u.p15; both = u.both; rx = u.rx; store = replicate store_bytes 0 }

-- what is heard of a run that ended so, and then of the writes that are left
unfoldable pub resumed : ℕ → Port → List ℕ → Heard
resumed zero u rest = record { port = u; commands = [] }
resumed (suc n) u rest = told (some (take (16 * suc n) u.store)) (heard (cleared u) rest)

-- ---- the code's values are these

abbrev pub port_of : Receiver → Lines → List ℕ → Port
port_of r l s = record { p15 = l.p15; both = l.both; rx = rx_of r; store = s }

abbrev pub ended_of : Ran → List ℕ → Ended
ended_of r s = record { port = port_of r.rx r.lines s; index = r.lines.index; at = r.at; packets = number_if r.packets }

-- what a run requires, and keeps
pub record Ready (u : Port) (x mask : ℕ) : Type 0 where
  pub sound : Sound u.rx
  pub within : x < 255
  pub narrow : mask < 255
  pub long : length u.store ≡ store_bytes
