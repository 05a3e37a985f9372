-- Serves the loops of `run_fast`; nobody need believe it: what the call promises is `runs` of `receiver_run`, as the plain run does.
-- Many writes at once: a stride of the fast run, from one place to a later one, and the lines there.
use Rattle.std.specs.Prelude.{ℕ, ◌<◌, ◌≤◌, ◌≡◌, List, length, drop}
use Rattle.receiver.specs.declared.Receiver.{Receiver}
use Rattle.receiver.specs.Receive.{rx_of, Sound}
use Rattle.receiver.specs.Lines.{p15_high, both_high, indexed}
use Rattle.receiver_run.specs.Run.{runs, port_of}
use Rattle.receiver_run.specs.declared.Lines.{Lines}
use Rattle.receiver_polling.specs.declared.fed.Fed.{Fed}

-- the lines and the joypad index after a write of v
unfoldable pub lines_after : Lines → ℕ → ℕ → Lines
lines_after l mask v = record { p15 = p15_high v; both = both_high v; index = indexed l.index mask l.p15 v }

-- a run from one place is the run from a later one
pub record Passed (mask from : ℕ) (rx : Receiver) (l : Lines) (ws : List ℕ) (f : Fed) : Type 0 where
  pub onto : from ≤ f.at
  pub within : f.at ≤ length ws
  pub kept : f.rx.stage ≡ rx.stage
  pub sound : Sound (rx_of f.rx)
  pub few : f.lines.index < 255
  pub same : (s : List ℕ) → runs mask from l.index (port_of rx l s) (drop from ws) ≡ runs mask f.at f.lines.index (port_of f.rx f.lines s) (drop f.at ws)
