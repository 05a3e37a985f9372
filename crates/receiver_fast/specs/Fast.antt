-- Serves the loops of `run_fast`; nobody need believe it: what the call promises is `runs` of `receiver_run`, as the plain run does.
use Rattle.std.specs.Prelude.{ℕ, true}
use Rattle.receiver_run.specs.declared.Lines.{Lines}

-- both lines high
abbrev pub released : ℕ → Lines
released x = record { p15 = true; both = true; index = x }
