-- The command's bytes are those of its packets.
use native.Mathlib.Omega.{arith}
use Rattle.log_chunks.proofs.Coded.{hex-short}
use Rattle.log_chunks.proofs.tell_command.Goals as goal

pub returns-clause-upper_bound : goal.returns-clause-upper_bound
returns-clause-upper_bound c = omega (arith, c.command_line.ensures.value, hex-short c.from.result c.args.command.now (omega (arith, c.from.ensures)))
