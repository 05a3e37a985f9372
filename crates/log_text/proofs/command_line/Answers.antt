-- `log_text::command_line` meets its contract: the bytes are spelled out, and LF is put behind them.
use mathlib.Core.Path.{sym}
use native.Mathlib.Omega.{arith}
use Rattle.log_text.proofs.Printed.{length-hex_line, command_put}
use Rattle.log_text.proofs.command_line.Goals as goal

pub returns : goal.returns
returns c =
    let start = c.args in
    record { value = sym (length-hex_line start.command.now); out_after = command_put start.command.now start.out.now _ start.at (omega arith) c.spell.ensures }
