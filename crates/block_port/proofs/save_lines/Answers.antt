-- Three stores.
use mathlib.Core.Path.{◌∙◌}
use Rattle.receiver.proofs.Flags.{byte_is}
use Rattle.block_port.specs.Bytes.{put_lines}
use Rattle.block_port.proofs.save_lines.Goals as goal

pub returns : goal.returns
unfolding put_lines
returns c = rw (c.from.ensures ∙ byte_is c.args.lines.p15, c.from-2.ensures ∙ byte_is c.args.lines.both)
