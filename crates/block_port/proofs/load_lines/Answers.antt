-- The three bytes are the unit's.
use mathlib.Core.Path.{refl}
use Rattle.layout.specs.Block.{load}
use Rattle.block_port.specs.Bytes.{lines_of}
use Rattle.block_port.proofs.load_lines.Goals as goal

pub returns : goal.returns
unfolding lines_of load
returns c = refl
