-- `colour::brightness` meets its contract: its table is the ramp, entry for entry.
use mathlib.Core.Path.{ap}
use Rattle.colour.specs.Colour.{gamma_ramp, ramp}
use Rattle.colour.proofs.brightness.Goals as goal

pub returns : goal.returns
unfolding gamma_ramp ramp
returns c = ap ramp c.from.ensures
