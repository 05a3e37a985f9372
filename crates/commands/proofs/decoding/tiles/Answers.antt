-- The half is handed on.
use Rattle.std.proofs.Common.{refl}
use Rattle.commands.specs.Told.{told, told_fixed}
use Rattle.commands.proofs.decoding.tiles.Goals as goal

pub returns : goal.returns
unfolding told told_fixed
returns c = λ d. refl
