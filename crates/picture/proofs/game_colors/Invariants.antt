use Rattle.bits.specs.Paint.{Painted}
use Rattle.picture.specs.Tables.{game_color}
use Rattle.picture.proofs.game_colors.Given as goal

abbrev pub invariant-loop-k : goal.invariant-loop-k
invariant-loop-k l = Painted l.out l.initial.out 0 l.k (game_color l.colours.palettes.now l.colours.preset.now l.colours.in_force l.mode)
