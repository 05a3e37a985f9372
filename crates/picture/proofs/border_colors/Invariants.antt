use Rattle.bits.specs.Paint.{Painted}
use Rattle.picture.specs.Tables.{border_color}
use Rattle.picture.proofs.border_colors.Given as goal

abbrev pub invariant-loop-n : goal.invariant-loop-n
invariant-loop-n l = Painted l.out l.initial.out 0 l.n (border_color l.borders l.back.0)
