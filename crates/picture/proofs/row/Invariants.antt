use Prim.Native.Nat.{◌*◌}
use Rattle.bits.specs.Paint.{Painted}
use Rattle.picture_runs.specs.Drawing.{source_of}
use Rattle.picture.specs.Tables.{pixel_on}
use Rattle.picture.proofs.row.Given as goal

abbrev pub invariant-loop-c : goal.invariant-loop-c
invariant-loop-c l = Painted l.out l.initial.out l.at (l.c * 8) (pixel_on (source_of l.parts l.tables) l.y)
