use Prim.Native.Nat.{◌*◌, ◌/◌, ◌%◌}
use Rattle.bits.specs.Paint.{Painted}
use Rattle.picture_runs.specs.Drawing.{source_of}
use Rattle.picture.specs.Tables.{pixel_on}
use Rattle.picture.proofs.picture.Given as goal

abbrev pub invariant-loop-y : goal.invariant-loop-y
invariant-loop-y l = Painted l.out l.initial.out 0 (l.y * 256) (λ k. pixel_on (source_of l.parts l.tables) (k / 256) (k % 256))
