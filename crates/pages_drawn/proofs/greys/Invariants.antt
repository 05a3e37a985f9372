use Rattle.std.proofs.Common.{◌≡◌, length}
use Rattle.bits.specs.Paint.{Painted}
use Rattle.pages_drawn.specs.Graymap.{grey_at}
use Rattle.pages_drawn.proofs.greys.Given as goal

abbrev pub invariant-loop-k : goal.invariant-loop-k
invariant-loop-k l = (length l.out ≡ length l.initial.out) × Painted l.out l.initial.out 0 l.k (grey_at l.screen)
