use Rattle.bits.specs.Paint.{Painted}
use Rattle.picture_runs.proofs.run_plain.Given as goal

abbrev pub invariant-loop-j : goal.invariant-loop-j
invariant-loop-j l = Painted l.out l.initial.out l.at l.j (λ i. l.color.0)
