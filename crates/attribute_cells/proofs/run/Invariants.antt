use Prim.Native.Nat.{◌+◌}
use Rattle.attribute_cells.specs.Chr.{place_of, put_at, pair_of_data}
use Rattle.attribute_map.proofs.Steps.{After}
use Rattle.attribute_cells.proofs.Places.{Placed, Near}
use Rattle.attribute_cells.proofs.run.Given as goal

abbrev pub invariant-loop-k : goal.invariant-loop-k
invariant-loop-k l =
    Near (256 + l.k) l.s × Placed l.along l.initial.s l.s l.k × After (λ k. put_at (place_of l.along l.initial.s k) (pair_of_data l.d k)) l.initial.m l.m l.k
