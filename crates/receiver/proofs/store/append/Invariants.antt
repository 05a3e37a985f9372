use mathlib.Core.Path.{◌≡◌}
use lib.Seq.{paste}
use Rattle.receiver.specs.Receive.{words}
use Rattle.receiver.specs.Store.{bytes_of}
use Rattle.receiver.proofs.store.append.Given as goal

abbrev pub invariant-loop-i : goal.invariant-loop-i
invariant-loop-i l = l.store ≡ paste l.initial.store l.at (bytes_of 16 (words l.lo l.hi)) l.i
