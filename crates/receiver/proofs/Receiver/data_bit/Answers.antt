-- The bits at and past the index are zero, so setting one adds its power of two, in the low word or in the high one.
use mathlib.Core.Path.{ap}
use Prim.Native.Nat.{ℕ, ◌+◌}
use Rattle.receiver.specs.declared.Receiver.{Receiver}
use Rattle.receiver.specs.Receive.{Rx, data_bit}
use Rattle.receiver.proofs.Words.{low_bit, high_bit}
use Rattle.receiver.proofs.Receiver.data_bit.Goals as goal

-- the next bit, with this packet
abbrev with-packet : Receiver → ℕ → Rx
with-packet s p =
    record { stage = s.stage; expected = s.expected; received = s.received; bits = s.bits + 1; packet = p }

pub returns-then-bits-lt64 : goal.returns-then-bits-lt64
unfolding data_bit
returns-then-bits-lt64 c =
    let s = c.args.self in
    rw c.from.ensures
    (ap (with-packet s)
    (low_bit s.lo s.hi s.bits c.args.one c.if-bits-lt64.true c.requires.1.1 c.requires.0.clear))

pub returns-else-bits-lt64 : goal.returns-else-bits-lt64
unfolding data_bit
returns-else-bits-lt64 c =
    let s = c.args.self in
    rw c.from-else-bits-lt64.ensures
    (ap (with-packet s)
    (high_bit s.lo s.hi s.bits c.args.one c.if-bits-lt64.false c.requires.1.0 c.requires.1.1
    c.requires.0.clear))
