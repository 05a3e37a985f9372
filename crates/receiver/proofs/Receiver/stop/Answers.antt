-- The tests are the definition's; the low byte of the low word is the packet's first byte.
use mathlib.Core.Path.{◌∙◌, sym, ap}
use Prim.Native.Nat.{◌%◌}
use lib.Bits.{mask_lt}
use borrow.Author.Tests.{eq-eqb, ne_eqb}
use Rattle.receiver.specs.Count.{count_of}
use Rattle.receiver.specs.Receive.{words, expecting, stopped}
use Rattle.receiver.proofs.Words.{first_byte}
use Rattle.receiver.proofs.Receiver.stop.Goals as goal

pub overflow_cast-self : goal.overflow_cast-self
overflow_cast-self c = record { fits = mask_lt c.args.self.lo 8 }

pub returns-then-count-eq0 : goal.returns-then-count-eq0
unfolding expecting stopped
returns-then-count-eq0 c =
    let s = c.args.self in
    let e = c.packet_count-count.ensures ∙ ap count_of (first_byte s.lo s.hi) in
    c.quiet.ensures ∙ rw (
      c.new.ensures,
      eq-eqb _ _ c.if-self-eq0.true,
      eq-eqb (count_of (words s.lo s.hi % 256)) 0 (sym e ∙ c.if-count-eq0.true),
    )

pub returns-else-count-eq0 : goal.returns-else-count-eq0
unfolding expecting stopped
returns-else-count-eq0 c =
    let s = c.args.self in
    let e = c.packet_count-count.ensures ∙ ap count_of (first_byte s.lo s.hi) in
    c.keep.ensures ∙ rw (
      e,
      eq-eqb _ _ c.if-self-eq0.true,
      ne_eqb (count_of (words s.lo s.hi % 256)) 0 (λ z. c.if-count-eq0.false (e ∙ z)),
    )

pub returns-else-self-eq0 : goal.returns-else-self-eq0
unfolding stopped
returns-else-self-eq0 c = c.keep-else-self-eq0.ensures ∙ rw (ne_eqb _ _ c.if-self-eq0.false)
