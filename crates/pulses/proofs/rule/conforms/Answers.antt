-- The tests are the definition's, one after the other.
use mathlib.Core.Path.{◌≡◌, sym, ◌∙◌}
use mathlib.Core.Bool.{true, false}
use borrow.Author.Tests.{le-leb, lt-leb}
use Rattle.receiver.specs.Count.{code_of}
use Rattle.pulses.specs.Verdict.{conforms_by, conforms}
use Rattle.pulses.proofs.rule.conforms.Goals.{then-code-le-LAST_CODE, else-code-le-LAST_CODE}
use Rattle.pulses.proofs.rule.conforms.Goals as goal

pub returns-then-not-announces : goal.returns-then-not-announces
unfolding conforms conforms_by code_of
returns-then-not-announces c =
    elim c.if-code-le-LAST_CODE.branch [
      | then-code-le-LAST_CODE w ↦
          rw (le-leb _ 0x19 w.if-code-le-LAST_CODE.true, sym c.requires.1.1, sym w.most_packets.ensures, sym w.value-is ∙ c.if-n-most_packets.true, sym c.announces.ensures, c.if-not-announces.true)
      | else-code-le-LAST_CODE w ↦ absurd (let z : ◌≡◌ false true = sym (lt-leb _ 0x19 w.if-code-le-LAST_CODE.false) ∙ sym w.value-is ∙ c.if-n-most_packets.true in cc)
    ]

pub returns-else-not-announces : goal.returns-else-not-announces
unfolding conforms conforms_by code_of
returns-else-not-announces c =
    elim c.if-code-le-LAST_CODE.branch [
      | then-code-le-LAST_CODE w ↦
          rw
          (le-leb _ 0x19 w.if-code-le-LAST_CODE.true, sym c.requires.1.1, sym w.most_packets.ensures, sym w.value-is ∙ c.if-n-most_packets.true, sym c.announces.ensures, c.if-not-announces.false, sym c.announced.ensures)
          c.brings.ensures
      | else-code-le-LAST_CODE w ↦ absurd (let z : ◌≡◌ false true = sym (lt-leb _ 0x19 w.if-code-le-LAST_CODE.false) ∙ sym w.value-is ∙ c.if-n-most_packets.true in cc)
    ]

pub returns-else-n-most_packets : goal.returns-else-n-most_packets
unfolding conforms conforms_by code_of
returns-else-n-most_packets c =
    elim c.if-code-le-LAST_CODE.branch [
      | then-code-le-LAST_CODE w ↦
          rw (le-leb _ 0x19 w.if-code-le-LAST_CODE.true, sym c.requires.1.1, sym w.most_packets.ensures, sym w.value-is ∙ c.if-n-most_packets.false, c.if-n-most_packets.false)
      | else-code-le-LAST_CODE w ↦ rw (lt-leb _ 0x19 w.if-code-le-LAST_CODE.false, c.if-n-most_packets.false)
    ]
