-- The lines tell the pulse, and what the rule does with that pulse doesn't hang on the order of the tests.
use mathlib.Core.Path.{◌≡◌, ◌∙◌, sym}
use mathlib.Core.Bool.{true}
use lib.Bits.{mask_lt}
use Prim.Native.Nat.{◌/◌}
use Rattle.receiver.specs.Receive.{rx_of}
use Rattle.receiver.proofs.Pulses.{is-release, is-start, is-low, on-release, on-start, on-low, low_other, unreleased}
use denote.Enum.Bare.{same_true, same_false}
use borrow.Author.Rules.{rules}
use Rattle.receiver.specs.contracts.Stage.{the_type}
use Rattle.receiver.specs.declared.Stage.TheVariants.{Receiving}
use Rattle.receiver.proofs.Receiver.write.Goals.{else-released-via-then-released+else-eq, else-released-via-else-released}
use Rattle.receiver.proofs.Receiver.write.Goals as goal

pub returns-then-lines-eq48 : goal.returns-then-lines-eq48
returns-then-lines-eq48 c = c.quiet.ensures ∙ sym (rw (is-release c.args.value c.if-lines-eq48.true) (on-release (rx_of c.args.self) c.args.released))

pub returns-then-lines-eq0 : goal.returns-then-lines-eq0
returns-then-lines-eq0 c =
    c.quiet-then-lines-eq0.ensures
    ∙ rw c.restart.ensures
    (sym (rw (is-start c.args.value c.if-lines-eq0.true) (on-start (rx_of c.args.self) c.args.released c.requires)))

pub clock-requires : goal.clock-requires
clock-requires c = (c.requires, mask_lt (c.args.value / 16) 1)

pub returns-then-eq : goal.returns-then-eq
returns-then-eq c =
    let receiving : c.args.self.stage ≡ Receiving = same_true the_type (search rules) _ _ (sym c.eq.ensures ∙ c.if-eq.true) in
    rw c.if-released.true (c.clock.ensures ∙ sym (on-low (rx_of c.args.self) true (is-low c.args.value c.if-lines-eq48.false c.if-lines-eq0.false) receiving))

pub returns-else-released : goal.returns-else-released
returns-else-released c =
    let low = is-low c.args.value c.if-lines-eq48.false c.if-lines-eq0.false in
    c.quiet-else-released.ensures
    ∙ elim c.else-released.branch [
      | else-released-via-then-released+else-eq w ↦
          let other : c.args.self.stage ≡ Receiving → ⊥ = same_false the_type _ _ (sym w.eq.ensures ∙ w.if-eq.false) in
          sym (low_other (rx_of c.args.self) c.args.released low other)
      | else-released-via-else-released w ↦ rw w.if-released.false (sym (unreleased (rx_of c.args.self) low))
    ]
