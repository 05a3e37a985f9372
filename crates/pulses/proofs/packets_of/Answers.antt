-- The tests are those of refusal 5: an empty command has no first byte, and no packets are no whole number of them.
use Prim.Native.Nat.{◌*◌}
use mathlib.Core.Path.{◌≡◌, sym, ap, ◌∙◌}
use native.Mathlib.Omega.{arith}
use mathlib.Core.Logic.{inl, inr}
use Rattle.std.specs.Prelude.{Some, None}
use Rattle.std.proofs.lemmas.Option.{get_or_from_slice_get, slice_get_cases}
use Rattle.receiver.specs.Count.{count_of}
use Rattle.pulses.specs.Bytes.{packets_in}
use Rattle.pulses.proofs.Commands.{no_command, answer_none, answer_some}
use Rattle.pulses.proofs.packets_of.Goals.{else-n-gt0-via-then-n-gt0+else-command-n, else-n-gt0-via-else-n-gt0}
use Rattle.pulses.proofs.packets_of.Goals as goal

pub returns-then-command-n : goal.returns-then-command-n
unfolding packets_in
returns-then-command-n c =
    let s = c.args.command.now in
    let e : c.from-n.result ≡ packets_in s =
    c.from-n.ensures ∙ c.packet_count.ensures ∙ ap count_of (sym (get_or_from_slice_get s 0 _ 0 (sym c.in-Some.ensures.value))) in
    answer_some s c.from-n.result e c.if-n-gt0.true c.if-command-n.true

pub returns-else-n-gt0 : goal.returns-else-n-gt0
unfolding packets_in
returns-else-n-gt0 c =
    let s = c.args.command.now in
    let e : c.from-n.result ≡ packets_in s =
    c.from-n.ensures ∙ c.packet_count.ensures ∙ ap count_of (sym (get_or_from_slice_get s 0 _ 0 (sym c.in-Some.ensures.value))) in
    answer_none s
    (no_command s
    (λ some whole.
    elim c.else-n-gt0.branch [
      | else-n-gt0-via-then-n-gt0+else-command-n w ↦ w.if-command-n.false (whole ∙ ap (λ n. 16 * n) (sym e))
      | else-n-gt0-via-else-n-gt0 w ↦ omega (arith, w.if-n-gt0.false, e)
    ]))

pub returns-in_default : goal.returns-in_default
returns-in_default c =
    let s = c.args.command.now in
    answer_none s
    (no_command s
    (λ some whole.
    elim (slice_get_cases s 0).1 [
      | inl (x, lt, e, r) ↦ absurd (let z : None ≡ Some x = c.in_default.ensures.value ∙ e in cc)
      | inr (le, e) ↦ omega arith
    ]))
