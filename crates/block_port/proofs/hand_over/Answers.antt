-- By whether a command is complete: then its bytes go on, and the store is cleared.
use mathlib.Core.Path.{sym, ap, ◌∙◌}
use Prim.Native.Nat.{ℕ, ◌*◌, ◌<◌}
use native.Mathlib.Omega.{arith}
use lib.ListN.{replicate}
use lib.Seq.{length-take-le}
use Rattle.receiver.specs.Store.{number_if}
use Rattle.block_port.specs.Bytes.{handed, taken_by, settled_by}
use Rattle.block_port.proofs.hand_over.Goals as goal

pub slice_bounds-put-end : goal.slice_bounds-put-end
unfolding number_if
slice_bounds-put-end c =
    let few : c.in-Some.n < 8 = rw c.in-Some.is at c.requires.0 in
    omega (arith, c.from.ensures, c.requires.1.0)

pub slice_bounds-put-end-in-Some : goal.slice_bounds-put-end-in-Some
slice_bounds-put-end-in-Some c = sym (length-take-le (16 * c.from.result) c.args.store.now (slice_bounds-put-end c))

pub returns-in-Some-clause-store_after : goal.returns-in-Some-clause-store_after
unfolding settled_by
returns-in-Some-clause-store_after c = c.clear.ensures ∙ ap (λ (n : ℕ). replicate n 0) c.requires.1.0 ∙ rw c.in-Some.is

pub returns-in-Some-clause-command_after : goal.returns-in-Some-clause-command_after
unfolding taken_by handed
returns-in-Some-clause-command_after c = c.put.ensures ∙ rw (c.in-Some.is, c.from.ensures)

pub returns-in_default-clause-store_after : goal.returns-in_default-clause-store_after
unfolding settled_by
returns-in_default-clause-store_after c = rw c.in_default.is

pub returns-in_default-clause-command_after : goal.returns-in_default-clause-command_after
unfolding taken_by handed
returns-in_default-clause-command_after c = rw c.in_default.is
