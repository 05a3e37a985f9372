-- Zeros, the fields over them, and two bytes over these.
use mathlib.Core.Path.{ap, ◌∙◌}
use Prim.Native.Nat.{ℕ}
use native.Mathlib.Omega.{arith}
use lib.ListN.{length-set, set, replicate}
use Rattle.bits.specs.Over.{over}
use Rattle.parts.specs.Parts.{kind_at, frozen_on_at}
use Rattle.state_in.proofs.Fronts.{header_made}
use Rattle.state_in.proofs.Spanned.{flag-byte}
use Rattle.state_in.proofs.fill_header.Goals as goal

pub bounds-front-12 : goal.bounds-front-12
bounds-front-12 c = simp length-set (omega arith)

pub shape_of-front : goal.shape_of-front
shape_of-front c = simp length-set (omega arith)

pub returns : goal.returns
returns c = let a = c.args in
    let p = c.requires in
    let zeros = c.clear.ensures ∙ ap (λ (n : ℕ). replicate n 0) p.0 in
    let laid = c.put.ensures ∙ (λ t. over 0 (p.1 t) a.fields.now (zeros t)) in
    (λ t. set (set (laid t) kind_at (c.kind_taken.ensures t)) frozen_on_at ((c.from.ensures ∙ flag-byte c.args.frozen) t)) ∙ header_made a.fields.now _ _ p.1
