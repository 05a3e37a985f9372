-- By the three cases.
use mathlib.Core.Path.{refl, subst⁻¹}
use Prim.Native.Nat.{◌≤◌}
use Rattle.log_line.specs.Line.{line_digits}
use Rattle.log_line.specs.Split.{held_size}
use Rattle.log_line.specs.declared.lines.Taken.{Taken}
use native.Mathlib.Omega.{arith}
use borrow.Author.Rules.{rules}
use Rattle.log_chunks.specs.Steps.{desk_of}
use Rattle.log_chunks.proofs.Stepping.{step-played, step-ended, step-held, taken-fits}
use Rattle.log_chunks.proofs.take_step.Goals as goal

pub returns-then-reading : goal.returns-then-reading
returns-then-reading g c =
    let k = step-played c.args.reading (desk_of c.args.desk.now) c.args.chunk.now c.args.at _ _ c.if-reading.true c.play_on.ensures.value c.play_on.ensures.desk_after in
    record { value = k.0; desk_after = k.1 }

pub overflow_add-t : goal.overflow_add-t
overflow_add-t g c = omega (arith, c.if-t-chunk.true, c.requires.number_lt_most64.1.1)

pub end_line-requires : goal.end_line-requires
end_line-requires g c =
    let t = c.split-t in
    (search rules, (c.requires.fit.valid, (subst⁻¹ (λ (k : Taken). held_size k.held ≤ line_digits) t.ensures.value (taken-fits c.args.reading.held c.args.chunk.now c.args.at), c.requires.number_lt_most64.0)))

pub returns-then-t-chunk : goal.returns-then-t-chunk
returns-then-t-chunk g c =
    let t = c.split-t in
    let p = c.end_line.ensures in
    let k = step-ended c.args.reading (desk_of c.args.desk.now) c.args.chunk.now c.args.at _ _ c.if-reading.false t.result t.ensures.value _ t.ensures.line_after c.if-t-chunk.true p.value p.desk_after in
    record { value = k.0; desk_after = k.1 }

pub returns : goal.returns
returns g c =
    let t = c.split-t in
    let k = step-held c.args.reading (desk_of c.args.desk.now) c.args.chunk.now c.args.at _ _ c.if-reading.false t.result t.ensures.value _ t.ensures.line_after c.if-t-chunk.false refl refl in
    record { value = k.0; desk_after = k.1 }
