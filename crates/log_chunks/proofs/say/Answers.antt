-- The step, and what it tells.
use mathlib.Core.Path.{subst⁻¹}
use Prim.Native.Nat.{◌≤◌}
use native.Mathlib.Omega.{arith}
use Rattle.log_chunks.specs.Steps.{desk_of, ToldFits}
use Rattle.log_chunks.specs.declared.Step.{Step}
use Rattle.log_chunks.proofs.Keeps.{step_keeps}
use Rattle.log_chunks.proofs.Stepping.{said, step-told}
use Rattle.log_chunks.proofs.say.Goals as goal

pub tell-n-requires : goal.tell-n-requires
tell-n-requires g c =
    let d = desk_of c.args.desk.now in
    let g = c.args.so_far in
    let s = c.take_step-s in
    let f = (step_keeps g.reading d c.args.chunk.now g.at c.requires.fit c.requires.so_far_bound.1.0).fit in
    record { told_fits = (subst⁻¹ (λ (a : Step). ToldFits a.told) s.ensures.value (step-told g.reading d c.args.chunk.now g.at c.requires.fit.valid), (omega arith, subst⁻¹ (λ (a : Step). 1 ≤ a.reading.number) s.ensures.value f.number_fits)); step_room_in_bounds = c.requires.step_room_in_bounds.0 }

pub overflow_add-result : goal.overflow_add-result
overflow_add-result g c = omega (arith, c.tell-n.ensures.upper_bound, c.requires.step_room_in_bounds.0, c.requires.step_room_in_bounds.1)

pub returns : goal.returns
returns g c =
    let s = c.take_step-s.ensures in
    let t = c.tell-n.ensures in
    said c.args.so_far (desk_of c.args.desk.now) c.args.chunk.now c.args.out.now c.take_step-s.result _ _ _ _ s.value s.desk_after t.value (omega (arith, t.upper_bound, c.requires.step_room_in_bounds.0)) t.out_after c.is_refused.ensures
