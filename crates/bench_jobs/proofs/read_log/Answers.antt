-- A turn takes a chunk by a fill; what is left of the input falls with it.
use mathlib.Core.Path.{ap}
use Prim.Native.Nat.{◌+◌, ◌≤◌}
use native.Mathlib.Omega.{arith}
use lib.ListN.{length}
use Rattle.log_chunks.specs.Steps.{desk_of}
use Rattle.log_reader.specs.Fed.{LentSizes, out_bytes}
use Rattle.log_reading.specs.declared.Reading.{Reading}
use Rattle.bench_jobs.proofs.Chunks.{begun-fit, part_is, within_on, ends-within, left-falls}
use Rattle.bench_jobs.proofs.read_log.Goals as goal

pub chunks-init : goal.chunks-init
chunks-init c =
    let d = desk_of c.args.desk.now in
    let sizes : LentSizes d = record { block_long = omega arith; line_long = omega arith; bytes_long = omega arith; command_long = omega arith } in
    record {
      fit = begun-fit d _ _ sizes c.post_boot.ensures c.begin-reading.ensures;
      within = omega arith;
      numbered = omega (arith, ap (λ (r : Reading). r.number) c.begin-reading.ensures);
      roomy = omega arith;
    }

pub overflow_add-at : goal.overflow_add-at
overflow_add-at c =
    let a = c.chunks in
    let long : a.at + c.chunk_size.result ≤ length c.args.input.now = omega (arith, c.chunk_size.ensures.0, a.invariant.within) in
    let chunk_long = part_is c.args.input.now a.at c.chunk_size.result long in
    let w = ends-within (length c.args.input.now) _ a.reading (desk_of a.desk) a.at a.n _ _ c.fill-f.result _ _ a.invariant c.fill-f.ensures (omega (arith, chunk_long, long)) in
    omega (arith, w, c.requires)

pub chunks-smaller : goal.chunks-smaller
chunks-smaller c =
    let a = c.chunks in
    let goes = c.goes_on.ensures c.chunks-test.true in
    let room : a.n + out_bytes ≤ length a.text = omega (arith, goes.0, a.invariant.roomy, a.auto.text) in
    let long : a.at + c.chunk_size.result ≤ length c.args.input.now = omega (arith, c.chunk_size.ensures.0, a.invariant.within) in
    let chunk_long = part_is c.args.input.now a.at c.chunk_size.result long in
    let out_long = part_is a.text a.n out_bytes room in
    left-falls (length c.args.input.now) _ a.reading (desk_of a.desk) a.at a.n _ _ c.fill-f.result _ _ a.invariant c.fill-f.ensures (omega (arith, chunk_long, long)) (omega (arith, chunk_long, c.chunk_size.ensures.1.1)) (omega (arith, out_long)) goes.1

pub chunks-preserved : goal.chunks-preserved
chunks-preserved c =
    let a = c.chunks in
    let goes = c.goes_on.ensures c.chunks-test.true in
    let room : a.n + out_bytes ≤ length a.text = omega (arith, goes.0, a.invariant.roomy, a.auto.text) in
    let long : a.at + c.chunk_size.result ≤ length c.args.input.now = omega (arith, c.chunk_size.ensures.0, a.invariant.within) in
    let chunk_long = part_is c.args.input.now a.at c.chunk_size.result long in
    let out_long = part_is a.text a.n out_bytes room in
    within_on (length c.args.input.now) _ a.reading (desk_of a.desk) a.at a.n _ _ c.fill-f.result _ _ a.invariant c.fill-f.ensures (omega (arith, chunk_long, long)) c.kept-n.result c.kept-n.ensures (omega (arith, out_long, room, a.auto.text))
