-- The turns are counted, so that lines and bytes are; each goes on from what the ones before left.
use mathlib.Core.Path.{refl, sym, ap, ◌∙◌}
use native.Mathlib.Omega.{arith}
use Rattle.log_reading.specs.declared.Reading.{Reading}
use Rattle.log_chunks.specs.Steps.{desk_of}
use Rattle.log_reader.specs.Fed.{LentSizes}
use Rattle.log_reader.proofs.Outcomes.{so_far_none, so-far-on, so-far-ends, so_far-stops, boot-fit}
use Rattle.log_reader.proofs.read_log.Goals as goal

pub loop-past-init : goal.loop-past-init
loop-past-init c =
    let sizes : LentSizes (desk_of c.args.desk.now) = record { block_long = omega arith; line_long = omega arith; bytes_long = omega arith; command_long = omega arith } in (
      so_far_none c.args.quiet _ c.args.printer.now.tally c.begin.result c.begin.ensures (boot-fit (desk_of c.args.desk.now) _ sizes c.post_boot.ensures),
      (omega (arith, ap (λ (r : Reading). r.number) c.begin.ensures), omega arith),
    )

pub turn-next-requires : goal.turn-next-requires
turn-next-requires c =
    let a = c.loop-past in
    record { fit = a.invariant.0.fit; number_le_most_lines = (omega (arith, a.invariant.1.0, c.loop-past-test.true), omega (arith, a.invariant.1.1, c.loop-past-test.true)); out_len = (omega (arith, a.auto.out, c.requires.out_len.0), omega (arith, a.auto.chunk, c.requires.out_len.1)) }

pub returns-then-not-goes_on : goal.returns-then-not-goes_on
returns-then-not-goes_on c =
    let k = c.turn-next.ensures.1 in
    record { valid = (k.fit.valid, k.fit.number_fits); by_index = so-far-ends c.args.quiet _ _ _ c.loop-past.read c.turn-next.result _ c.loop-past.invariant.0 k _ _ refl c.post_boot.ensures (sym c.goes_on.ensures ∙ c.if-not-goes_on.true) }

pub loop-past-preserved : goal.loop-past-preserved
loop-past-preserved c =
    let a = c.loop-past in
    let k = c.turn-next.ensures.1 in (
      so-far-on c.args.quiet _ _ _ a.read c.turn-next.result _ a.invariant.0 k (sym c.goes_on.ensures ∙ c.if-not-goes_on.false),
      (omega (arith, k.numbered, a.invariant.1.0), omega (arith, k.counts, k.short, a.invariant.1.1)),
    )

pub returns : goal.returns
returns c =
    let a = c.loop-past in
    record { valid = (a.invariant.0.fit.valid, a.invariant.0.fit.number_fits); by_index = so_far-stops c.args.quiet _ _ a.read _ a.invariant.0 c.post_boot.ensures }
