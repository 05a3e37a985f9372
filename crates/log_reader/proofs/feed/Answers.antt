-- A turn is a fill, told; what is left falls with it.
use mathlib.Core.Path.{refl, sym, ◌∙◌}
use native.Mathlib.Omega.{arith}
use borrow.Author.Rules.{rules}
use borrow.Author.Tests.{ltb-true}
use Rattle.log_chunks.specs.Steps.{desk_of}
use Rattle.log_reader.specs.Read.{point}
use Rattle.log_writer.specs.declared.State.TheVariants.{Well}
use Rattle.log_reader.proofs.Feeding.{starts, told-turn, filled-kept, filled-less, stands_well, stands_ill, turn-whole, turn-kept}
use Rattle.log_reader.proofs.feed.Goals as goal

pub loop-desk-init : goal.loop-desk-init
loop-desk-init c =
    let args = c.args in
    (starts args.quiet (point args.start (desk_of args.desk.now) args.printer.now.tally) args.chunk.now c.requires.fit, refl)

pub fill-f-requires : goal.fill-f-requires
fill-f-requires c =
    let a = c.loop-desk in
    let t = a.invariant.0 in
    let few = c.requires.number_le_most_lines in
    (search rules, (t.fit, ((omega (arith, t.numbered, t.within, few.0, few.1), (t.within, omega (arith, few.1))), omega (arith, a.invariant.1, c.requires.out_len))))

pub slice_bounds-told-end : goal.slice_bounds-told-end
slice_bounds-told-end c = omega (arith, c.fill-f.ensures.fits, c.fill-f.auto.out)

pub returns-then-not-is_well : goal.returns-then-not-is_well
returns-then-not-is_well c =
    let args = c.args in
    let a = c.loop-desk in
    let f = c.fill-f in
    let w = c.told-state in
    let p = point args.start (desk_of args.desk.now) args.printer.now.tally in
    let q = point a.reading (desk_of a.desk) a.printer.tally in
    record {
      kept = filled-kept args.quiet p q args.chunk.now a.at a.out f.result _ _ a.invariant.0 f.ensures w.result;
      stands = stands_ill args.quiet p args.chunk.now f.result.at w.result _ (sym c.is_well.ensures ∙ c.if-not-is_well.true)
          (told-turn args.quiet p q args.chunk.now a.at a.out f.result _ _ a.invariant.0 f.ensures _ refl w.new.printer.tally w.result w.ensures);
    }

pub loop-desk-smaller : goal.loop-desk-smaller
loop-desk-smaller c =
    let args = c.args in
    let a = c.loop-desk in
    let f = c.fill-f in
    let p = point args.start (desk_of args.desk.now) args.printer.now.tally in
    let q = point a.reading (desk_of a.desk) a.printer.tally in
    filled-less args.quiet p q args.chunk.now a.at a.out f.result _ _ a.invariant.0 f.ensures (ltb-true 0 _ (sym c.is_left.ensures ∙ c.loop-desk-test.true)) (omega (arith, a.invariant.1, c.requires.out_len))

pub loop-desk-preserved : goal.loop-desk-preserved
loop-desk-preserved c =
    let args = c.args in
    let a = c.loop-desk in
    let f = c.fill-f in
    let w = c.told-state in
    let p = point args.start (desk_of args.desk.now) args.printer.now.tally in
    let q = point a.reading (desk_of a.desk) a.printer.tally in (
      stands_well args.quiet p args.chunk.now f.result.at w.result _ (sym c.is_well.ensures ∙ c.if-not-is_well.false)
          (told-turn args.quiet p q args.chunk.now a.at a.out f.result _ _ a.invariant.0 f.ensures _ refl w.new.printer.tally w.result w.ensures),
      f.auto.out ∙ a.invariant.1,
    )

pub returns : goal.returns
returns c =
    let args = c.args in
    let a = c.loop-desk in
    let p = point args.start (desk_of args.desk.now) args.printer.now.tally in
    let q = point a.reading (desk_of a.desk) a.printer.tally in
    record { kept = turn-kept args.quiet p args.chunk.now q a.at Well a.invariant.0; stands = turn-whole args.quiet p args.chunk.now q a.at a.invariant.0 (sym c.is_left.ensures ∙ c.loop-desk-test.false) }
