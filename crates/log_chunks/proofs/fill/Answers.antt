-- A turn is a step; what is left falls with it.
use mathlib.Core.Path.{sym, ap, ◌∙◌}
use native.Mathlib.Omega.{arith}
use borrow.Author.Rules.{rules}
use lib.ListN.{length}
use Rattle.log_chunks.specs.Steps.{desk_of, goes_on}
use Rattle.log_chunks.proofs.Fills.{goes-room}
use Rattle.log_chunks.proofs.Turns.{begins, turns, less, ends}
use Rattle.log_chunks.proofs.fill.Goals as goal

pub loop-desk-init : goal.loop-desk-init
loop-desk-init g c = begins c.args.start (desk_of c.args.desk.now) c.args.chunk.now c.args.from c.args.out.now c.requires.fit c.requires.chunk_bound.1.0

pub say-f-requires : goal.say-f-requires
say-f-requires g c =
    let a = c.loop-desk in
    let t = a.invariant in
    let more = goes-room a.f.refused a.f.size a.f.reading a.f.at (length c.args.chunk.now) (length a.out) (sym c.goes_on.ensures ∙ c.loop-desk-test.true) in
    (search rules, (t.fit, ((omega (arith, t.numbered, t.within, c.requires.chunk_bound.0), (t.within, c.requires.chunk_bound.1.1)), (more, omega (arith, a.auto.out, c.requires.out_len_bound)))))

pub loop-desk-smaller : goal.loop-desk-smaller
loop-desk-smaller g c =
    let a = c.loop-desk in
    less c.args.start (desk_of c.args.desk.now) c.args.chunk.now c.args.from c.args.out.now a.f (desk_of a.desk) a.out a.invariant (ap (goes_on a.f.refused a.f.size a.f.reading a.f.at (length c.args.chunk.now)) (sym a.auto.out) ∙ sym c.goes_on.ensures ∙ c.loop-desk-test.true) c.say-f.result _ _ c.say-f.ensures

pub loop-desk-preserved : goal.loop-desk-preserved
loop-desk-preserved g c =
    let a = c.loop-desk in
    turns c.args.start (desk_of c.args.desk.now) c.args.chunk.now c.args.from c.args.out.now a.f (desk_of a.desk) a.out a.invariant (ap (goes_on a.f.refused a.f.size a.f.reading a.f.at (length c.args.chunk.now)) (sym a.auto.out) ∙ sym c.goes_on.ensures ∙ c.loop-desk-test.true) c.say-f.result _ _ c.say-f.ensures a.auto.out

pub returns : goal.returns
returns g c =
    let a = c.loop-desk in
    ends c.args.start (desk_of c.args.desk.now) c.args.chunk.now c.args.from c.args.out.now a.f (desk_of a.desk) a.out a.invariant
    (ap (goes_on a.f.refused a.f.size a.f.reading a.f.at (length c.args.chunk.now)) (sym a.auto.out) ∙ sym c.goes_on.ensures ∙ c.loop-desk-test.false)
