-- One LF at most, which leaves nothing held.
use mathlib.Core.List.{List}
use mathlib.Core.Path.{ap}
use Prim.Native.Nat.{ℕ}
use native.Mathlib.Omega.{arith}
use lib.ListN.{length, length-take}
use Rattle.log_chunks.specs.Steps.{desk_of}
use Rattle.log_reader.specs.Read.{point}
use Rattle.log_reader.proofs.Ending.{last-part, last-short, outcome-ends}
use Rattle.log_reader.proofs.finish.Goals as goal

pub slice_bounds-feed-end : goal.slice_bounds-feed-end
slice_bounds-feed-end c = omega (arith, c.last_lf-k.ensures, last-short c.args.start.reading)

pub feed-f-requires : goal.feed-f-requires
feed-f-requires c =
    record { fit = c.requires.fit; number_le_most_lines = (c.requires.number_le_most_lines, simp length-take (omega (arith, c.last_lf-k.ensures, last-short c.args.start.reading))); out_len = c.requires.out_len }

pub returns : goal.returns
returns c =
    let args = c.args in
    let r = args.start.reading in
    let p = point r (desk_of args.desk.now) args.printer.now.tally in
    let f = c.feed-f in
    let q = point f.result.reading (desk_of f.new.desk) f.new.printer.tally in
    let k = f.ensures in
    let one = last-part r c.last_lf-k.result c.last_lf-k.ensures in
    record {
      fit = k.kept.fit;
      numbered = omega (arith, k.kept.numbered, ap (λ (l : List ℕ). length l) one, last-short r);
      counts = omega arith;
      short = omega arith;
      outcome = outcome-ends args.quiet p q c.requires.fit k.kept.fit c.feed-f.result.state _ one k.stands;
    }
