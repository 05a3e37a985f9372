-- What came is no more than a chunk, and is fed once.
use native.Mathlib.Omega.{arith}
use lib.ListN.{length-take}
use Rattle.log_chunks.specs.Steps.{desk_of}
use Rattle.log_reader.specs.Read.{point}
use Rattle.log_reader.proofs.Outcomes.{cut_none}
use Rattle.log_reader.proofs.turn.Goals as goal

pub returns-in-Err : goal.returns-in-Err
returns-in-Err c =
    let args = c.args in
    (0, record { fit = c.requires.fit; numbered = omega arith; counts = omega arith; short = omega arith; outcome = cut_none args.quiet (point args.start.reading (desk_of args.desk.now) args.printer.now.tally) })

pub finish-requires : goal.finish-requires
finish-requires c = record { fit = c.requires.fit; number_le_most_lines = c.requires.number_le_most_lines.0; out_len = c.requires.out_len.0 }

pub returns-then-n-eq0 : goal.returns-then-n-eq0
returns-then-n-eq0 c = (0, c.finish.ensures)

pub feed-f-requires : goal.feed-f-requires
feed-f-requires c =
    record { fit = c.requires.fit; number_le_most_lines = (c.requires.number_le_most_lines.0, simp length-take (omega (arith, c.read.auto.buf, c.requires.out_len.1))); out_len = c.requires.out_len.0 }

pub overflow_add-result : goal.overflow_add-result
overflow_add-result c = omega (arith, c.requires.number_le_most_lines.1, c.in-Ok.ensures.bound.0, c.read.auto.buf, c.requires.out_len.1)

pub returns : goal.returns
returns c =
    let k = c.feed-f.ensures in
    let ran = c.in-Ok.ensures.bound in
    let n = c.in-Ok.n in (
      n,
      record {
        fit = k.kept.fit;
        numbered = omega (arith, k.kept.numbered, ran.1, ran.0, c.read.auto.buf, c.requires.out_len.1);
        counts = omega (arith, ran.1);
        short = omega (arith, ran.1, ran.0, c.read.auto.buf, c.requires.out_len.1);
        outcome = k.stands;
      },
    )
