-- By the verdict.
use Rattle.std.proofs.Common.{refl, ap, arith}
use Rattle.refusal.specs.Codes.{code_or_0}
use Rattle.check_saved.specs.Verdict.{valid_line}
use Rattle.check_saved.proofs.Lines.{line-valid}
use Rattle.bits.proofs.Named.{as-value-upper_bound-out_after}
use Rattle.check_saved.proofs.verdict_line.Goals as goal

pub returns-in-Ok : goal.returns-in-Ok
unfolding valid_line
returns-in-Ok c = as-value-upper_bound-out_after (rw (ap code_or_0 c.in-Ok.is, line-valid) (refl, (omega arith, c.put.ensures)))

pub returns-in-Err : goal.returns-in-Err
returns-in-Err c =
    let line = c.refusal_line.ensures in
    as-value-upper_bound-out_after (rw (ap code_or_0 c.in-Err.is) (line.value, (line.upper_bound, line.out_after)))
