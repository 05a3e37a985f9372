-- By what is told.
use Rattle.log_chunks.proofs.Stepping.{refused_yes, refused_no}
use Rattle.log_chunks.proofs.is_refused.Goals as goal

pub returns-in-Refused : goal.returns-in-Refused
returns-in-Refused c = refused_yes _ c.in-Refused.is

pub returns-in_default : goal.returns-in_default
returns-in_default c = refused_no _ c.in_default.not-Refused
