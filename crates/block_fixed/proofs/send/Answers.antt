-- What is pending goes into its two bytes.
use mathlib.Core.Path.{◌∙◌}
use Rattle.block_fixed.proofs.Carried.{sent-put}
use Rattle.block_fixed.proofs.send.Goals as goal

pub returns : goal.returns
returns c = c.store_pending.ensures ∙ sent-put _ c.requires _
