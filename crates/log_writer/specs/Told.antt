-- How a reading stands behind a fill of which a text was made, and the tally of what was written.
use Rattle.std.specs.Prelude.{◌≡◌, ℕ, Bool, true, false, cond, List}
use Rattle.log_writer.specs.Tally.{Sent}
use Rattle.log_writer.specs.declared.State.{State}
use Rattle.log_writer.specs.declared.State.TheVariants.{Well, Failed, Refused}

-- the state behind a fill and its tally: quiet, by whether a line was refused; else by whether the text went out
unfoldable pub ToldAs : Bool → Bool → ℕ → List ℕ → State → ℕ → Type 0
ToldAs true refused t text s t' = (s ≡ cond refused Refused Well) × (t' ≡ t)
ToldAs false refused t text s t' = (sent : Bool) × ((s ≡ cond sent Well Failed) × Sent sent t text t')
