-- How it stands, by what was asked and what came of the write.
use Rattle.std.proofs.Common.{◌≡◌, ℕ, Bool, true, false, cond, List, sym, refl}
use mathlib.Core.Bool.{false≢true}
use Rattle.log_writer.specs.Tally.{Sent}
use Rattle.log_writer.specs.Told.{ToldAs}
use Rattle.log_writer.specs.declared.State.{State}
use Rattle.log_writer.specs.declared.State.TheVariants.{Well, Failed, Refused}

pub told-quiet : (quiet refused : Bool) (t : ℕ) (text : List ℕ) (s : State) → quiet ≡ true → s ≡ cond refused Refused Well → ToldAs quiet refused t text s t
unfolding ToldAs
told-quiet true refused t text s e h = (h, refl)
told-quiet false refused t text s e h = absurd (false≢true e)

pub told_loud : (quiet refused : Bool) (t : ℕ) (text : List ℕ) (s : State) (t' : ℕ) (sent : Bool) → quiet ≡ false → s ≡ cond sent Well Failed → Sent sent t text t' → ToldAs quiet refused t text s t'
unfolding ToldAs
told_loud true refused t text s t' sent e h k = absurd (false≢true (sym e))
told_loud false refused t text s t' sent e h k = (sent, (h, k))
