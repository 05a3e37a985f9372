-- Serves the loops that read a log; nobody need believe it: `Steps` of `log_chunks` says by which laws. Where a reading begins, what is left to do,
-- and the LF that a last line may lack.
use Rattle.std.specs.Prelude.{ℕ, ◌+◌, ◌-◌, ◌*◌, cond, List, [], ◌∷◌, ltb}
use Rattle.parts.specs.Parts.{capture_bytes}
use Rattle.log_line.specs.Split.{nothing}
use Rattle.log_line.specs.declared.lines.Held.{Held}
use Rattle.log_line.specs.declared.lines.Held.TheVariants as H
use Rattle.log_reading.specs.declared.Reading.{Reading}

-- a reading begins at line 1, with nothing held
abbrev pub begun : Reading
begun = record { held = nothing; number = 1; from = 0; upto = 0 }

-- what is left to do, which falls with each step: a line's end may bring as many writes as a screen has bytes
unfoldable pub left : Reading → ℕ → ℕ → ℕ
left r size at = (size - at) * (capture_bytes + 2) + (r.upto - r.from)

-- a last line that lacks its LF gets it: the bytes to feed when the input has ended
unfoldable pub lf_behind : Held → List ℕ
lf_behind (H.Bytes n) = cond (ltb 0 n) (10 ∷ []) []
lf_behind H.Long = 10 ∷ []

unfoldable pub last_lf : Reading → List ℕ
last_lf r = lf_behind r.held
