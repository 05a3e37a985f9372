-- Serves the loop that splits an input; nobody need believe it: that its steps give the input's lines (`Lines`) is proofs/Readings,
-- `split-ends` and `split-goes-on`. What `split` does: the chunk's bytes from `at` up to the next LF, or to the chunk's end, join the line
-- that is held in a buffer.
use Rattle.std.specs.Prelude.{ℕ, ◌+◌, cond, List, length, take, drop, leb}
use Rattle.std.proofs.Math.Option.{Option, none, some}
use Rattle.bits.specs.Over.{over}
use Rattle.log_line.specs.Find.{index_of}
use Rattle.log_line.specs.Line.{line_digits}
use Rattle.log_line.specs.declared.lines.Held.{Held}
use Rattle.log_line.specs.declared.lines.Held.TheVariants as H
use Rattle.log_line.specs.declared.lines.Taken.{Taken}

-- the held line of a buffer
unfoldable pub held_as : Held → List ℕ → Option (List ℕ)
held_as (H.Bytes n) line = some (take n line)
held_as H.Long line = none

-- how much of the buffer is held
abbrev pub held_size : Held → ℕ
held_size (H.Bytes n) = n
held_size H.Long = 0

-- nothing is held yet; and a line longer than any that means something, of which nothing is kept
abbrev pub nothing : Held
nothing = H.Bytes 0

abbrev pub too_long : Held
too_long = H.Long

-- the chunk's bytes up to the next LF, and where that stands
unfoldable pub up_to_lf : List ℕ → List ℕ
up_to_lf s = take (index_of 10 s) s

unfoldable pub lf_at : List ℕ → ℕ → ℕ
lf_at chunk at = at + index_of 10 (drop at chunk)

-- the bytes that are looked at at once for an LF
abbrev pub stride : ℕ
stride = 64

-- what is held after q has joined, and the buffer
unfoldable pub took_held : Held → List ℕ → Held
took_held (H.Bytes n) q = cond (leb (n + length q) line_digits) (H.Bytes (n + length q)) too_long
took_held H.Long q = too_long

unfoldable pub took_line : Held → List ℕ → List ℕ → List ℕ
took_line (H.Bytes n) q line = cond (leb (n + length q) line_digits) (over n (length q) q line) line
took_line H.Long q line = line

-- what `split` answers
unfoldable pub taken : Held → List ℕ → ℕ → Taken
taken h chunk at = record { held = took_held h (up_to_lf (drop at chunk)); at = lf_at chunk at }
