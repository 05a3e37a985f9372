-- Where the next LF stands, told by a search of a chunk up to its end: what a call of a library that searches from `at` on answers.
use Prim.Native.Nat.{ℕ, ◌+◌}
use mathlib.Core.Path.{◌≡◌, ap, ◌∙◌}
use mathlib.Core.List.{List}
use lib.ListN.{length, take, drop}
use lib.Seq.{take-length}
use Rattle.log_line.specs.Find.{index_of}
use Rattle.log_line.specs.Split.{lf_at}

pub lf_found : (chunk : List ℕ) (at e : ℕ) → e ≡ at + index_of 10 (drop at (take (length chunk) chunk)) → e ≡ lf_at chunk at
unfolding lf_at
lf_found chunk at e found = found ∙ ap (λ (l : List ℕ). at + index_of 10 (drop at l)) (take-length chunk)
