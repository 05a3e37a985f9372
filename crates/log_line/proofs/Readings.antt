-- What a step of `split` is for, of its definition: the line that is held after it, and the input behind the place where it stopped, have the
-- lines of the input. So no byte is lost, none is taken twice, and an LF is in no line.
use Prim.Native.Nat.{ℕ, ◌+◌, ◌≤◌, ◌<◌}
use mathlib.Core.Path.{◌≡◌, sym, ap, ◌∙◌}
use mathlib.Core.Option.{Option, some}
use mathlib.Core.List.{List, [], ◌∷◌, ◌++◌}
use lib.ListN.{length, drop}
use Rattle.log_line.specs.Line.{line_digits}
use Rattle.log_line.specs.Lines.{marked_from}
use Rattle.log_line.specs.Split.{held_as, held_size, up_to_lf, took_line, taken}
use Rattle.log_line.specs.declared.lines.Held.{Held}
use Rattle.log_line.proofs.Splitting.{lines-lf, lines_end, kept-held, took-grown}

-- the line that is held after a step
abbrev pub held_then : Held → List ℕ → List ℕ → ℕ → Option (List ℕ)
held_then h line chunk at = held_as (taken h chunk at).held (took_line h (up_to_lf (drop at chunk)) line)

module _ (h : Held) (line chunk : List ℕ) (at : ℕ) (fits : held_size h ≤ line_digits) (full : length line ≡ line_digits) (inside : at ≤ length chunk) (rest : List ℕ) where
  -- it stopped at an LF: the line has ended, and the input goes on behind the LF with nothing held
  pub split-ends : (taken h chunk at).at < length chunk
      → marked_from (held_as h line) (drop at chunk ++ rest) ≡ held_then h line chunk at ∷ marked_from (some []) (drop ((taken h chunk at).at + 1) chunk ++ rest)
  unfolding taken
  split-ends l =
      lines-lf chunk at inside (held_as h line) (kept-held h line fits full) rest l
      ∙ ap (λ (o : Option (List ℕ)). o ∷ marked_from (some []) (drop ((taken h chunk at).at + 1) chunk ++ rest)) (sym (took-grown h line fits full (up_to_lf (drop at chunk))))

  -- it stopped at the chunk's end: what is held goes on in the next chunk
  pub split-goes-on : length chunk ≤ (taken h chunk at).at → marked_from (held_as h line) (drop at chunk ++ rest) ≡ marked_from (held_then h line chunk at) rest
  unfolding taken
  split-goes-on l =
      lines_end chunk at inside (held_as h line) (kept-held h line fits full) rest l
      ∙ ap (λ (o : Option (List ℕ)). marked_from o rest) (sym (took-grown h line fits full (up_to_lf (drop at chunk))))
