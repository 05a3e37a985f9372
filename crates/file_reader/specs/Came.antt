-- What came of an input: it stands at the front of the lent buffer.
use Rattle.std.specs.Prelude.{ℕ, ◌≤◌, Bool, true, false, List, ◌≡◌, length}
use Rattle.file_reader.specs.declared.End.{End}
use Rattle.file_reader.specs.declared.End.TheVariants.{Ended, Full, Failed}

-- so many bytes came, and reading ends at a full buffer only where it is full
pub record Came (got : ℕ) (end : End) (file : List ℕ) : Type 0 where
  pub within : got ≤ length file
  pub full : end ≡ Full → got ≡ length file

-- no read failed
abbrev pub is_read : End → Bool
is_read Ended = true
is_read Full = true
is_read Failed = false
