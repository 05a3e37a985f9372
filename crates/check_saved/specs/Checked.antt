-- What came of an input, and what was printed of it. What came stands at the front of the lent buffer: `Came`, of the crate that reads.
use Rattle.std.specs.Prelude.{ℕ, ◌+◌, Bool, List}
use Rattle.parts.specs.Parts.{block_bytes}
use Rattle.check_saved.specs.Verdict.{check_text}
use Rattle.file_reader.specs.declared.End.{End}
use Rattle.file_reader.specs.Told.{Told as told_of}
pub use Rattle.file_reader.specs.Came.{Came}

-- what is read at most: one byte more than a block has tells that there are too many
abbrev pub saved_bytes : ℕ
saved_bytes = block_bytes + 1

-- room for the longest line: two numbers of at most twenty digits, ` at ` and LF
abbrev pub line_bytes : ℕ
line_bytes = 45

-- the line of the whole input; where the buffer is full, that line however the input goes on; after a read that failed nothing
abbrev pub Told : End → Bool → List ℕ → ℕ → ℕ → Type 0
Told = told_of check_text
