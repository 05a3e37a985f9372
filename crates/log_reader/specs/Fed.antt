-- What reading keeps: the buffers are those that the steps of `log_chunks` require, and lines are counted within the bytes that came.
use Rattle.std.specs.Prelude.{ℕ, ◌+◌, ◌≤◌, ◌≡◌, length}
use Rattle.parts.specs.Parts.{block_bytes, store_bytes, capture_bytes}
use Rattle.log_line.specs.Line.{line_digits}
use Rattle.log_chunks.specs.Steps.{Desk, Fit}
use Rattle.log_reading.specs.declared.Reading.{Reading}
use Rattle.log_reader.specs.declared.Fed.{Fed}

-- the bytes of a read, and of the text between two writes
abbrev pub chunk_bytes : ℕ
chunk_bytes = 1024

abbrev pub out_bytes : ℕ
out_bytes = 1280

-- as far as lines are counted before a read: what one more chunk brings then stays below 2^64
abbrev pub most_lines : ℕ
most_lines = 9223372036854775808

-- as many as all turns of `read_log` can bring
abbrev pub most_bytes : ℕ
most_bytes = 1152921504606846976

-- the buffers as they are lent at first
pub record LentSizes (d : Desk) : Type 0 where
  pub block_long : length d.block ≡ block_bytes
  pub line_long : length d.line ≡ line_digits
  pub bytes_long : length d.bytes ≡ capture_bytes
  pub command_long : length d.command ≡ store_bytes

pub record Kept (r : Reading) (size : ℕ) (f : Fed) (e : Desk) : Type 0 where
  pub fit : Fit f.reading e
  pub numbered : f.reading.number ≤ r.number + size
