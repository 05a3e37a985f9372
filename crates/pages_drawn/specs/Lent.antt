-- What `page` is lent.
use Rattle.std.specs.Prelude.{ℕ, ◌+◌}
use Rattle.transfer.specs.Page.{page_bytes}
use Rattle.pages_drawn.specs.Graymap.{pixels}

-- what is read at most: one byte more than a page has tells that there are too many
abbrev pub input_bytes : ℕ
input_bytes = page_bytes + 1

-- room for a graymap: the head's bytes, and the pixels
abbrev pub head_bytes : ℕ
head_bytes = 15

abbrev pub file_bytes : ℕ
file_bytes = head_bytes + pixels
