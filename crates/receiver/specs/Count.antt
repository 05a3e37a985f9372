-- How many packets a command spans, by its first byte.
-- RULES 3.8; Pan Docs, Command packet transfers. The boot ROM's header packets, F1 to FB, are one packet each.
use Rattle.std.specs.Prelude.{ℕ, ◌/◌, ◌%◌, cond, leb}

-- the code of a command
unfoldable pub code_of : ℕ → ℕ
code_of first = first / 8

unfoldable pub count_of : ℕ → ℕ
count_of first = cond (leb 0x1E (code_of first)) 1 (first % 8)
