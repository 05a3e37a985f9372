-- The joypad index and its mask (RULES 4.10; Pan Docs, System and multiplayer).
use Rattle.std.specs.Prelude.{ℕ, ◌+◌, ◌%◌, cond, ◌==◌, bit_and}
use Rattle.commands.specs.declared.joypads.Pads.{Pads}

-- MLT_REQ asks for mask m: for 2 the index is raised by 1, as a byte that wraps at 256, before it is masked
unfoldable pub mlt_index : ℕ → ℕ → ℕ
mlt_index m index = bit_and (cond (m == 2) ((index + 1) % 256) index) m

-- m is d1 AND 3
unfoldable pub mlt_req : ℕ → ℕ → Pads
mlt_req d1 index = record { index = mlt_index (d1 % 4) index; mask = d1 % 4 }
