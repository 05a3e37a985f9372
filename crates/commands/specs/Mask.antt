-- The mask mode after PAL_SET or ATTR_SET (RULES 4.4 and 4.9; Pan Docs, System and multiplayer). MASK_EN sets the mode that its
-- byte names (Command: `masking`).
use Rattle.std.specs.Prelude.{ℕ, cond}
use Rattle.bits.specs.Bit.{bit_of}

-- PAL_SET by d9 and ATTR_SET by d1: bit 6 sets mode 0
unfoldable pub cancelled : ℕ → ℕ → ℕ
cancelled flags mode = cond (bit_of 6 flags) 0 mode
