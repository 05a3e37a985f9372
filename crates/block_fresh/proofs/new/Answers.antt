-- Zeros, with the preset, the system palettes and byte 9 in their places, are the block of the fresh unit.
use mathlib.Core.List.{List, [], ◌∷◌}
use mathlib.Core.Path.{sym, ap, ◌∙◌}
use Prim.Native.Nat.{ℕ}
use lib.ListN.{length, set, replicate}
use Rattle.parts.specs.Parts.{preset_on_at, preset_at, preset_bytes, system_at, system_bytes}
use Rattle.bits.specs.Over.{over}
use Rattle.layout.specs.Fresh.{word_bytes, times}
use Rattle.block_fresh.proofs.Made.{new_made, new-long}
use Rattle.block_fresh.proofs.new.Goals as goal

pub returns : goal.returns
returns c = (λ t. set (over system_at system_bytes (c.fill_system.ensures t) (c.put_palette.ensures t)) preset_on_at 1)
    ∙ ap (λ (l : List ℕ). set (over system_at system_bytes (times 512 (word_bytes (0x7FFF ∷ 0x56B5 ∷ 0x294A ∷ 0x0000 ∷ []))) (over preset_at preset_bytes (word_bytes (0x67BF ∷ 0x265B ∷ 0x10B5 ∷ 0x2866 ∷ [])) l)) preset_on_at 1)
    (c.clear.ensures ∙ ap (λ (n : ℕ). replicate n 0) c.requires)
    ∙ new_made

pub shape_of-block : goal.shape_of-block
shape_of-block c = ap length (returns c) ∙ new-long ∙ sym c.requires
