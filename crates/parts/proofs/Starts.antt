-- Each part starts where the one before it ends, and together they are the block.
use mathlib.Core.Path.{◌≡◌, refl}
use mathlib.Core.List.{[], ◌∷◌, map}
use Prim.Native.Nat.{ℕ, ◌+◌}
use lib.ListN.{take}
use Rattle.parts.specs.Parts.{block_bytes, packet_at, store_at, preset_at, palettes_at, map_at, system_at, files_at, live_at, frozen_at, tiles_at, tiles_bytes, half_bytes, upper_tiles_at, border_map_at, border_palettes_at, sizes, sum}

pub starts : map (λ (k : ℕ). sum (take k sizes)) (1 ∷ 2 ∷ 3 ∷ 4 ∷ 5 ∷ 6 ∷ 7 ∷ 8 ∷ 9 ∷ 10 ∷ 11 ∷ 12 ∷ [])
    ≡ packet_at ∷ store_at ∷ preset_at ∷ palettes_at ∷ map_at ∷ system_at ∷ files_at ∷ live_at ∷ frozen_at ∷ tiles_at ∷ border_map_at ∷ border_palettes_at ∷ []
starts = refl

pub whole : sum sizes ≡ block_bytes
whole = refl

pub upper-half-starts : tiles_at + half_bytes ≡ upper_tiles_at
upper-half-starts = refl

pub halves : half_bytes + half_bytes ≡ tiles_bytes
halves = refl
