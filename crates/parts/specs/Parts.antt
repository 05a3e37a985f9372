-- Where everything stands in the unit block and how long it is. RULES 1.4 and 1.5. The code's names for the same are in
-- src/lib.rt; no file outside this crate has these numbers, which tools/numbers sees to.
use Rattle.std.specs.Prelude.{ℕ, ◌+◌, List, [], ◌∷◌}

abbrev pub block_bytes : ℕ
block_bytes = 30020

-- ---- the header: one byte each

abbrev pub mask_at : ℕ
mask_at = 0

abbrev pub index_at : ℕ
index_at = 1

abbrev pub pads_at : ℕ
pads_at = 2

abbrev pub p15_at : ℕ
p15_at = 3

abbrev pub both_at : ℕ
both_at = 4

abbrev pub stage_at : ℕ
stage_at = 5

abbrev pub expected_at : ℕ
expected_at = 6

abbrev pub received_at : ℕ
received_at = 7

abbrev pub bits_at : ℕ
bits_at = 8

abbrev pub preset_on_at : ℕ
preset_on_at = 9

abbrev pub countdown_at : ℕ
countdown_at = 10

abbrev pub kind_at : ℕ
kind_at = 11

abbrev pub frozen_on_at : ℕ
frozen_on_at = 12

-- three bytes that are zero
abbrev pub spare_at : ℕ
spare_at = 13

abbrev pub spare_bytes : ℕ
spare_bytes = 3

-- ---- the parts, by start and size

abbrev pub header_bytes : ℕ
header_bytes = 16

abbrev pub packet_at : ℕ
packet_at = 16

abbrev pub packet_bytes : ℕ
packet_bytes = 16

abbrev pub store_at : ℕ
store_at = 32

abbrev pub store_bytes : ℕ
store_bytes = 112

abbrev pub preset_at : ℕ
preset_at = 144

abbrev pub preset_bytes : ℕ
preset_bytes = 8

abbrev pub palettes_at : ℕ
palettes_at = 152

abbrev pub palettes_bytes : ℕ
palettes_bytes = 32

abbrev pub map_at : ℕ
map_at = 184

abbrev pub map_bytes : ℕ
map_bytes = 90

abbrev pub system_at : ℕ
system_at = 274

abbrev pub system_bytes : ℕ
system_bytes = 4096

abbrev pub files_at : ℕ
files_at = 4370

abbrev pub files_bytes : ℕ
files_bytes = 4050

abbrev pub live_at : ℕ
live_at = 8420

abbrev pub capture_bytes : ℕ
capture_bytes = 5760

abbrev pub frozen_at : ℕ
frozen_at = 14180

abbrev pub tiles_at : ℕ
tiles_at = 19940

abbrev pub tiles_bytes : ℕ
tiles_bytes = 8192

-- a half of the tiles, 128 of 32 bytes; they land by halves
abbrev pub half_bytes : ℕ
half_bytes = 4096

abbrev pub upper_tiles_at : ℕ
upper_tiles_at = 24036

abbrev pub border_map_at : ℕ
border_map_at = 28132

abbrev pub border_map_bytes : ℕ
border_map_bytes = 1792

abbrev pub border_palettes_at : ℕ
border_palettes_at = 29924

abbrev pub border_palettes_bytes : ℕ
border_palettes_bytes = 96

-- the border's map and its palettes land together
abbrev pub border_bytes : ℕ
border_bytes = border_map_bytes + border_palettes_bytes

-- the sizes in order; that each part starts where the one before it ends is proved in proofs/Starts
abbrev pub sizes : List ℕ
sizes =
    header_bytes ∷ packet_bytes ∷ store_bytes ∷ preset_bytes ∷ palettes_bytes ∷ map_bytes ∷ system_bytes ∷ files_bytes ∷ capture_bytes
    ∷ capture_bytes ∷ tiles_bytes ∷ border_map_bytes ∷ border_palettes_bytes ∷ []

-- how long several parts are together
abbrev pub sum : List ℕ → ℕ
sum [] = 0
sum (n ∷ ns) = n + sum ns
