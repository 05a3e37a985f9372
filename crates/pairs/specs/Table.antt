-- The twelve pairs of RULES 10.1. A row has what the definitions give, and then what the example says of it.
use Rattle.std.specs.Prelude.{ℕ, Bool, cond, List, [], ◌∷◌, ◌++◌, get_or, replicate}
use Rattle.parts.specs.Parts.{map_bytes}
use Rattle.bits.specs.Pair.{pair_of, packed}
use Rattle.bits.specs.Plane.{plane_of}
use Rattle.colour.specs.Colour.{rgb8}
use Rattle.colour.specs.Entry.{tile_of, palette_of, flip_x, flip_y}
use Rattle.receiver.specs.Count.{count_of}
use Rattle.commands.specs.Maps.{attr_blk}
use Rattle.commands.specs.Pads.{mlt_req}

-- a flag as a number
abbrev flag : Bool → ℕ
flag b = cond b 1 0

-- the byte that packs four shades
abbrev four : List ℕ → ℕ
four shades = packed (λ j. get_or shades j 0)

-- an ATTR_BLK of one set, in one packet
abbrev one_set : List ℕ → List ℕ
one_set set = 0x21 ∷ 1 ∷ set ++ replicate 8 0

-- the packed map whose cells are all 3
abbrev all_three : List ℕ
all_three = replicate map_bytes 0xFF

unfoldable pub table : List (List ℕ × List ℕ)
table =
    -- four first bytes, and the packets that each counts
    (count_of 0x00 ∷ [], 0 ∷ [])
    ∷ (count_of 0xEF ∷ [], 7 ∷ [])
    ∷ (count_of 0xF0 ∷ [], 1 ∷ [])
    ∷ (count_of 0xF7 ∷ [], 1 ∷ [])
    -- MLT_REQ with mask 2, which raises the index first
    ∷ ((mlt_req 2 1).index ∷ [], 2 ∷ [])
    ∷ ((mlt_req 2 3).index ∷ [], 0 ∷ [])
    -- a map word: its tile, its palette, and its two flips
    ∷ (tile_of 0x5003 ∷ palette_of 0x5003 ∷ flag (flip_x 0x5003) ∷ flag (flip_y 0x5003) ∷ [], 3 ∷ 4 ∷ 1 ∷ 0 ∷ [])
    -- a colour word at eight bits a channel
    ∷ ((rgb8 0x67BF).r ∷ (rgb8 0x67BF).g ∷ (rgb8 0x67BF).b ∷ [], 255 ∷ 238 ∷ 202 ∷ [])
    -- a packed byte, from the high pair down
    ∷ (pair_of 0x1B 0 ∷ pair_of 0x1B 1 ∷ pair_of 0x1B 2 ∷ pair_of 0x1B 3 ∷ [], 0 ∷ 1 ∷ 2 ∷ 3 ∷ [])
    -- eight shades, and their two planes
    ∷ (let a = four (0 ∷ 1 ∷ 2 ∷ 3 ∷ []) in plane_of 0 a a ∷ plane_of 1 a a ∷ [], 0x55 ∷ 0x33 ∷ [])
    -- ATTR_BLK with one corner twice, set inside alone: this cell is its line; every cell was 3
    ∷ (attr_blk (one_set (1 ∷ 0x02 ∷ 3 ∷ 3 ∷ 3 ∷ 3 ∷ [])) all_three, replicate 15 0xFF ++ 0xFE ∷ replicate 74 0xFF)
    -- ATTR_BLK with its corners crossed, set outside alone: every cell is outside
    ∷ (attr_blk (one_set (4 ∷ 0x10 ∷ 5 ∷ 0 ∷ 4 ∷ 17 ∷ [])) all_three, replicate map_bytes 0x55)
    ∷ []
