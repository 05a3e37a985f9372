-- The attribute commands on the ninety packed bytes: unpacked, changed, packed again.
use Rattle.std.specs.Prelude.{ℕ, List}
use Rattle.attribute_map.specs.Map.{pack, unpack}
use Rattle.attribute_blocks.specs.Blk.{blk_map}
use Rattle.attribute_cells.specs.Chr.{chr_map}
use Rattle.attributes.specs.Div.{div_map}
use Rattle.attributes.specs.Lin.{lin_map}

unfoldable pub attr_blk : List ℕ → List ℕ → List ℕ
attr_blk d map = pack (blk_map d (unpack map))

unfoldable pub attr_lin : List ℕ → List ℕ → List ℕ
attr_lin d map = pack (lin_map d (unpack map))

-- what the map held is gone
unfoldable pub attr_div : List ℕ → List ℕ
attr_div d = pack (div_map d)

unfoldable pub attr_chr : List ℕ → List ℕ → List ℕ
attr_chr d map = pack (chr_map d (unpack map))
