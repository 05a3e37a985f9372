-- ATTR_BLK: rectangles. RULES 4.5; Pan Docs, Attributes.
use Rattle.std.specs.Prelude.{Bool, ◌&&◌, cond, List, ℕ, ◌+◌, ◌-◌, ◌*◌, ◌/◌, min, length, get_or, ltb, leb}
use Rattle.bits.specs.Bit.{bit_of}
use Rattle.attribute_map.specs.Data.{palette_at, changed, steps}
use Rattle.attribute_blocks.specs.declared.BlkSet.{BlkSet}

-- strictly between, and between with both ends
abbrev pub strictly : ℕ → ℕ → ℕ → Bool
strictly a p b = ltb a p && ltb p b

abbrev pub within : ℕ → ℕ → ℕ → Bool
within a p b = leb a p && leb p b

-- the cell is strictly inside the rectangle; it is in the closed rectangle. With corners in the wrong order it is neither
abbrev pub inside : BlkSet → ℕ → ℕ → Bool
inside s x y = strictly s.x1 x s.x2 && strictly s.y1 y s.y2

abbrev pub closed : BlkSet → ℕ → ℕ → Bool
closed s x y = within s.x1 x s.x2 && within s.y1 y s.y2

-- a cell of the line, which held `old`: control bit 1 sets it; else, if just one of inside (bit 0) and outside (bit 2) is set, it follows that one
unfoldable pub on_line : ℕ → ℕ → ℕ → ℕ
on_line control palettes old =
    cond (bit_of 1 control) (palette_at 2 palettes)
    (cond (bit_of 0 control) (cond (bit_of 2 control) old (palette_at 0 palettes)) (cond (bit_of 2 control) (palette_at 4 palettes) old))

-- a cell by where it lies: inside, on the line (closed and not inside), or outside
unfoldable pub blk_pick : ℕ → ℕ → Bool → Bool → ℕ → ℕ
blk_pick control palettes inner covered old =
    cond inner (cond (bit_of 0 control) (palette_at 0 palettes) old)
    (cond covered (on_line control palettes old) (cond (bit_of 2 control) (palette_at 4 palettes) old))

unfoldable pub blk_cell : BlkSet → ℕ → ℕ → ℕ → ℕ
blk_cell s x y old = blk_pick s.control s.palettes (inside s x y) (closed s x y) old

-- set i of a command: six bytes each, from byte 2 on
unfoldable pub set_at : List ℕ → ℕ → BlkSet
set_at d i =
    let at = 2 + 6 * i in
    record {
      control = get_or d at 0;
      palettes = get_or d (at + 1) 0;
      x1 = get_or d (at + 2) 0;
      y1 = get_or d (at + 3) 0;
      x2 = get_or d (at + 4) 0;
      y2 = get_or d (at + 5) 0;
    }

-- d1 sets, or as many as the data holds whole
unfoldable pub blk_map : List ℕ → List (List ℕ) → List (List ℕ)
blk_map d m = steps (λ i. changed (blk_cell (set_at d i))) (min (get_or d 1 0) ((length d - 2) / 6)) m
