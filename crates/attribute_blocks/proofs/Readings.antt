-- RULES 4.5, ATTR_BLK, as laws of the definitions: each is a test that comes out one way.
use mathlib.Core.Path.{◌≡◌, refl}
use mathlib.Core.Bool.{Bool, true, false, cond, not-eq-not}
use Prim.Native.Nat.{ℕ, ◌<◌, ◌≤◌}
use native.Mathlib.Omega.{arith}
use borrow.Author.Tests.{ltb-true, leb-true, le-leb, lt-ltb}
use lib.Dec.{ltb, leb}
use Rattle.bits.specs.Bit.{bit_of}
use Rattle.bits.proofs.Tests.{and_both}
use Rattle.attribute_map.specs.Data.{palette_at}
use Rattle.attribute_blocks.specs.Blk.{strictly, within, inside, closed, on_line, blk_pick, blk_cell}
use Rattle.attribute_blocks.specs.declared.BlkSet.{BlkSet}

-- ---- where a cell lies

module _ (s : BlkSet) (x y : ℕ) where
  -- the cell is strictly inside, or in the closed rectangle: in numbers
  abbrev pub Inside : Type 0
  Inside = (s.x1 < x) × (x < s.x2) × (s.y1 < y) × (y < s.y2)

  abbrev pub Closed : Type 0
  Closed = (s.x1 ≤ x) × (x ≤ s.x2) × (s.y1 ≤ y) × (y ≤ s.y2)

  inside-says : inside s x y ≡ true → Inside
  inside-says e =
      let p = and_both (strictly s.x1 x s.x2) (strictly s.y1 y s.y2) e in
      let q = and_both (ltb s.x1 x) (ltb x s.x2) p.0 in
      let r = and_both (ltb s.y1 y) (ltb y s.y2) p.1 in
      (ltb-true s.x1 x q.0, ltb-true x s.x2 q.1, ltb-true s.y1 y r.0, ltb-true y s.y2 r.1)

  closed-says : closed s x y ≡ true → Closed
  closed-says e =
      let p = and_both (within s.x1 x s.x2) (within s.y1 y s.y2) e in
      let q = and_both (leb s.x1 x) (leb x s.x2) p.0 in
      let r = and_both (leb s.y1 y) (leb y s.y2) p.1 in
      (leb-true s.x1 x q.0, leb-true x s.x2 q.1, leb-true s.y1 y r.0, leb-true y s.y2 r.1)

  inside-not : (Inside → ⊥) → inside s x y ≡ false
  inside-not h = not-eq-not.0 (λ e. h (inside-says e))

  closed-not : (Closed → ⊥) → closed s x y ≡ false
  closed-not h = not-eq-not.0 (λ e. h (closed-says e))

  -- strictly between the corners both ways it is inside, which control bit 0 sets, to the palette in bits 0 and 1
  pub blk-inside : (old : ℕ) → Inside → blk_cell s x y old ≡ cond (bit_of 0 s.control) (palette_at 0 s.palettes) old
  unfolding blk_cell blk_pick
  blk-inside old (a, b, c, d) = rw (lt-ltb s.x1 x a, lt-ltb x s.x2 b, lt-ltb s.y1 y c, lt-ltb y s.y2 d)

  -- on the line: within the corners, and not inside
  pub blk-line : (old : ℕ) → Closed → (Inside → ⊥) → blk_cell s x y old ≡ on_line s.control s.palettes old
  unfolding blk_cell blk_pick
  blk-line old (a, b, c, d) h = rw (inside-not h, le-leb s.x1 x a, le-leb x s.x2 b, le-leb s.y1 y c, le-leb y s.y2 d)

  -- and what is not in it is outside, which bit 2 sets, to the palette in bits 4 and 5
  pub blk-outside : (old : ℕ) → (Closed → ⊥) → blk_cell s x y old ≡ cond (bit_of 2 s.control) (palette_at 4 s.palettes) old
  unfolding blk_cell blk_pick
  blk-outside old h = rw (inside-not (λ (a, b, c, d). h (omega arith, omega arith, omega arith, omega arith)), closed-not h)

  -- with corners in the wrong order, either way, every cell is outside
  pub crossed-x : (old : ℕ) → s.x2 < s.x1 → blk_cell s x y old ≡ cond (bit_of 2 s.control) (palette_at 4 s.palettes) old
  crossed-x old h = blk-outside old (λ (a, b, c, d). omega arith)

  pub crossed-y : (old : ℕ) → s.y2 < s.y1 → blk_cell s x y old ≡ cond (bit_of 2 s.control) (palette_at 4 s.palettes) old
  crossed-y old h = blk-outside old (λ (a, b, c, d). omega arith)

-- ---- the line's rule. c is the control byte, p the palettes, and the cell held `old`

module _ (c p old : ℕ) where
  -- bit 1 sets the line, to the palette in bits 2 and 3
  pub line_set : bit_of 1 c ≡ true → on_line c p old ≡ palette_at 2 p
  unfolding on_line
  line_set e = rw e

  -- else it follows inside, if that alone is set, or outside, if that alone is
  pub line-as-inside : bit_of 1 c ≡ false → bit_of 0 c ≡ true → bit_of 2 c ≡ false → on_line c p old ≡ palette_at 0 p
  unfolding on_line
  line-as-inside e f g = rw (e, f, g)

  pub line-as-outside : bit_of 1 c ≡ false → bit_of 0 c ≡ false → bit_of 2 c ≡ true → on_line c p old ≡ palette_at 4 p
  unfolding on_line
  line-as-outside e f g = rw (e, f, g)

  -- and with both, or with neither, it stays
  pub line_stays : bit_of 1 c ≡ false → bit_of 0 c ≡ bit_of 2 c → on_line c p old ≡ old
  unfolding on_line
  line_stays e f = rw (e, f) (go (bit_of 2 c))
    where
      go : (t : Bool) → cond t (cond t old (palette_at 0 p)) (cond t (palette_at 4 p) old) ≡ old
      go true = refl
      go false = refl
