-- Where a run lies and where its palette starts: the tests of `within`, and the one backdrop that every palette of the border's table starts with.
-- Assumes nothing.
use Prim.Native.Nat.{ℕ, zero, suc, ◌+◌, ◌-◌, ◌*◌, ◌<◌, ◌≤◌}
use native.Mathlib.Nat.{not-suc-le-zero, le_of_suc-le-suc}
use native.Mathlib.Omega.{arith}
use mathlib.Core.Path.{◌≡◌, refl, sym, ◌∙◌, ap}
use mathlib.Core.Bool.{Bool, true, false, cond, ◌&&◌}
use mathlib.Core.List.{List}
use lib.Dec.{ltb, leb}
use lib.ListN.{get_or}
use borrow.Author.Tests.{leb-true, ltb-true}
use Rattle.bits.proofs.Tests.{and_left, and_right}
use Rattle.colour.specs.Entry.{palette_of}
use Rattle.border.specs.Border.{draws}
use Rattle.border.proofs.Entries.{drawn-palette}
use Rattle.picture_runs.specs.Runs.{base_of, within}

pub is_within : (c y : ℕ) → within c y ≡ true → (6 ≤ c) × (c < 26) × (40 ≤ y) × (y < 40 + 144)
unfolding within
is_within c y e =
    let x = and_left (leb 6 c && ltb c 26) (leb 40 y && ltb y (40 + 144)) e in
    let z = and_right (leb 6 c && ltb c 26) (leb 40 y && ltb y (40 + 144)) e in
    (leb-true 6 c (and_left _ _ x), ltb-true c 26 (and_right (leb 6 c) _ x), leb-true 40 y (and_left _ _ z), ltb-true y (40 + 144) (and_right (leb 40 y) _ z))

-- a word that draws
pub base-drawn : (w p : ℕ) → p ≡ palette_of w → draws w ≡ true → ((p - 4) * 16 ≡ base_of w) × ((p - 4) * 16 ≤ 32)
unfolding base_of
base-drawn w p e d =
    let q = drawn-palette w d in
    ((λ i. cond (sym d i) ((e i - 4) * 16) 0), omega (arith, e))

pub base_none : (w : ℕ) → draws w ≡ false → 0 ≡ base_of w
unfolding base_of
base_none w d = λ i. cond (sym d i) ((palette_of w - 4) * 16) 0

-- wherever a word's palette starts, the backdrop stands there
pub base-first : (border : List ℕ) (w b : ℕ) → b ≡ base_of w → get_or border 16 0 ≡ get_or border 0 0 → get_or border 32 0 ≡ get_or border 0 0 → get_or border b 0 ≡ get_or border 0 0
unfolding base_of
base-first border w b e h k = ap (λ (n : ℕ). get_or border n 0) e ∙ go (draws w) refl
  where
    at : (q : ℕ) → q < 3 → get_or border (q * 16) 0 ≡ get_or border 0 0
    at zero l = refl
    at (suc zero) l = h
    at (suc (suc zero)) l = k
    at (suc (suc (suc q))) l = absurd (not-suc-le-zero (le_of_suc-le-suc (le_of_suc-le-suc (le_of_suc-le-suc l))))

    go : (t : Bool) → draws w ≡ t → get_or border (cond t ((palette_of w - 4) * 16) 0) 0 ≡ get_or border 0 0
    go false f = refl
    go true f =
        let l = drawn-palette w f in
        let less : palette_of w - 4 < 3 = omega (arith, l.1) in
        at (palette_of w - 4) less
