-- A colour word and the colour that a screen shows for it.
-- RULES 6.8; Pan Docs, Palettes. The ramp's 32 numbers are the Rust's `GAMMA_RAMP`.
use Rattle.std.specs.Prelude.{ℕ, ◌/◌, ◌%◌, List, [], ◌∷◌, get_or}
use Rattle.colour.specs.declared.Rgb8.{Rgb8}

unfoldable pub red : ℕ → ℕ
red w = w % 32

unfoldable pub green : ℕ → ℕ
green w = w / 32 % 32

unfoldable pub blue : ℕ → ℕ
blue w = w / 1024 % 32

-- the brightness of the levels 0 to 31
unfoldable pub gamma_ramp : List ℕ
gamma_ramp =
    0 ∷ 2 ∷ 5 ∷ 9 ∷ 15 ∷ 20 ∷ 27 ∷ 34 ∷ 42 ∷ 50 ∷ 58 ∷ 67 ∷ 76 ∷ 85 ∷ 94 ∷ 104 ∷ 114 ∷ 123 ∷ 133 ∷ 143 ∷ 153 ∷ 163 ∷ 173
    ∷ 182 ∷ 192 ∷ 202 ∷ 211 ∷ 220 ∷ 229 ∷ 238 ∷ 247 ∷ 255 ∷ []

unfoldable pub ramp : ℕ → ℕ
ramp level = get_or gamma_ramp level 0

unfoldable pub rgb8 : ℕ → Rgb8
rgb8 w = record { r = ramp (red w); g = ramp (green w); b = ramp (blue w) }
