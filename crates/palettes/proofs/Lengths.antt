-- Every palette command leaves 32 bytes: what it puts is as long as what it replaces.
use mathlib.Core.Path.{◌≡◌, ◌∙◌}
use mathlib.Core.List.{List}
use Prim.Native.Nat.{ℕ, ◌+◌, ◌*◌, ◌≤◌, ◌<◌}
use native.Mathlib.Omega.{arith}
use lib.ListN.{length, length-append}
use Rattle.parts.specs.Parts.{palettes_bytes, system_bytes}
use Rattle.bits.specs.Over.{part}
use Rattle.bits.proofs.Overs.{length_over, length_part}
use Rattle.palettes.specs.Palettes.{palette_bytes, first_colour, other_colours, shared, pal_pair, pal_set}
use Rattle.palettes.proofs.Choosing.{length-chosen}

length-first : (p : ℕ) (d pals : List ℕ) → palette_bytes * p + 2 ≤ length pals → 3 ≤ length d → length (first_colour p d pals) ≡ length pals
length-first p d pals h k = length_over (palette_bytes * p) 2 (part 1 2 d) pals h (length_part 1 2 d k)

length_others : (p from : ℕ) (d pals : List ℕ) → palette_bytes * p + 2 + 6 ≤ length pals → from + 6 ≤ length d → length (other_colours p from d pals) ≡ length pals
length_others p from d pals h k = length_over (palette_bytes * p + 2) 6 (part from 6 d) pals h (length_part from 6 d k)

length-shared : (d pals : List ℕ) → 16 ≤ length d → length pals ≡ palettes_bytes → length (shared d pals) ≡ palettes_bytes
unfolding shared
length-shared d pals h e =
    let one = first_colour 0 d pals in
    let two = first_colour 1 d one in
    let three = first_colour 2 d two in
    let a : length one ≡ palettes_bytes = length-first 0 d pals (omega arith) (omega arith) ∙ e in
    let b : length two ≡ palettes_bytes = length-first 1 d one (omega arith) (omega arith) ∙ a in
    let c : length three ≡ palettes_bytes = length-first 2 d two (omega arith) (omega arith) ∙ b in
    length-first 3 d three (omega arith) (omega arith) ∙ c

pub length_pal_pair : (a b : ℕ) (d pals : List ℕ) → a < 4 → b < 4 → 16 ≤ length d → length pals ≡ palettes_bytes → length (pal_pair a b d pals) ≡ palettes_bytes
unfolding pal_pair
length_pal_pair a b d pals ha hb h e =
    let s = shared d pals in
    let f = other_colours a 3 d s in
    let k : length s ≡ palettes_bytes = length-shared d pals h e in
    let l : length f ≡ palettes_bytes = length_others a 3 d s (omega arith) (omega arith) ∙ k in
    length_others b 9 d f (omega arith) (omega arith) ∙ l

pub length_pal-set : (d system : List ℕ) → length system ≡ system_bytes → length (pal_set d system) ≡ palettes_bytes
unfolding pal_set
length_pal-set d system e = simp length-append (omega (arith, length-chosen d system 0 e, length-chosen d system 1 e, length-chosen d system 2 e, length-chosen d system 3 e))
