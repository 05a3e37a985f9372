-- What is printed, worked out: what the head tells, the four greys, the first row of a page's first tile, and the line of no page.
use Prim.Native.Nat.{◌/◌}
use mathlib.Core.Path.{◌≡◌, refl}
use mathlib.Core.List.{[], ◌∷◌, ◌++◌}
use Rattle.bits.specs.Bit.{bit_at}
use Rattle.bits.specs.Pair.{pair_of, packed}
use Rattle.bits.specs.Plane.{shade_by}
use Rattle.bits.specs.Tab.{tab_from, tab}
use Rattle.screen.specs.Packed.{pair_at}
use Rattle.pages.specs.Pixels.{page_shade, screen_of}
use Rattle.log_text.specs.Text.{lf, places_from, decimal_text, number_line}
use Rattle.pages_drawn.specs.Graymap.{graymap_head, grey_of, pixels, grey_at, page_text}

-- 160 columns, as many rows as the pixels make, and the grey of shade 0
of-head : graymap_head ≡ (80 ∷ 53 ∷ lf) ++ (decimal_text 160 ++ ((32 ∷ decimal_text (pixels / 160)) ++ (lf ++ (decimal_text (grey_of 0) ++ lf))))
unfolding graymap_head grey_of decimal_text places_from
of-head = refl

of-shades : grey_of 0 ∷ grey_of 1 ∷ grey_of 2 ∷ grey_of 3 ∷ [] ≡ 255 ∷ 170 ∷ 85 ∷ 0 ∷ []
unfolding grey_of
of-shades = refl

-- a page that begins with 3C and 7E in hexadecimal: shades 0, 2, 3, 3, 3, 3, 2, 0
of-first-row : tab 8 (grey_at (screen_of (0x3C ∷ 0x7E ∷ []))) ≡ 255 ∷ 85 ∷ 0 ∷ 0 ∷ 0 ∷ 0 ∷ 85 ∷ 255 ∷ []
unfolding tab tab_from grey_at grey_of pair_at pair_of screen_of packed page_shade shade_by bit_at
of-first-row = refl

-- `10`
of_no_page : page_text [] ≡ 49 ∷ 48 ∷ 10 ∷ []
unfolding page_text number_line decimal_text places_from
of_no_page = refl
