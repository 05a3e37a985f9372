-- The graymap put together: pixel k of a screen is its k-th pair, and the head stands before the greys.
use Prim.Native.Nat.{ℕ, ◌+◌, ◌-◌, ◌*◌, ◌/◌, ◌%◌}
use mathlib.Core.Path.{◌≡◌, refl, ap, sym, ◌∙◌}
use mathlib.Core.List.{List}
use native.Mathlib.Omega.{arith}
use lib.ListN.{length, length-append}
use Rattle.bits.specs.Over.{over}
use Rattle.bits.specs.Tab.{tab}
use Rattle.bits.proofs.Overs.{length_over, over_all, over-rest}
use Rattle.bits.proofs.Tabs.{length-tab}
use Rattle.screen.specs.Packed.{pair_at}
use Rattle.pages_drawn.specs.Graymap.{graymap_head, grey_of, pixels, grey_at, graymap_of}
use Rattle.pages_drawn.specs.Lent.{head_bytes, file_bytes}

length-head : length graymap_head ≡ head_bytes
unfolding graymap_head
length-head = refl

pub grey-at : (screen : List ℕ) (k shade v : ℕ) → shade ≡ pair_at screen k → v ≡ grey_of shade → v ≡ grey_at screen k
unfolding grey_at
grey-at screen k shade v e f =
    let same : k ≡ k / 160 * 160 + k % 160 = omega arith in
    f ∙ ap grey_of (e ∙ ap (pair_at screen) same)

-- ---- the file

pub graymap_put : (screen b m g : List ℕ) → length b ≡ file_bytes → m ≡ over 0 head_bytes graymap_head b → g ≡ tab pixels (grey_at screen)
    → over head_bytes (length m - head_bytes) g m ≡ graymap_of screen
unfolding graymap_of
graymap_put screen b m g long em eg =
    let size : length m - head_bytes ≡ pixels = omega (arith, ap length em, length_over 0 head_bytes graymap_head b (omega arith) length-head) in
    (λ j. over head_bytes (size j) (eg j) (em j)) ∙ over-rest head_bytes pixels graymap_head (tab pixels (grey_at screen)) b length-head long

pub length_graymap : (screen : List ℕ) → length (graymap_of screen) ≡ file_bytes
unfolding graymap_of
length_graymap screen = simp (length-append, length-tab) (ap (λ (n : ℕ). n + pixels) length-head)

-- it is all of the output
pub graymap_all : (screen b m : List ℕ) → length b ≡ file_bytes → m ≡ graymap_of screen
    → m ≡ over 0 (length (graymap_of screen)) (graymap_of screen) b
graymap_all screen b m long e = e ∙ sym (over_all (length (graymap_of screen)) (graymap_of screen) b (long ∙ sym (length_graymap screen)))
