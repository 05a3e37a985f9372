-- A row asked for alone is that row of the whole: the first 256 words that `row` leaves stand at 256 y in what `picture` leaves, since both
-- draw one unit's parts (`picture`, proofs/Rows). RULES 6.7.
use Prim.Native.Nat.{ℕ, ◌*◌, ◌/◌, ◌%◌, ◌<◌, ◌≤◌}
use native.Mathlib.Omega.{arith}
use mathlib.Core.Path.{◌≡◌, sym, ap, ◌∙◌, refl}
use mathlib.Core.Bool.{Bool, true, false, cond}
use mathlib.Core.List.{List, ◌++◌}
use lib.Dec.{eqb, ltb, leb}
use lib.ListN.{length, take, drop, length-drop}
use lib.Seq.{take_at, take-append-le, drop-append-le}
use borrow.Author.Tests.{ltb-true}
use Rattle.bits.proofs.Tabs.{length-tab}
use Rattle.picture.specs.Picture.{Parts, pixel_at, row_of, picture_of}
use Rattle.picture.proofs.Rows.{row_of_picture}
use Rattle.pulses.specs.Answer.{Answer, refused, given}
use Rattle.parts.specs.Parts.{block_bytes}
use Rattle.layout.specs.Block.{load}
use Rattle.layout.specs.Valid.{valid}
use Rattle.broken.specs.Broken.{broken, broken_number}
use Rattle.view.specs.Refusal.{refusing}
use Rattle.block_picture.specs.Drawn.{parts_of, row_drawn, picture_drawn}
use Rattle.view.specs.Looks.{row_answer, picture_answer, leaves}
use Rattle.view.proofs.Refusals.{draws}

-- a call that draws was asked for a row of the picture
row_inside : (b : List ℕ) (y : ℕ) (out : List ℕ) → given 256 ≡ row_answer b y out → y < 224
unfolding row_answer refusing
row_inside b y out e = go (eqb (length b) block_bytes) (valid b) (ltb y 224) (broken_number (broken b)) (cond (leb 256 (length out)) (given 256) (refused 6)) refl e
  where
    go : (s t u : Bool) (n : ℕ) (a : Answer ℕ) → ltb y 224 ≡ u → given 256 ≡ cond s (cond t (cond u a (refused 4)) (refused n)) (refused 1) → y < 224
    go true true true n a p h = ltb-true y 224 p
    go true true false n a p h = let z : ◌≡◌ {A = ℕ} 0 1 = cc in absurd (omega arith)
    go true false u n a p h = let z : ◌≡◌ {A = ℕ} 0 1 = cc in absurd (omega arith)
    go false t u n a p h = let z : ◌≡◌ {A = ℕ} 0 1 = cc in absurd (omega arith)

-- what is drawn, with whatever stands behind it
drawn_alone : (p : Parts) (y : ℕ) (o w : List ℕ) → y < 224 → take 256 (row_of p y ++ o) ≡ take 256 (drop (y * 256) (picture_of p ++ w))
unfolding row_of picture_of
drawn_alone p y o w h =
    let all : List ℕ = picture_of p in
    let long : length all ≡ 57344 = length-tab 57344 (λ k. pixel_at p (k % 256) (k / 256)) in
    let start : y * 256 ≤ length all = omega arith in
    let enough : 256 ≤ length (drop (y * 256) all) = simp length-drop (omega arith) in
    take_at (row_of p y) o 256 (length-tab 256 (λ x. pixel_at p x y))
    ∙ sym (row_of_picture p y h)
    ∙ sym (take-append-le 256 (drop (y * 256) all) w enough)
    ∙ ap (take 256) (sym (drop-append-le (y * 256) all w start))

-- after the two calls on one block, each of which drew
pub row_alone : (b : List ℕ) (y : ℕ) (o w o' w' : List ℕ)
    → given 256 ≡ row_answer b y o → o' ≡ leaves (row_answer b y o) (row_drawn b y o) o
    → given 57344 ≡ picture_answer b w → w' ≡ leaves (picture_answer b w) (picture_drawn b w) w
    → take 256 o' ≡ take 256 (drop (y * 256) w')
unfolding row_drawn picture_drawn
row_alone b y o w o' w' e p f q =
    ap (take 256) (p ∙ sym (draws (row_answer b y o) (row_drawn b y o) o (row_drawn b y o) e refl).1)
    ∙ drawn_alone (parts_of (load b)) y (drop 256 o) (drop 57344 w) (row_inside b y o e)
    ∙ ap (λ (l : List ℕ). take 256 (drop (y * 256) l)) ((draws (picture_answer b w) (picture_drawn b w) w (picture_drawn b w) f refl).1 ∙ sym q)
