-- A row of the picture is that row of the whole: both have the same pixel at each column.
-- Assumes nothing.
use Prim.Native.Nat.{ℕ, ◌+◌, ◌*◌, ◌/◌, ◌%◌, ◌<◌, ◌≤◌}
use native.Mathlib.Omega.{arith}
use mathlib.Core.Path.{◌≡◌, sym, ◌∙◌, ap₂, subst}
use mathlib.Core.List.{List}
use lib.ListN.{length, take, drop, length-drop}
use lib.Seq.{ext_get_or, get_or-take, get_or-drop, length-take-le}
use Rattle.bits.proofs.Tabs.{length-tab, get_or-tab}
use Rattle.picture.specs.Picture.{Parts, pixel_at, row_of, picture_of}

pub row_of_picture : (p : Parts) (y : ℕ) → y < 224 → take 256 (drop (y * 256) (picture_of p)) ≡ row_of p y
unfolding row_of picture_of
row_of_picture p y h =
    let all : List ℕ = picture_of p in
    let long : length all ≡ 57344 = length-tab 57344 (λ k. pixel_at p (k % 256) (k / 256)) in
    let enough : 256 ≤ length (drop (y * 256) all) = simp length-drop (omega arith) in
    let n : length (take 256 (drop (y * 256) all)) ≡ 256 = length-take-le 256 (drop (y * 256) all) enough in
    ext_get_or 0 (take 256 (drop (y * 256) all)) (row_of p y) (n ∙ sym (length-tab 256 (λ x. pixel_at p x y)))
    (λ x lt.
    let less : x < 256 = subst (λ (k : ℕ). x < k) n lt in
    let inside : y * 256 + x < 57344 = omega arith in
    let column : (y * 256 + x) % 256 ≡ x = omega arith in
    let row : (y * 256 + x) / 256 ≡ y = omega arith in
    get_or-take 256 (drop (y * 256) all) x 0 less
    ∙ get_or-drop (y * 256) all x 0
    ∙ get_or-tab 57344 (λ k. pixel_at p (k % 256) (k / 256)) (y * 256 + x) inside
    ∙ ap₂ (pixel_at p) column row
    ∙ sym (get_or-tab 256 (λ x. pixel_at p x y) x less))
