-- A part of lent bytes is where it is told to be, and is told to be nowhere exactly if it is empty.
use Prim.Native.Nat.{ℕ, ◌*◌, ◌≤◌}
use native.Mathlib.Omega.{arith}
use mathlib.Core.Path.{◌≡◌, refl}
use mathlib.Core.Bool.{Bool, true, false, cond}
use mathlib.Core.List.{List, [], ◌∷◌}
use mathlib.Core.Option.{some}
use lib.Dec.{eqb, leb}
use lib.ListN.{length, take, drop}
use borrow.Author.Tests.{eq-eqb, ne_eqb, leb-true}
use Rattle.parts.specs.Parts.{tiles_bytes, capture_bytes}
use Rattle.screen.specs.Displayed.{displayed}
use Rattle.border.specs.Tile.{tile_part}
use Rattle.export_answers.specs.Coded.{value, optional}
use Rattle.export.specs.Parts.{placed, capture, tile_at, capture_read, tile_read}

-- ---- what the length of a part tells

pub empty-placed : (p : List ℕ) (place : ℕ) → length p ≡ 0 → optional (placed p place) ≡ 128
unfolding optional placed
empty-placed p place e = rw (eq-eqb (length p) 0 e)

pub some-placed : (p : List ℕ) (place : ℕ) → (length p ≡ 0 → ⊥) → optional (placed p place) ≡ value place
unfolding optional placed
some-placed p place n = rw (ne_eqb (length p) 0 n)

pub tile-within : (tiles : List ℕ) (n : ℕ) → (length (tile_part tiles n) ≡ 0 → ⊥) → n ≤ 255
unfolding tile_part
tile-within tiles n f = go (eqb (length tiles) tiles_bytes) (leb n 255) refl f
  where
    go : (s t : Bool) → leb n 255 ≡ t → (length (cond s (cond t (take 32 (drop (n * 32) tiles)) []) []) ≡ 0 → ⊥) → n ≤ 255
    go true true e g = leb-true n 255 e
    go true false e g = absurd (g refl)
    go false t e g = absurd (g refl)

-- ---- the part is there

pub tile-read : (tiles : List ℕ) (n : ℕ) → tile_read (tile_at tiles n) tiles ≡ tile_part tiles n
unfolding tile_read tile_at placed tile_part
tile-read tiles n = go (eqb (length tiles) tiles_bytes) (leb n 255)
  where
    held : (p : List ℕ) → tile_read (some (n * 32)) tiles ≡ p → tile_read (placed p (n * 32)) tiles ≡ p
    held [] e = refl
    held (x ∷ xs) e = rw (ne_eqb (length (x ∷ xs)) 0 (λ z. omega arith)) e

    go : (s t : Bool) → let p : List ℕ = cond s (cond t (take 32 (drop (n * 32) tiles)) []) [] in tile_read (placed p (n * 32)) tiles ≡ p
    go true true = held _ refl
    go true false = refl
    go false t = refl

pub capture-read : (live frozen : List ℕ) (mode : ℕ) → capture_read (capture live frozen mode) live frozen ≡ displayed live frozen mode
unfolding capture_read capture placed displayed
capture-read live frozen mode = go (eqb (length live) capture_bytes) (eqb (length frozen) capture_bytes) (eqb mode 1)
  where
    held : (p : List ℕ) (k : ℕ) → capture_read (some k) live frozen ≡ p → capture_read (placed p k) live frozen ≡ p
    held [] k e = refl
    held (x ∷ xs) k e = rw (ne_eqb (length (x ∷ xs)) 0 (λ z. omega arith)) e

    go : (s t m : Bool) → let p : List ℕ = cond s (cond t (cond m frozen live) []) [] in capture_read (placed p (cond m 1 0)) live frozen ≡ p
    go true true true = held frozen 1 refl
    go true true false = held live 0 refl
    go true false m = refl
    go false t m = refl
