-- PAL_SET palette by palette: the chosen ones stand in front, and behind them what was there.
use mathlib.Core.Path.{◌≡◌, refl, ap, ◌∙◌}
use mathlib.Core.List.{List, [], ◌++◌, append-nil}
use Prim.Native.Nat.{ℕ, zero, suc, ◌+◌, ◌*◌, ◌<◌, ◌≤◌}
use native.Mathlib.Numerals.{add-one}
use native.Mathlib.Omega.{arith}
use lib.ListN.{length, drop, length-append, drop_of_length-le}
use lib.Seq.{drop-drop}
use Rattle.parts.specs.Parts.{palettes_bytes, system_bytes}
use Rattle.bits.specs.Over.{over}
use Rattle.bits.proofs.Overs.{length_part}
use Rattle.palettes.specs.Palettes.{palette_bytes, system_number, chosen, pal_set}
use Rattle.bits.proofs.Overs.{over-next}

-- the first i palettes chosen
unfoldable pub first : List ℕ → List ℕ → ℕ → List ℕ
first d system zero = []
first d system (suc i) = first d system i ++ chosen d system i

number_lt : (d : List ℕ) (i : ℕ) → system_number d i < 512
unfolding system_number
number_lt d i = omega arith

pub length-chosen : (d system : List ℕ) (i : ℕ) → length system ≡ system_bytes → length (chosen d system i) ≡ palette_bytes
unfolding chosen
length-chosen d system i e = length_part (palette_bytes * system_number d i) palette_bytes system (omega (arith, number_lt d i))

length-first : (d system : List ℕ) (i : ℕ) → length system ≡ system_bytes → length (first d system i) ≡ palette_bytes * i
unfolding first
length-first d system zero e = refl
length-first d system (suc i) e = simp length-append (omega (arith, length-first d system i e, length-chosen d system i e))

-- m is l with the first i palettes chosen
pub record Chosen (d system l m : List ℕ) (i : ℕ) : Type 0 where
  pub is : m ≡ first d system i ++ drop (palette_bytes * i) l

pub chosen_none : {d system l : List ℕ} → Chosen d system l l 0
unfolding first
chosen_none = record { is = refl }

pub chosen_more : {d system l m o : List ℕ} {i : ℕ} → Chosen d system l m i → length system ≡ system_bytes → o ≡ over (palette_bytes * i) palette_bytes (chosen d system i) m
    → Chosen d system l o (i + 1)
unfolding first
chosen_more {d} {system} {l} {m} {o} {i} c e h =
    let k : palette_bytes * i + palette_bytes ≡ palette_bytes * suc i = omega arith in
    record {
      is =
          rw add-one
          (h
          ∙ ap (over (palette_bytes * i) palette_bytes (chosen d system i)) c.is
          ∙ over-next (palette_bytes * i) palette_bytes (first d system i) (chosen d system i) (drop (palette_bytes * i) l) (length-first d system i e)
          ∙ ap (λ (z : List ℕ). first d system i ++ chosen d system i ++ z) (drop-drop palette_bytes (palette_bytes * i) l ∙ ap (λ (n : ℕ). drop n l) k));
    }

pub chosen_all : {d system l m : List ℕ} {i : ℕ} → Chosen d system l m i → i ≡ 4 → length l ≡ palettes_bytes → m ≡ pal_set d system
unfolding first pal_set
chosen_all {d} {system} {l} {m} {i} c e h =
    let long : length l ≤ palettes_bytes = omega arith in
    c.is
    ∙ (λ t. first d system (e t) ++ drop (palette_bytes * e t) l)
    ∙ ap (λ (z : List ℕ). first d system 4 ++ z) (drop_of_length-le l long)
    ∙ append-nil (first d system 4)
