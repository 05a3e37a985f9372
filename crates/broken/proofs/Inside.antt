-- Every byte that a rule can tell lies inside a block.
use Prim.Native.Nat.{ℕ, zero, suc, ◌+◌, ◌-◌, ◌*◌, ◌≤◌, ◌<◌}
use native.Mathlib.Omega.{arith}
use mathlib.Core.Path.{◌≡◌, refl, sym, ap, subst}
use mathlib.Core.Bool.{Bool, true, false, cond}
use mathlib.Core.List.{List, [], ◌∷◌, ◌++◌}
use mathlib.Core.Logic.{◌⊎◌, inl, inr}
use lib.Dec.{eqb, leb, lit<}
use lib.ListN.{get_or, length, drop, length-take}
use Rattle.bits.specs.Over.{part}
use Rattle.bits.proofs.Tests.{either}
use Rattle.parts.specs.Parts.{block_bytes, stage_at, received_at, bits_at, preset_on_at, frozen_on_at, spare_at, spare_bytes, packet_at, packet_bytes, store_at, store_bytes, preset_at, preset_bytes, capture_bytes, frozen_at}
use Rattle.receiver.specs.declared.Stage.{Stage}
use Rattle.receiver.specs.declared.Stage.TheVariants.{Idle, Receiving, Awaiting}
use Rattle.layout.specs.Block.{byte, stage_of}
use Rattle.broken.specs.Broken.{Asked, zero_from, zero_in, asks1, asks2, resting, clear_from, coming, first, between, later, asks_of, asks3, asks4, asks5, asks6, rules}
use Rattle.broken.specs.Told.{Tells}

unfoldable pub Within : List Asked → Type 0
Within [] = Unit {0}
Within (a ∷ l) = (a.at < block_bytes) × Within l

pub tells-within : (n : ℕ) (l : List Asked) → Within l → Tells n l → n < block_bytes
unfolding Within Tells
tells-within n [] w t = absurd t
tells-within n (a ∷ l) w (inl t) = subst (λ k. k < block_bytes) t.1 w.0
tells-within n (a ∷ l) w (inr t) = tells-within n l w.1 t

-- ---- lists of several

within-append : (k l : List Asked) → Within k → Within l → Within (k ++ l)
unfolding Within
within-append [] l v w = w
within-append (a ∷ k) l v w = (v.0, within-append k l v.1 w)

within-zero : (at : ℕ) (l : List ℕ) → at + length l ≤ block_bytes → Within (zero_from at l)
unfolding Within zero_from
within-zero at [] h = tt
within-zero at (x ∷ l) h = (omega arith, within-zero (suc at) l (omega arith))

within-clear : (n at : ℕ) (l : List ℕ) → at + length l ≤ block_bytes → Within (clear_from n at l)
unfolding Within clear_from
within-clear n at [] h = tt
within-clear n at (x ∷ l) h = (omega arith, within-clear (n - 8) (suc at) l (omega arith))

-- what is left behind some of them
within-drop : (at k : ℕ) (l : List ℕ) → at + length l ≤ block_bytes → Within (zero_from (at + k) (drop k l))
within-drop at zero l h = within-zero (at + 0) l (omega arith)
within-drop at (suc k) [] h = unfold Within zero_from in tt
within-drop at (suc k) (x ∷ l) h =
    let s : suc at + k ≡ at + suc k = omega arith in
    subst (λ i. Within (zero_from i (drop k l))) s (within-drop (suc at) k l (omega arith))

within_in : (at n : ℕ) (b : List ℕ) → at + n ≤ block_bytes → Within (zero_in at n b)
within_in at n b h = within-zero at (part at n b) (let s : length (part at n b) ≤ n = simp length-take (omega arith) in omega arith)

-- ---- the rules

module _ (b : List ℕ) where
  store-short : store_at + length (part store_at store_bytes b) ≤ block_bytes
  store-short = let s : length (part store_at store_bytes b) ≤ store_bytes = simp length-take (omega arith) in omega arith

  packet-short : packet_at + length (part packet_at packet_bytes b) ≤ block_bytes
  packet-short = let s : length (part packet_at packet_bytes b) ≤ packet_bytes = simp length-take (omega arith) in omega arith

  in-later : Within (later b)
  unfolding later Within
  in-later = (lit< tt, (lit< tt, (lit< tt, (lit< tt, within-drop store_at (16 * byte received_at b) (part store_at store_bytes b) store-short))))

  in-first : Within (first b)
  unfolding first Within
  in-first = (lit< tt, within-zero store_at (part store_at store_bytes b) store-short)

  in-stage : (s : Stage) → Within (asks_of s b)
  unfolding asks_of resting coming between Within
  in-stage Idle =
      (lit< tt, (lit< tt, (lit< tt, within-append (zero_in packet_at packet_bytes b) (zero_in store_at store_bytes b) (within-zero packet_at _ packet-short) (within-zero store_at _ store-short))))
  in-stage Receiving =
      within-append (coming b) (cond (eqb (byte received_at b) 0) (first b) (later b)) (lit< tt, within-clear (byte bits_at b) packet_at _ packet-short)
      (either Within (eqb (byte received_at b) 0) (λ _. in-first) (λ _. in-later))
  in-stage Awaiting = within-append (between b) (later b) (lit< tt, within-zero packet_at _ packet-short) in-later

  pub rules-within : (j : ℕ) → Within (get_or (rules b) j [])
  unfolding asks1 asks2 asks3 asks4 asks5 asks6 Within
  rules-within zero = (lit< tt, (lit< tt, (lit< tt, tt)))
  rules-within (suc zero) = (lit< tt, (lit< tt, (lit< tt, (lit< tt, (lit< tt, within_in spare_at spare_bytes b (omega arith))))))
  rules-within (suc (suc zero)) = either Within (leb (byte stage_at b) 2) (λ _. (lit< tt, in-stage (stage_of (byte stage_at b)))) (λ _. (lit< tt, tt))
  rules-within (suc (suc (suc zero))) = (lit< tt, (lit< tt, tt))
  rules-within (suc (suc (suc (suc zero)))) =
      either Within (eqb (byte preset_on_at b) 0) (λ _. within_in preset_at preset_bytes b (omega arith)) (λ _. tt)
  rules-within (suc (suc (suc (suc (suc zero))))) =
      (lit< tt, either Within (eqb (byte frozen_on_at b) 0) (λ _. within_in frozen_at capture_bytes b (omega arith)) (λ _. tt))
  rules-within (suc (suc (suc (suc (suc (suc j)))))) = tt
