-- The parts of a valid block are those of the unit that it holds, since a valid block is its unit written out (`layout`, proofs/Made).
use Prim.Native.Nat.{ℕ, ◌+◌, ◌<◌, ◌≤◌}
use native.Mathlib.Omega.{arith}
use mathlib.Core.Path.{◌≡◌, ap, ◌∙◌}
use mathlib.Core.Bool.{Bool, true, false, cond}
use mathlib.Core.List.{List, []}
use lib.Dec.{lit<, lit≤, eqb}
use lib.ListN.{length, take, get_or}
use borrow.Author.Tests.{eq-eqb}
use Rattle.bits.specs.Over.{part}
use Rattle.bits.proofs.Overs.{length_part}
use Rattle.screen.specs.Displayed.{displayed}
use Rattle.parts.specs.Parts.{block_bytes, header_bytes, live_at, capture_bytes, frozen_at, sizes, sum}
use Rattle.layout.specs.Block.{byte, header, parts, load}
use Rattle.layout.proofs.Made.{made_of, made_get, made-byte}
use Rattle.layout.specs.Valid.{Valid}
use Rattle.block_picture.specs.Drawn.{parts_of}

-- both captures have their size, so that one of them is shown
shown-long : (live frozen : List ℕ) (mode : ℕ) → length live ≡ capture_bytes → length frozen ≡ capture_bytes → length (displayed live frozen mode) ≡ capture_bytes
unfolding displayed
shown-long live frozen mode h k = rw (eq-eqb (length live) capture_bytes h, eq-eqb (length frozen) capture_bytes k) (pick (eqb mode 1))
  where
    pick : (t : Bool) → length (cond t frozen live) ≡ capture_bytes
    pick true = k
    pick false = h

module _ (b : List ℕ) (v : Valid b) where
  -- the k-th part, of its size
  pub lent : (k : ℕ) → k < 13 → sum (take k sizes) + get_or sizes k 0 ≤ block_bytes
      → (part (sum (take k sizes)) (get_or sizes k 0) b ≡ get_or (parts (load b)) k []) × (length (part (sum (take k sizes)) (get_or sizes k 0) b) ≡ get_or sizes k 0)
  lent k h fits = (made_get (made_of b v.tested) k h, length_part (sum (take k sizes)) (get_or sizes k 0) b (omega (arith, v.long)))

  -- byte j of the header
  pub header-lent : (j : ℕ) → j < header_bytes → byte j b ≡ get_or (header (load b)) j 0
  header-lent j h = made-byte (made_of b v.tested) j h

  -- the capture that is displayed under the unit's mode
  pub shown-lent : (r : List ℕ) (m : ℕ) → m ≡ (parts_of (load b)).mode → r ≡ displayed (part live_at capture_bytes b) (part frozen_at capture_bytes b) m
      → (r ≡ (parts_of (load b)).screen) × (length r ≡ capture_bytes)
  unfolding parts_of
  shown-lent r m h e =
      let live = lent 8 (lit< tt) (lit≤ tt) in
      let frozen = lent 9 (lit< tt) (lit≤ tt) in (
        e ∙ (λ t. displayed (live.0 t) (frozen.0 t) (h t)),
        ap length e ∙ shown-long (part live_at capture_bytes b) (part frozen_at capture_bytes b) m live.1 frozen.1,
      )
