-- V1 of the pads: an index that was masked has no bit outside the mask, whatever was masked.
use mathlib.Core.Path.{◌≡◌}
use mathlib.Core.Bool.{Bool, true, false, cond, not, ◌&&◌}
use Prim.Native.Nat.{ℕ, ◌+◌, ◌%◌, ◌≤◌}
use native.Mathlib.Omega.{arith}
use lib.Bits.{bit_and}
use Rattle.receiver.specs.Lines.{indexed, p15_high}
use Rattle.commands.specs.Pads.{mlt_req}
use Rattle.commands.proofs.Sizes.{masked-twice, mlt-masked}
use Rattle.layout.specs.Good.{GoodGame}
use Rattle.layout.specs.Sgb.{Game}
use Rattle.rules.specs.Carry.{with_pads}

pub indexed-within : (i m : ℕ) (was : Bool) (v : ℕ) → m ≤ 3 → bit_and i m ≡ i → bit_and (indexed i m was v) m ≡ indexed i m was v
unfolding indexed
indexed-within i m was v h e = go (p15_high v && not was)
  where
    go : (t : Bool) → bit_and (cond t (bit_and (i + 1) m) i) m ≡ cond t (bit_and (i + 1) m) i
    go true = masked-twice (i + 1) m (omega arith)
    go false = e

pub mlt-within : (d1 i : ℕ) → bit_and (mlt_req d1 i).index (mlt_req d1 i).mask ≡ (mlt_req d1 i).index
unfolding mlt_req
mlt-within d1 i = mlt-masked (d1 % 4) i (omega arith)

pub mlt-few : (d1 i : ℕ) → (mlt_req d1 i).mask ≤ 3
unfolding mlt_req
mlt-few d1 i = omega arith

pub pads-good : (g : Game) (i m : ℕ) → GoodGame g → m ≤ 3 → bit_and i m ≡ i → GoodGame (with_pads i m g)
unfolding with_pads
pads-good g i m h few e = record {
  mask = h.mask;
  pads = few;
  index = e;
  allowed = h.allowed;
  preset = h.preset;
  palettes = h.palettes;
  map = h.map;
  frozen = h.frozen;
}
