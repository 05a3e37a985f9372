-- The fresh units are good, so `new` and `post_boot` are valid blocks.
use mathlib.Core.Path.{◌≡◌, refl}
use mathlib.Core.Bool.{Bool, true, false, cond}
use mathlib.Core.List.{List, [], ◌∷◌}
use Prim.Native.Nat.{ℕ, zero, suc, ◌*◌}
use native.Mathlib.Omega.{arith}
use lib.Dec.{lit≤}
use lib.ListN.{length, replicate, length-append, length-replicate}
use Rattle.bits.proofs.Zeros.{replicate-zeros}
use Rattle.receiver.specs.Receive.{idle}
use Rattle.parts.specs.Parts.{store_bytes, palettes_bytes, map_bytes, files_bytes, capture_bytes, tiles_bytes, border_map_bytes, border_palettes_bytes}
use Rattle.layout.specs.Block.{is_held}
use Rattle.layout.specs.Valid.{mask_allows, valid}
use Rattle.layout.specs.Good.{Good}
use Rattle.layout.specs.Fresh.{word_bytes, times, fresh, new, post_boot}
use Rattle.layout.proofs.Goods.{good-valid}

length-zeros : (n : ℕ) → length (replicate {A = ℕ} n 0) ≡ n
length-zeros n = length-replicate {A = ℕ} n 0

pub length-times : (n : ℕ) (l : List ℕ) → length (times n l) ≡ n * length l
unfolding times
length-times zero l = omega arith
length-times (suc n) l = let e : length (times n l) ≡ n * length l = length-times n l in simp length-append (omega arith)

lines_agree : (high : Bool) → ◌≡◌ {A = Bool} (cond high high true) true
lines_agree true = refl
lines_agree false = refl

pub fresh-good : (high : Bool) → Good (fresh high)
unfolding fresh idle word_bytes is_held mask_allows
fresh-good high = record {
  port =
      record {
        lines = lines_agree high;
        receiver = record { expected = refl; received = refl; bits = refl; packet = refl; store = replicate-zeros store_bytes };
        store = length-zeros store_bytes;
      };
  game =
      record {
        mask = lit≤ tt;
        pads = lit≤ tt;
        index = refl;
        allowed = refl;
        preset = refl;
        palettes = length-zeros palettes_bytes;
        map = length-zeros map_bytes;
        frozen = tt;
      };
  snes =
      record {
        pending = tt;
        live = length-zeros capture_bytes;
        system = length-times 512 (word_bytes (0x7FFF ∷ 0x56B5 ∷ 0x294A ∷ 0x0000 ∷ []));
        files = length-zeros files_bytes;
        tiles = length-zeros tiles_bytes;
        border_map = length-zeros border_map_bytes;
        border_palettes = length-zeros border_palettes_bytes;
      };
}

pub new-valid : valid new ≡ true
unfolding new
new-valid = good-valid (fresh false) (fresh-good false)

pub post_boot-valid : valid post_boot ≡ true
unfolding post_boot
post_boot-valid = good-valid (fresh true) (fresh-good true)
