-- What two crates define each for its own use is one thing: a cell of the packed map, and the packets of a command.
use mathlib.Core.Path.{◌≡◌, sym, ap, ◌∙◌}
use mathlib.Core.Bool.{false}
use mathlib.Core.List.{List}
use mathlib.Core.Option.{some}
use Prim.Native.Nat.{ℕ, ◌+◌, ◌*◌, ◌/◌, ◌%◌, ◌<◌}
use native.Mathlib.Omega.{arith}
use lib.ListN.{length, get_or}
use Rattle.bits.specs.Pair.{pair_of}
use Rattle.attribute_map.specs.Map.{columns, rows, cell, Sized, pack}
use Rattle.attribute_map.specs.Map as map
use Rattle.attribute_map.proofs.Packing.{unpack-cell, unpack-pack}
use Rattle.screen.specs.Packed.{pair_at, cell_at}
use Rattle.pulses.specs.Bytes.{malformed}
use Rattle.pulses.specs.Bytes as pulses
use Rattle.pulses.proofs.Commands.{formed}
use Rattle.block_port.specs.Bytes.{packets_told}

-- the picture finds a cell by its number, the commands by its row and column: twenty cells fill five bytes
pub cell-alike : (b : List ℕ) (x y : ℕ) → cell_at b x y ≡ map.packed_cell b x y
unfolding pair_at
cell-alike b x y =
    let q : (y * 20 + x) / 4 ≡ 5 * y + x / 4 = omega arith in
    let r : (y * 20 + x) % 4 ≡ x % 4 = omega arith in
    λ t. pair_of (get_or b (q t) 0) (r t)

-- so the palette that a pixel is drawn in is the one that a command set for its cell
pub cell-drawn : {m : List (List ℕ)} → Sized m → ((x y : ℕ) → x < columns → y < rows → cell m x y < 4) → (x y : ℕ) → x < columns → y < rows
    → cell_at (pack m) x y ≡ cell m x y
cell-drawn {m} s h x y hx hy =
    cell-alike (pack m) x y ∙ sym (unpack-cell (pack m) x y hx hy) ∙ ap (λ (l : List (List ℕ)). cell l x y) (unpack-pack s h)

-- the packets that a write answers of a command are those that the command's first byte tells (refusal 5 holds the two together)
pub packets-alike : (c : List ℕ) → malformed c ≡ false → packets_told (some c) ≡ pulses.packets_in c
unfolding packets_told
packets-alike c h = let e : length c ≡ 16 * pulses.packets_in c = (formed c h).whole in omega arith
