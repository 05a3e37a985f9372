-- What the commands leave of each part: ninety bytes of map, a mode below 4, an index within its mask.
use Rattle.std.proofs.Common.{◌≡◌, ℕ, ◌+◌, ◌*◌, ◌%◌, ◌<◌, ◌≤◌, Bool, true, false, cond, eqb, ltb, List, length, sym, refl, ap, ◌∙◌, mod-eq_of_lt, arith, ltb-true}
use lib.Bits.{bit_and, and_le_r, and_mod}
use Rattle.parts.specs.Parts.{map_bytes, files_bytes}
use Rattle.bits.specs.Bit.{bit_of}
use Rattle.bits.specs.Over.{part}
use Rattle.bits.proofs.Every.{same_below₂}
use Rattle.bits.proofs.Overs.{length_part}
use Rattle.attribute_map.specs.Map.{unpack}
use Rattle.attribute_map.proofs.Packing.{length-pack}
use Rattle.attribute_blocks.specs.Blk.{blk_map}
use Rattle.attribute_cells.specs.Chr.{chr_map}
use Rattle.attributes.specs.Div.{div_map}
use Rattle.attributes.specs.Lin.{lin_map}
use Rattle.commands.specs.Files.{file_count, file_of, attr_set_map, pal_set_map}
use Rattle.commands.specs.Maps.{attr_blk, attr_lin, attr_div, attr_chr}
use Rattle.commands.specs.Mask.{cancelled}
use Rattle.commands.specs.Pads.{mlt_index}

pub length_attr_blk : (d map : List ℕ) → length (attr_blk d map) ≡ map_bytes
unfolding attr_blk
length_attr_blk d map = length-pack (blk_map d (unpack map))

pub length_attr_lin : (d map : List ℕ) → length (attr_lin d map) ≡ map_bytes
unfolding attr_lin
length_attr_lin d map = length-pack (lin_map d (unpack map))

pub length_attr-div : (d : List ℕ) → length (attr_div d) ≡ map_bytes
unfolding attr_div
length_attr-div d = length-pack (div_map d)

pub length_attr_chr : (d map : List ℕ) → length (attr_chr d map) ≡ map_bytes
unfolding attr_chr
length_attr_chr d map = length-pack (chr_map d (unpack map))

module _ (files map : List ℕ) (all : length files ≡ files_bytes) (whole : length map ≡ map_bytes) where
  length-file : (n : ℕ) → length (file_of n files map) ≡ map_bytes
  unfolding file_of
  length-file n = go (ltb n file_count) refl
    where
      go : (t : Bool) → ltb n file_count ≡ t → length (cond t (part (map_bytes * n) map_bytes files) map) ≡ map_bytes
      go true e = length_part (map_bytes * n) map_bytes files (omega (arith, ltb-true n file_count e))
      go false e = whole

  pub length-attr-set : (flags : ℕ) → length (attr_set_map flags files map) ≡ map_bytes
  unfolding attr_set_map
  length-attr-set flags = length-file (flags % 64)

  pub length_pal-set : (flags : ℕ) → length (pal_set_map flags files map) ≡ map_bytes
  unfolding pal_set_map
  length_pal-set flags = go (bit_of 7 flags)
    where
      go : (t : Bool) → length (cond t (attr_set_map flags files map) map) ≡ map_bytes
      go true = length-attr-set flags
      go false = whole

pub cancelled-le : (flags mode : ℕ) → mode ≤ 3 → cancelled flags mode ≤ 3
unfolding cancelled
cancelled-le flags mode h = go (bit_of 6 flags)
  where
    go : (t : Bool) → cond t 0 mode ≤ 3
    go true = omega arith
    go false = h

-- masked once is masked
pub masked-twice : (x m : ℕ) → m < 4 → bit_and (bit_and x m) m ≡ bit_and x m
masked-twice x m h =
    let low : bit_and x m < 4 = omega (arith, and_le_r x m) in
    let e : bit_and x m ≡ bit_and (x % 4) m = sym (mod-eq_of_lt low) ∙ and_mod x m 2 ∙ ap (λ (n : ℕ). bit_and (x % 4) n) (mod-eq_of_lt h) in
    rw e (same_below₂ 4 4 (λ a b. bit_and (bit_and a b) b) bit_and tt (x % 4) m (omega arith) h)

pub mlt-masked : (m index : ℕ) → m < 4 → bit_and (mlt_index m index) m ≡ mlt_index m index
unfolding mlt_index
mlt-masked m index h = masked-twice (cond (eqb m 2) ((index + 1) % 256) index) m h
