-- A completed command, decoded from its bytes d alone. It is plain or fixed by its constructor: a fixed one reads or sets what screens
-- change (the live capture, the system palettes, the attribute files, the pending transfer), a plain one does not.
-- RULES 4.1 and 4.2; Pan Docs, Command summary.
use Rattle.std.specs.Prelude.{ℕ, ◌%◌, cond, List, [], ◌∷◌, ◌==◌, slice_index}
use Rattle.bits.specs.Bit.{bit_of}
use Rattle.receiver.specs.Count.{code_of}
use Rattle.transfer.specs.declared.pending.Transfer.{Transfer}
use Rattle.transfer.specs.declared.pending.Transfer.TheVariants.{Palettes, Attributes, BorderTiles, BorderMap}

-- a pair of palettes by their numbers; MLT_REQ by its byte; MASK_EN by the mode it sets
pub data Plain : Type 0 where
  pal_pair : ℕ → ℕ → List ℕ → Plain
  attr_blk attr_lin attr_div attr_chr : List ℕ → Plain
  mlt_req mask_en : ℕ → Plain
  nothing : Plain

-- the transfers are the kinds that can be pending
pub data Fixed : Type 0 where
  pal_set attr_set : List ℕ → Fixed
  freeze : Fixed
  transfer : Transfer → Fixed

pub data Command : Type 0 where
  plain : Plain → Command
  fixed : Fixed → Command

-- MASK_EN in mode m: a freeze reads the live capture
unfoldable pub masking : ℕ → Command
masking m = cond (m == 1) (fixed freeze) (plain (mask_en m))

-- a code of the summary, and what it stands for
pub record Row : Type 0 where
  pub code : ℕ
  pub means : Command

abbrev row : ℕ → Command → Row
row k c = record { code = k; means = c }

abbrev pub table : List ℕ → List Row
table d =
    row 0x00 (plain (pal_pair 0 1 d))  -- PAL01
    ∷ row 0x01 (plain (pal_pair 2 3 d))  -- PAL23
    ∷ row 0x02 (plain (pal_pair 0 3 d))  -- PAL03
    ∷ row 0x03 (plain (pal_pair 1 2 d))  -- PAL12
    ∷ row 0x04 (plain (attr_blk d))  -- ATTR_BLK
    ∷ row 0x05 (plain (attr_lin d))  -- ATTR_LIN
    ∷ row 0x06 (plain (attr_div d))  -- ATTR_DIV
    ∷ row 0x07 (plain (attr_chr d))  -- ATTR_CHR
    ∷ row 0x0A (fixed (pal_set d))  -- PAL_SET
    ∷ row 0x0B (fixed (transfer Palettes))  -- PAL_TRN
    ∷ row 0x11 (plain (mlt_req (slice_index d 1)))  -- MLT_REQ
    ∷ row 0x13 (fixed (transfer (BorderTiles (bit_of 0 (slice_index d 1)))))  -- CHR_TRN, bit 0 of d1: the upper half
    ∷ row 0x14 (fixed (transfer BorderMap))  -- PCT_TRN
    ∷ row 0x15 (fixed (transfer Attributes))  -- ATTR_TRN
    ∷ row 0x16 (fixed (attr_set d))  -- ATTR_SET
    ∷ row 0x17 (masking (slice_index d 1 % 4))  -- MASK_EN
    ∷ []

-- all other codes: nothing
unfoldable pub find : ℕ → List Row → Command
find k [] = plain nothing
find k (r ∷ rs) = cond (k == r.code) r.means (find k rs)

-- by the code of the first byte
unfoldable pub decode : List ℕ → Command
decode d = find (code_of (slice_index d 0)) (table d)
