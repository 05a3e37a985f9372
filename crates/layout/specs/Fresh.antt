-- The fresh units, `new` and `post_boot`. RULES 1.13.
use Rattle.std.specs.Prelude.{ℕ, zero, suc, Bool, true, false, List, [], ◌∷◌, ◌++◌, replicate}
use Rattle.std.proofs.Math.Option.{none, some}
use Rattle.bits.specs.Word.{low_byte, high_byte}
use Rattle.receiver.specs.Receive.{idle}
use Rattle.transfer.specs.declared.pending.Pending.TheVariants.{Nothing}
use Rattle.parts.specs.Parts.{store_bytes, palettes_bytes, map_bytes, files_bytes, capture_bytes, tiles_bytes, border_map_bytes, border_palettes_bytes}
use Rattle.layout.specs.Block.{save}
use Rattle.layout.specs.Sgb.{Sgb}

-- words as bytes
unfoldable pub word_bytes : List ℕ → List ℕ
word_bytes [] = []
word_bytes (w ∷ ws) = low_byte w ∷ high_byte w ∷ word_bytes ws

-- n times the same
unfoldable pub times : ℕ → List ℕ → List ℕ
times zero l = []
times (suc n) l = l ++ times n l

-- a unit with both lines high, or low
unfoldable pub fresh : Bool → Sgb
fresh high = record {
  port = record { p15 = high; both = high; rx = idle; store = replicate store_bytes 0 };
  game =
      record {
        mask = 0;
        index = 0;
        pads = 0;
        preset = some (word_bytes (0x67BF ∷ 0x265B ∷ 0x10B5 ∷ 0x2866 ∷ []));
        palettes = replicate palettes_bytes 0;
        map = replicate map_bytes 0;
        frozen = none;
      };
  snes =
      record {
        pending = Nothing;
        live = replicate capture_bytes 0;
        system = times 512 (word_bytes (0x7FFF ∷ 0x56B5 ∷ 0x294A ∷ 0x0000 ∷ []));
        files = replicate files_bytes 0;
        tiles = replicate tiles_bytes 0;
        border_map = replicate border_map_bytes 0;
        border_palettes = replicate border_palettes_bytes 0;
      };
}

unfoldable pub new : List ℕ
new = save (fresh false)

unfoldable pub post_boot : List ℕ
post_boot = save (fresh true)
