-- What each landing leaves in the part that it goes to. RULES 5.4.
-- Pan Docs, Palettes (PAL_TRN), Attributes (ATTR_TRN), Border (CHR_TRN, PCT_TRN).
use Rattle.std.specs.Prelude.{ℕ, List, ◌++◌, take, drop}
use Rattle.parts.specs.Parts.{files_bytes, border_map_bytes, border_palettes_bytes}
use Rattle.transfer.specs.Page.{page_of}

-- 512 palettes of four words
unfoldable pub palettes_landed : List ℕ → List ℕ
palettes_landed screen = page_of screen

-- 45 files of 90 bytes
unfoldable pub files_landed : List ℕ → List ℕ
files_landed screen = take files_bytes (page_of screen)

-- half of the border's tiles: 128 of 32 bytes
unfoldable pub tiles_landed : List ℕ → List ℕ
tiles_landed screen = page_of screen

-- the border's map, 32 by 28 words, then its three palettes of sixteen words, which the page has from 800 hex on
unfoldable pub map_landed : List ℕ → List ℕ
map_landed screen = take border_map_bytes (page_of screen) ++ take border_palettes_bytes (drop 0x800 (page_of screen))
