-- A page that is sent: a write completes a transfer command, and the third screen after it is the one that carries the page. What the writes
-- must be told by, and what the call with that screen leaves. RULES 5.7; where the bytes go is RULES 5.4.
use Rattle.std.specs.Prelude.{ℕ, suc, ◌≡◌, true, false, cond, List, [], ◌∷◌, ◌++◌, take, drop}
use Rattle.std.proofs.Math.Option.{Option, none, some}
use Rattle.bits.specs.Over.{part, over}
use Rattle.pulses.specs.Answer.{Answer, refused, given}
use Rattle.parts.specs.Parts.{system_at, system_bytes, files_at, files_bytes, tiles_at, half_bytes, upper_tiles_at, border_map_at, border_map_bytes, border_palettes_at, border_palettes_bytes}
use Rattle.transfer.specs.Pending.{number_of}
use Rattle.transfer.specs.declared.pending.Pending.TheVariants.{Nothing}
use Rattle.transfer.specs.declared.pending.Transfer.{Transfer}
use Rattle.transfer.specs.declared.pending.Transfer.TheVariants.{Palettes, Attributes, BorderTiles, BorderMap}
use Rattle.commands.specs.Command.{Command, plain, fixed, pal_set, attr_set, freeze, transfer, decode}
use Rattle.layout.specs.Block.{load, save}
use Rattle.layout.specs.Sgb.{Sgb, Snes}
use Rattle.rules.specs.Screen.{with_system, with_files, with_tiles, with_border}
use Rattle.order.specs.Log.{accepts}
use Rattle.unit.specs.Together.{Performed}
use Rattle.pages.specs.Pixels.{screen_of}

-- ---- what is asked of the writes and of the screens before it

-- the transfer that a command asks for
unfoldable pub transfer_of : Command → Option Transfer
transfer_of (plain c) = none
transfer_of (fixed (pal_set d)) = none
transfer_of (fixed (attr_set d)) = none
transfer_of (fixed freeze) = none
transfer_of (fixed (transfer t)) = some t

-- .. and the one that a write's answer asks for, by the command that its caller then holds (`command_held` of the crate `unit`)
unfoldable pub asked_for : Answer (Option (List ℕ)) → Option Transfer
asked_for (refused n) = none
asked_for (given none) = none
asked_for (given (some d)) = transfer_of (decode d)

unfoldable pub NoneAsked : List (Answer (Option (List ℕ))) → Type 0
NoneAsked [] = Unit {0}
NoneAsked (a ∷ rest) = (asked_for a ≡ none) × NoneAsked rest

-- the first of some writes asks for a transfer, and none of the others for any
unfoldable pub AskedFirst : Transfer → List (Answer (Option (List ℕ))) → Type 0
AskedFirst t [] = ⊥
AskedFirst t (a ∷ rest) = (asked_for a ≡ some t) × NoneAsked rest

-- how many of some screens are taken; a screen that is refused is none
unfoldable pub screens_taken : List (List ℕ) → ℕ
screens_taken [] = 0
screens_taken (x ∷ xs) = cond (accepts x) (suc (screens_taken xs)) (screens_taken xs)

-- what a screen is answered at which nothing lands
unfoldable pub nothing_landed : List ℕ → Answer (Option ℕ)
nothing_landed x = cond (accepts x) (given none) (refused 3)

-- ---- what the screen of the page leaves

-- a page in the part where its kind goes; all else stays
unfoldable pub page_in : Transfer → List ℕ → Snes → Snes
page_in Palettes page s = with_system page s
page_in Attributes page s = with_files (take files_bytes page) s
page_in (BorderTiles false) page s = with_tiles (over 0 half_bytes page s.tiles) s
page_in (BorderTiles true) page s = with_tiles (over half_bytes half_bytes page s.tiles) s
page_in BorderMap page s = with_border (take border_map_bytes page ++ take border_palettes_bytes (drop 0x800 page)) s

-- the screen is the live capture, and nothing is pending any more
unfoldable pub with_screen : List ℕ → Snes → Snes
with_screen x s = record {
  pending = Nothing;
  live = x;
  system = s.system;
  files = s.files;
  tiles = s.tiles;
  border_map = s.border_map;
  border_palettes = s.border_palettes;
}

unfoldable pub page_sent : Transfer → List ℕ → Sgb → Sgb
page_sent t page u = record { port = u.port; game = u.game; snes = page_in t page (with_screen (screen_of page) u.snes) }

-- the calls o, and then that screen: it answers the kind, and the block holds that unit
unfoldable pub then_page : Transfer → List ℕ → Performed → Performed
then_page t page o = record {
  block = save (page_sent t page (load o.block));
  buffer = o.buffer;
  replies = o.replies;
  sights = o.sights ++ (given (some (number_of t)) ∷ []);
}

-- the same of the block's own bytes
unfoldable pub LiesIn : Transfer → List ℕ → List ℕ → Type 0
LiesIn Palettes page b = part system_at system_bytes b ≡ page
LiesIn Attributes page b = part files_at files_bytes b ≡ take files_bytes page
LiesIn (BorderTiles false) page b = part tiles_at half_bytes b ≡ page
LiesIn (BorderTiles true) page b = part upper_tiles_at half_bytes b ≡ page
LiesIn BorderMap page b =
    (part border_map_at border_map_bytes b ≡ take border_map_bytes page) × (part border_palettes_at border_palettes_bytes b ≡ take border_palettes_bytes (drop 0x800 page))
