-- Every command of sixteen bytes or more keeps a good unit good: each part keeps its size, and the mask has its frozen capture.
use mathlib.Core.Path.{◌≡◌, refl}
use mathlib.Core.Bool.{Bool, true, false, cond}
use mathlib.Core.List.{List, [], ◌∷◌}
use mathlib.Core.Option.{Option, none, some}
use Prim.Native.Nat.{ℕ, ◌%◌, ◌<◌, ◌≤◌}
use native.Mathlib.Omega.{arith}
use borrow.Author.Tests.{eqb-false, ne_eqb}
use lib.Dec.{lit<, lit≤, eqb}
use lib.ListN.{length, get_or}
use Rattle.parts.specs.Parts.{palettes_bytes, map_bytes, capture_bytes}
use Rattle.bits.specs.Bit.{bit_of}
use Rattle.receiver.specs.Count.{code_of}
use Rattle.palettes.proofs.Lengths.{length_pal_pair, length_pal-set}
use Rattle.commands.specs.Command as command
use Rattle.commands.specs.Command.{Command, Row, table, find, masking, decode}
use Rattle.commands.specs.Maps as maps
use Rattle.commands.specs.Mask.{cancelled}
use Rattle.commands.proofs.Sizes.{length_attr_blk, length_attr_lin, length_attr-div, length_attr_chr, length-attr-set, length_pal-set as length-pal-set-map}
use Rattle.transfer.specs.declared.pending.Transfer.{Transfer}
use Rattle.transfer.specs.declared.pending.Transfer.TheVariants.{Palettes, Attributes, BorderTiles, BorderMap}
use Rattle.layout.specs.Good.{GoodGame, GoodSnes, SizedIf}
use Rattle.layout.specs.Block.{is_held}
use Rattle.layout.specs.Valid.{mask_allows}
use Rattle.layout.specs.Sgb.{Game, Snes}
use Rattle.rules.specs.Carry.{with_palettes, with_map, with_mask, without_mask, plainly, fixedly, with_pending, fixed_snes, carried_game, carried_snes}
use Rattle.rules.proofs.Pads.{pads-good, mlt-few, mlt-within}

-- ---- one place of the game's part

pub palettes-good : (g : Game) (p : List ℕ) → GoodGame g → length p ≡ palettes_bytes → GoodGame (with_palettes p g)
unfolding with_palettes
palettes-good g p h e = record {
  mask = h.mask;
  pads = h.pads;
  index = h.index;
  allowed = h.allowed;
  preset = tt;
  palettes = e;
  map = h.map;
  frozen = h.frozen;
}

pub map-good : (g : Game) (m : List ℕ) → GoodGame g → length m ≡ map_bytes → GoodGame (with_map m g)
unfolding with_map
map-good g m h e = record {
  mask = h.mask;
  pads = h.pads;
  index = h.index;
  allowed = h.allowed;
  preset = h.preset;
  palettes = h.palettes;
  map = e;
  frozen = h.frozen;
}

pub mask-good : (g : Game) (m : ℕ) (f : Option (List ℕ)) → GoodGame g → m ≤ 3 → mask_allows m (is_held f) ≡ true → SizedIf capture_bytes f → GoodGame (with_mask m f g)
unfolding with_mask
mask-good g m f h few e k = record {
  mask = few;
  pads = h.pads;
  index = h.index;
  allowed = e;
  preset = h.preset;
  palettes = h.palettes;
  map = h.map;
  frozen = k;
}

-- a mask that is cancelled allows what there is; one that is not stays
pub unmasked-good : (g : Game) (flags : ℕ) → GoodGame g → GoodGame (without_mask flags g)
unfolding without_mask cancelled
unmasked-good g flags h = go (bit_of 6 flags)
  where
    go : (t : Bool) → GoodGame (with_mask (cond t 0 g.mask) g.frozen g)
    go true = mask-good g 0 g.frozen h (lit≤ tt) (unfold mask_allows in refl) h.frozen
    go false = mask-good g g.mask g.frozen h h.mask h.allowed h.frozen

-- PAL_SET and ATTR_SET end a mask at most: the frozen capture stays, whatever their flags
pub capture-stays : (d : List ℕ) (s : Snes) (g : Game)
    → ((fixedly (command.pal_set d) s g).frozen ≡ g.frozen) × ((fixedly (command.attr_set d) s g).frozen ≡ g.frozen)
unfolding fixedly without_mask with_mask with_map with_palettes
capture-stays d s g = (refl, refl)

-- ---- any command

-- it keeps what is good
pub record Keeps (c : Command) : Type 0 where
  pub game : (s : Snes) (g : Game) → GoodSnes s → GoodGame g → GoodGame (carried_game c s g)
  pub snes : (s : Snes) → GoodSnes s → GoodSnes (carried_snes c s)

plain-keeps : (c : command.Plain) → ((g : Game) → GoodGame g → GoodGame (plainly c g)) → Keeps (command.plain c)
unfolding carried_game carried_snes
plain-keeps c f = record { game = λ s g hs h. f g h; snes = λ s h. h }

pair_keeps : (a b : ℕ) (d : List ℕ) → a < 4 → b < 4 → 16 ≤ length d → Keeps (command.plain (command.pal_pair a b d))
unfolding plainly
pair_keeps a b d ha hb l = plain-keeps _ (λ g h. palettes-good g _ h (length_pal_pair a b d g.palettes ha hb l h.palettes))

map-keeps : (c : command.Plain) (m : List ℕ → List ℕ) → ((g : Game) → plainly c g ≡ with_map (m g.map) g) → ((l : List ℕ) → length (m l) ≡ map_bytes) → Keeps (command.plain c)
map-keeps c m e l = plain-keeps c (λ g h. rw (e g) (map-good g (m g.map) h (l g.map)))

-- a mode that is no freeze drops the frozen capture
drop_keeps : (m : ℕ) → m ≤ 3 → (m ≡ 1 → ⊥) → Keeps (command.plain (command.mask_en m))
unfolding plainly
drop_keeps m few n = plain-keeps _ (λ g h. mask-good g m none h few (allowed m n) tt)
  where
    allowed : (k : ℕ) → (k ≡ 1 → ⊥) → mask_allows k (is_held none) ≡ true
    allowed k q = unfold mask_allows is_held in go (eqb k 0)
      where
        go : (t : Bool) → cond t true (cond (eqb k 1) false true) ≡ true
        go true = refl
        go false = rw (ne_eqb k 1 q)

freeze-keeps : Keeps (command.fixed command.freeze)
unfolding carried_game carried_snes fixedly fixed_snes is_held mask_allows
freeze-keeps = record { game = λ s g hs h. mask-good g 1 (some s.live) h (lit≤ tt) refl hs.live; snes = λ s h. h }

masking-keeps : (m : ℕ) → m ≤ 3 → Keeps (masking m)
unfolding masking
masking-keeps m few = go (eqb m 1) refl
  where
    go : (t : Bool) → eqb m 1 ≡ t → Keeps (cond t (command.fixed command.freeze) (command.plain (command.mask_en m)))
    go true q = freeze-keeps
    go false q = drop_keeps m few (eqb-false m 1 q)

set_keeps : (c : command.Fixed) → ((s : Snes) (g : Game) → GoodSnes s → GoodGame g → GoodGame (fixedly c s g)) → ((s : Snes) → fixed_snes c s ≡ s) → Keeps (command.fixed c)
unfolding carried_game carried_snes
set_keeps c f e = record { game = f; snes = λ s h. rw (e s) h }

transfer-keeps : (t : Transfer) → Keeps (command.fixed (command.transfer t))
unfolding carried_game carried_snes fixedly fixed_snes with_pending
transfer-keeps t = record {
  game = λ s g hs h. h;
  snes =
      λ s h. record {
        pending = (lit≤ tt, lit≤ tt);
        live = h.live;
        system = h.system;
        files = h.files;
        tiles = h.tiles;
        border_map = h.border_map;
        border_palettes = h.border_palettes;
      };
}

-- every row of the table, and so whatever is found in it
data All (P : Command → Type 0) : List Row → Type 0 where
  no_more : All P []
  more : {r : Row} {rs : List Row} → P r.means → All P rs → All P (r ∷ rs)

find_all : (P : Command → Type 0) (k : ℕ) (rs : List Row) → All P rs → P (command.plain command.nothing) → P (find k rs)
unfolding find
find_all P k [] no_more z = z
find_all P k (r ∷ rs) (more p ps) z = either (eqb k r.code) (find_all P k rs ps z)
  where
    either : (t : Bool) → P (find k rs) → P (cond t r.means (find k rs))
    either true q = p
    either false q = q

pub command-keeps : (d : List ℕ) → 16 ≤ length d → Keeps (decode d)
unfolding decode plainly fixedly fixed_snes
command-keeps d l =
    find_all Keeps (code_of (get_or d 0 0)) (table d)
    (more (pair_keeps 0 1 d (lit< tt) (lit< tt) l)
    (more (pair_keeps 2 3 d (lit< tt) (lit< tt) l)
    (more (pair_keeps 0 3 d (lit< tt) (lit< tt) l)
    (more (pair_keeps 1 2 d (lit< tt) (lit< tt) l)
    (more (map-keeps (command.attr_blk d) (maps.attr_blk d) (λ g. refl) (length_attr_blk d))
    (more (map-keeps (command.attr_lin d) (maps.attr_lin d) (λ g. refl) (length_attr_lin d))
    (more (map-keeps (command.attr_div d) (λ m. maps.attr_div d) (λ g. refl) (λ m. length_attr-div d))
    (more (map-keeps (command.attr_chr d) (maps.attr_chr d) (λ g. refl) (length_attr_chr d))
    (more (set_keeps (command.pal_set d) pal-set (λ s. refl))
    (more (transfer-keeps Palettes)
    (more (plain-keeps (command.mlt_req (get_or d 1 0)) (λ g h. pads-good g _ _ h (mlt-few (get_or d 1 0) g.index) (mlt-within (get_or d 1 0) g.index)))
    (more (transfer-keeps (BorderTiles (bit_of 0 (get_or d 1 0))))
    (more (transfer-keeps BorderMap)
    (more (transfer-keeps Attributes)
    (more (set_keeps (command.attr_set d) attr-set (λ s. refl))
    (more (masking-keeps (get_or d 1 0 % 4) (omega arith))
    no_more))))))))))))))))
    (plain-keeps command.nothing (λ g h. h))
  where
    pal-set : (s : Snes) (g : Game) → GoodSnes s → GoodGame g → GoodGame (fixedly (command.pal_set d) s g)
    pal-set s g hs h =
        unmasked-good _ (get_or d 9 0)
        (map-good _ _ (palettes-good g _ h (length_pal-set d s.system hs.system)) (length-pal-set-map s.files g.map hs.files h.map (get_or d 9 0)))

    attr-set : (s : Snes) (g : Game) → GoodSnes s → GoodGame g → GoodGame (fixedly (command.attr_set d) s g)
    attr-set s g hs h = unmasked-good _ (get_or d 1 0) (map-good g _ h (length-attr-set s.files g.map hs.files h.map (get_or d 1 0)))

-- saying nothing keeps everything
pub nothing-keeps : Keeps (command.plain command.nothing)
unfolding plainly
nothing-keeps = plain-keeps command.nothing (λ g h. h)
