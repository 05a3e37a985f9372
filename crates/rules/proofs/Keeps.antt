-- Every write and every screen keeps a good unit good, and so a valid block valid.
use mathlib.Core.Path.{◌≡◌, refl, ◌∙◌}
use mathlib.Core.Bool.{Bool, true, false, cond, ◌&&◌}
use mathlib.Core.List.{List}
use mathlib.Core.Option.{Option, none, some}
use Rattle.std.specs.Prelude as code
use Prim.Native.Nat.{ℕ, ◌-◌, ◌*◌, ◌/◌, ◌<◌, ◌≤◌}
use native.Mathlib.Omega.{arith}
use borrow.Author.Tests.{leb-false}
use lib.Dec.{leb}
use lib.ListN.{length, take, length-take, length-drop}
use lib.Seq.{length-take-le}
use Rattle.bits.proofs.Overs.{length_over}
use Rattle.receiver.specs.Lines.{p14_high, p15_high, both_high, pulse_of}
use Rattle.receiver.specs.Port.{Port, step_at, filed_at, answered, wrote}
use Rattle.receiver.specs.Store.{answer_of, Fits}
use Rattle.receiver.specs.declared.Done.{Done}
use Rattle.receiver.specs.declared.Done.TheVariants.{Nothing, Packet, Command}
use Rattle.receiver.proofs.Keeps.{v3-sound, wrote-v3, wrote-length}
use Rattle.receiver.proofs.Sound.{good-pulse, length-filed}
use Rattle.transfer.specs.Pending as pending
use Rattle.transfer.specs.Page.{page_bytes, page_of}
use Rattle.transfer.specs.Landing.{palettes_landed, files_landed, tiles_landed, map_landed}
use Rattle.transfer.specs.declared.pending.Pending.{Pending}
use Rattle.transfer.specs.declared.pending.Pending.TheVariants as P
use Rattle.transfer.specs.declared.pending.Transfer.{Transfer}
use Rattle.transfer.specs.declared.pending.Transfer.TheVariants.{Palettes, Attributes, BorderTiles, BorderMap}
use Rattle.transfer.proofs.Parts.{page-long, border_long}
use Rattle.parts.specs.Parts.{store_bytes, capture_bytes, tiles_bytes, half_bytes, border_bytes}
use Rattle.layout.specs.Good.{Good, GoodPort, GoodGame, GoodSnes, GoodPending}
use Rattle.layout.specs.Sgb.{Sgb, Game, Snes}
use Rattle.attribute_map.specs.Data.{Whole}
use Rattle.commands.specs.Command as command
use Rattle.rules.specs.Carry.{carried}
use Rattle.rules.specs.Write.{advanced, meant, carries, stepped, written}
use Rattle.rules.specs.Screen.{captured, with_system, with_files, with_tiles, with_border, landed, landing, shown, screened}
use Rattle.rules.proofs.Commands.{Keeps, command-keeps, nothing-keeps}
use Rattle.rules.proofs.Pads.{pads-good, indexed-within}

-- ---- a write

-- V2: both lines are high only where P15 is
lines-kept : (v : ℕ) → cond (both_high v) (p15_high v) true ≡ true
unfolding both_high
lines-kept v = go (p14_high v) (p15_high v)
  where
    go : (a b : Bool) → cond (a && b) b true ≡ true
    go true true = refl
    go true false = refl
    go false b = refl

port-kept : (p : Port) (v : ℕ) → GoodPort p → GoodPort (wrote p v)
port-kept p v h = record {
  lines = unfold wrote in lines-kept v;
  receiver = wrote-v3 p v h.store h.receiver;
  store = wrote-length p v h.store (v3-sound p.rx p.store h.receiver);
}

-- a command that is complete has 16 to 112 bytes, packet by packet
pub record Complete (d : List ℕ) : Type 0 where
  pub least : 16 ≤ length d
  pub most : length d ≤ store_bytes
  pub packets : length d ≡ 16 * (length d / 16)

-- so it is what the attribute commands take
pub complete-whole : {d : List ℕ} → Complete d → Whole d
complete-whole c = record { least = c.least; most = c.most }

abbrev pub WholeIf : Option (List ℕ) → Type 0
WholeIf none = Unit {0}
WholeIf (some d) = Complete d

front-whole : (n : ℕ) (s : List ℕ) → (0 < n) × (n < 8) → length s ≡ store_bytes → Complete (take (16 * n) s)
front-whole n s f l =
    let e : length (take (16 * n) s) ≡ 16 * n = length-take-le (16 * n) s (omega arith) in
    record { least = omega arith; most = omega arith; packets = omega arith }

pub answered-whole : (p : Port) (v : ℕ) → GoodPort p → WholeIf (answered p v)
unfolding answered
answered-whole p v h =
    let sound = v3-sound p.rx p.store h.receiver in
    let fits = (good-pulse p.rx (pulse_of v) p.both sound).1 in
    go (step_at p v).done (filed_at p v) fits (length-filed (step_at p v).done p.rx.packet p.store fits h.store)
  where
    go : (d : Done) (s : List ℕ) → Fits d → length s ≡ store_bytes → WholeIf (answer_of d s)
    go Nothing s f l = unfold answer_of in tt
    go (Packet n) s f l = unfold answer_of in tt
    go (Command n) s f l = unfold answer_of in front-whole n s f l

pub carries-keeps : (p : Port) (v : ℕ) → GoodPort p → Keeps (carries p v)
unfolding carries meant
carries-keeps p v h = go (answered p v) (answered-whole p v h)
  where
    go : (o : Option (List ℕ)) → WholeIf o → Keeps (meant o)
    go none w = nothing-keeps
    go (some d) w = command-keeps d w.least

advanced-good : (p : Port) (v : ℕ) (g : Game) → GoodGame g → GoodGame (advanced p v g)
unfolding advanced
advanced-good p v g h = pads-good g _ g.pads h h.pads (indexed-within g.index g.pads p.p15 v h.pads h.index)

pub good-stepped : (u : Sgb) (v : ℕ) → Good u → Good (stepped u v)
unfolding stepped
good-stepped u v g = record { port = port-kept u.port v g.port; game = advanced-good u.port v u.game g.game; snes = g.snes }

pub good-carried : (c : command.Command) (u : Sgb) → Keeps c → Good u → Good (carried c u)
unfolding carried
good-carried c u k g = record { port = g.port; game = k.game u.snes u.game g.snes g.game; snes = k.snes u.snes g.snes }

pub good-written : (u : Sgb) (v : ℕ) → Good u → Good (written u v)
unfolding written
good-written u v g = good-carried (carries u.port v) (stepped u v) (carries-keeps u.port v g.port) (good-stepped u v g)

-- ---- a screen

pending-kept : (p : Pending) → GoodPending p → GoodPending (pending.fallen p)
unfolding pending.fallen
pending-kept P.Nothing h = tt
pending-kept (P.In n t) h = go (leb n 1) refl
  where
    go : (b : Bool) → leb n 1 ≡ b → GoodPending (cond b P.Nothing (P.In (n - 1) t))
    go true e = tt
    go false e = let lt : 1 < n = leb-false n 1 e in (omega arith, omega arith)

pub captured-good : (x : List ℕ) (s : Snes) → length x ≡ capture_bytes → GoodSnes s → GoodSnes (captured x s)
unfolding captured
captured-good x s l h = record {
  pending = pending-kept s.pending h.pending;
  live = l;
  system = h.system;
  files = h.files;
  tiles = h.tiles;
  border_map = h.border_map;
  border_palettes = h.border_palettes;
}

tiles-good : (l : List ℕ) (s : Snes) → length l ≡ tiles_bytes → GoodSnes s → GoodSnes (with_tiles l s)
unfolding with_tiles
tiles-good l s e h = record {
  pending = h.pending;
  live = h.live;
  system = h.system;
  files = h.files;
  tiles = e;
  border_map = h.border_map;
  border_palettes = h.border_palettes;
}

landed-good : (n : code.Option Transfer) (x : List ℕ) (s : Snes) → GoodSnes s → GoodSnes (landed n x s)
unfolding landed with_system with_files with_border palettes_landed files_landed tiles_landed
landed-good code.None x s h = h
landed-good (code.Some Palettes) x s h = record {
  pending = h.pending;
  live = h.live;
  system = page-long x;
  files = h.files;
  tiles = h.tiles;
  border_map = h.border_map;
  border_palettes = h.border_palettes;
}
landed-good (code.Some Attributes) x s h = record {
  pending = h.pending;
  live = h.live;
  system = h.system;
  files = let e : length (page_of x) ≡ page_bytes = page-long x in simp length-take (omega arith);
  tiles = h.tiles;
  border_map = h.border_map;
  border_palettes = h.border_palettes;
}
landed-good (code.Some (BorderTiles false)) x s h =
    tiles-good _ s (length_over 0 half_bytes (page_of x) s.tiles (omega (arith, h.tiles)) (page-long x) ∙ h.tiles) h
landed-good (code.Some (BorderTiles true)) x s h =
    tiles-good _ s (length_over half_bytes half_bytes (page_of x) s.tiles (omega (arith, h.tiles)) (page-long x) ∙ h.tiles) h
landed-good (code.Some BorderMap) x s h = record {
  pending = h.pending;
  live = h.live;
  system = h.system;
  files = h.files;
  tiles = h.tiles;
  border_map = let e : length (map_landed x) ≡ border_bytes = border_long x in simp length-take (omega arith);
  border_palettes = let e : length (map_landed x) ≡ border_bytes = border_long x in simp length-drop (omega arith);
}

pub good-screened : (u : Sgb) (x : List ℕ) → length x ≡ capture_bytes → Good u → Good (screened u x)
good-screened u x l g =
    unfold screened shown in
    record {
      port = g.port;
      game = g.game;
      snes = landed-good (landing u.snes) x (captured x u.snes) (captured-good x u.snes l g.snes);
    }
