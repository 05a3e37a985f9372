-- By the rules: a transfer that was asked for waits through two screens, whatever other commands come between, and the third lands it.
use Prim.Native.Nat.{ℕ, suc, ◌-◌, ◌<◌}
use native.Mathlib.Omega.{arith}
use mathlib.Core.Path.{◌≡◌, refl, sym, ap, ap₂, ◌∙◌}
use mathlib.Core.Bool.{Bool, true, false, cond}
use mathlib.Core.List.{List, [], ◌∷◌, ◌++◌, map}
use mathlib.Core.Option.{Option, none, some}
use borrow.Author.Tests.{lt-leb, eq-eqb}
use lib.Dec.{leb}
use lib.ListN.{length, take, drop, get_or}
use Rattle.parts.specs.Parts.{capture_bytes, files_bytes, border_map_bytes, border_palettes_bytes, half_bytes}
use Rattle.bits.specs.Over.{over}
use Rattle.pulses.specs.Answer.{given}
use Rattle.transfer.specs.Page.{page_bytes, page_of}
use Rattle.transfer.specs.Pending as pending
use Rattle.transfer.specs.Landing.{palettes_landed, files_landed, tiles_landed, map_landed}
use Rattle.transfer.specs.declared.pending.Pending.{Pending}
use Rattle.transfer.specs.declared.pending.Pending.TheVariants.{Nothing, In}
use Rattle.std.specs.Prelude.{Some, None}
use Rattle.std.specs.Prelude as code
use Rattle.transfer.specs.declared.pending.Transfer.{Transfer}
use Rattle.transfer.specs.declared.pending.Transfer.TheVariants.{Palettes, Attributes, BorderTiles, BorderMap}
use Rattle.commands.specs.Command.{Command, plain, fixed, pal_set, attr_set, freeze, transfer}
use Rattle.layout.specs.Sgb.{Sgb, Snes}
use Rattle.rules.specs.Carry.{with_pending, fixed_snes, carried_snes, carried}
use Rattle.rules.specs.Write.{meant, carries, stepped, written, answer}
use Rattle.rules.specs.Screen.{captured, with_system, with_files, with_tiles, with_border, landed, landing, shown}
use Rattle.order.specs.Log.{Act, write, screen, accepts, Seen, refused, took, seen, shown_if, sees, after_write, after_screen, run, screens_of}
use Rattle.pages.specs.Pixels.{screen_of}
use Rattle.pages.proofs.Pages.{screen_long, page-back}
use Rattle.pages_landing.specs.Sending.{transfer_of, asked_for, NoneAsked, screens_taken, page_in, with_screen, page_sent}

-- ---- writes

-- a command that asks for no transfer leaves alone what screens change
unasked : (c : Command) (s : Snes) → transfer_of c ≡ none → carried_snes c s ≡ s
unfolding transfer_of carried_snes fixed_snes
unasked (plain c) s e = refl
unasked (fixed (pal_set d)) s e = refl
unasked (fixed (attr_set d)) s e = refl
unasked (fixed freeze) s e = refl
unasked (fixed (transfer t)) s e = cc

-- one that asks for a transfer has it awaited for three screens
asked : (c : Command) (s : Snes) (t : Transfer) → transfer_of c ≡ some t → (carried_snes c s).pending ≡ In 3 t
unfolding transfer_of carried_snes fixed_snes with_pending
asked (plain c) s t e = cc
asked (fixed (pal_set d)) s t e = cc
asked (fixed (attr_set d)) s t e = cc
asked (fixed freeze) s t e = cc
asked (fixed (transfer k)) s t e = ap (In 3) (some_same k t e)
  where
    some_same : (a b : Transfer) → some a ≡ some b → a ≡ b
    some_same a b e = cc

-- what a write's answer asks for is what it carries out
asks-carries : (o : Option (List ℕ)) → asked_for (given o) ≡ transfer_of (meant o)
unfolding asked_for meant transfer_of
asks-carries none = refl
asks-carries (some d) = refl

pub asks-pending : (u : Sgb) (v : ℕ) (t : Transfer) → asked_for (given (answer u v)) ≡ some t → (written u v).snes.pending ≡ In 3 t
unfolding written carried carries stepped answer
asks-pending u v t e = asked _ u.snes t (sym (asks-carries _) ∙ e)

none-keeps : (u : Sgb) (v : ℕ) → asked_for (given (answer u v)) ≡ none → (written u v).snes ≡ u.snes
unfolding written carried carries stepped answer
none-keeps u v e = unasked _ u.snes (sym (asks-carries _) ∙ e)

-- ---- screens

-- a screen that is not the last one that is awaited
waits : (s : Snes) (x : List ℕ) (n : ℕ) (t : Transfer) → s.pending ≡ In (suc (suc n)) t → (landing s ≡ None) × ((shown s x).pending ≡ In (suc n) t)
unfolding shown landing pending.lands pending.fallen landed captured
waits s x n t e =
    let k : leb (suc (suc n)) 1 ≡ false = lt-leb (suc (suc n)) 1 (omega arith) in
    let l : landing s ≡ None = ap pending.lands e ∙ ap (λ (c : Bool). cond c (Some t) None) k in
    let less : suc (suc n) - 1 ≡ suc n = omega arith in
    let f : pending.fallen s.pending ≡ In (suc n) t = ap pending.fallen e ∙ ap₂ (λ (c : Bool) (m : ℕ). cond c Nothing (In m t)) k less in
    (l, ap (λ (w : code.Option Transfer). (landed w x (captured x s)).pending) l ∙ f)

-- what the rules answer where nothing lands
unfoldable pub unlanded : List ℕ → Seen
unlanded x = cond (accepts x) (took None) (refused 3)

-- one screen, where n more are taken behind it before the last: it is taken and nothing lands, or it is refused
wait_turn : (u : Sgb) (x : List ℕ) (n : ℕ) (t : Transfer) → u.snes.pending ≡ In (suc (cond (accepts x) (suc n) n)) t
    → ((sees u x).snes.pending ≡ In (suc n) t) × (seen u.snes x ≡ unlanded x)
unfolding sees shown_if seen unlanded
wait_turn u x n t e = go (accepts x) e
  where
    go : (c : Bool) → u.snes.pending ≡ In (suc (cond c (suc n) n)) t
        → ((cond c (shown u.snes x) u.snes).pending ≡ In (suc n) t) × (cond c (took (landing u.snes)) (refused 3) ≡ cond c (took None) (refused 3))
    go true f = let w = waits u.snes x n t f in (w.1, ap took w.0)
    go false f = (f, refl)

-- through writes that ask for nothing and screens before the last
pub waiting : (t : Transfer) (l : List Act) (u : Sgb) → u.snes.pending ≡ In (suc (screens_taken (screens_of l))) t → NoneAsked (map given (run u l).answers)
    → ((run u l).last.snes.pending ≡ In 1 t) × ((run u l).sights ≡ map unlanded (screens_of l))
unfolding run after_write after_screen screens_of screens_taken NoneAsked
waiting t [] u e q = (e, refl)
waiting t (write v ∷ l) u e q = waiting t l (written u v) (ap (λ (s : Snes). s.pending) (none-keeps u v q.0) ∙ e) q.1
waiting t (screen x ∷ l) u e q =
    let w = wait_turn u x (screens_taken (screens_of l)) t e in
    let r = waiting t l (sees u x) w.0 q in
    (r.0, λ i. w.1 i ∷ r.1 i)

-- the last screen, with a page on it
lands_page : (t : Transfer) (x page : List ℕ) (s : Snes) → page_of x ≡ page → landed (Some t) x s ≡ page_in t page s
unfolding landed page_in palettes_landed files_landed tiles_landed map_landed
lands_page Palettes x page s e = ap (λ (p : List ℕ). with_system p s) e
lands_page Attributes x page s e = ap (λ (p : List ℕ). with_files (take files_bytes p) s) e
lands_page (BorderTiles false) x page s e = ap (λ (p : List ℕ). with_tiles (over 0 half_bytes p s.tiles) s) e
lands_page (BorderTiles true) x page s e = ap (λ (p : List ℕ). with_tiles (over half_bytes half_bytes p s.tiles) s) e
lands_page BorderMap x page s e = ap (λ (p : List ℕ). with_border (take border_map_bytes p ++ take border_palettes_bytes (drop 0x800 p)) s) e

module _ (t : Transfer) (page : List ℕ) (u : Sgb) (e : u.snes.pending ≡ In 1 t) where
  due : landing u.snes ≡ Some t
  unfolding landing pending.lands
  due = ap pending.lands e

  takes : captured (screen_of page) u.snes ≡ with_screen (screen_of page) u.snes
  unfolding captured with_screen pending.fallen
  takes = ap (λ (p : Pending). record {
    pending = pending.fallen p;
    live = screen_of page;
    system = u.snes.system;
    files = u.snes.files;
    tiles = u.snes.tiles;
    border_map = u.snes.border_map;
    border_palettes = u.snes.border_palettes;
  }) e

  accepted : accepts (screen_of page) ≡ true
  unfolding accepts
  accepted = eq-eqb (length (screen_of page)) capture_bytes (screen_long page)

  -- it answers the kind
  pub third-seen : seen u.snes (screen_of page) ≡ took (Some t)
  unfolding seen
  third-seen = rw accepted (ap took due)

  -- and the page is in its part
  pub third-sent : length page ≡ page_bytes → ((i : ℕ) → get_or page i 0 < 256) → sees u (screen_of page) ≡ page_sent t page u
  unfolding sees shown_if shown page_sent
  third-sent long bytes =
      rw accepted
      (ap (λ (s : Snes). record { port = u.port; game = u.game; snes = s })
      (ap₂ (λ (w : code.Option Transfer) (s : Snes). landed w (screen_of page) s) due takes
      ∙ lands_page t (screen_of page) page (with_screen (screen_of page) u.snes) (page-back page long bytes)))

-- ---- a log, and one screen more

pub run_more : (l : List Act) (u : Sgb) (x : List ℕ)
    → run u (l ++ (screen x ∷ []))
    ≡ record { last = sees (run u l).last x; answers = (run u l).answers; sights = (run u l).sights ++ (seen (run u l).last.snes x ∷ []) }
unfolding run after_write after_screen
run_more [] u x = refl
run_more (write v ∷ l) u x = ap (after_write (answer u v)) (run_more l (written u v) x)
run_more (screen y ∷ l) u x = ap (after_screen (seen u.snes y)) (run_more l (sees u y) x)
