-- A page that is sent lands, over the public calls: from any valid block and with room for a command, a write that answers a transfer command, two
-- screens of any content, then the one that carries the page, with writes between that complete no other transfer command.
use Prim.Native.Nat.{ℕ, suc, ◌-◌, ◌<◌, ◌≤◌}
use native.Mathlib.Omega.{arith}
use mathlib.Core.Path.{◌≡◌, refl, sym, ap, subst, ◌∙◌}
use mathlib.Core.Bool.{Bool, true, false, cond}
use mathlib.Core.List.{List, [], ◌∷◌, ◌++◌, map, map-append}
use mathlib.Core.Option.{none, some}
use lib.ListN.{length, take, drop, get_or, length-take}
use lib.Seq.{take-take, drop-drop, take_at, drop_at, length-take-le}
use Rattle.bits.specs.Over.{part, over}
use Rattle.bits.proofs.Overs.{drop-take}
use Rattle.pulses.specs.Answer.{refused, given}
use Rattle.parts.specs.Parts.{store_bytes, tiles_at, tiles_bytes, half_bytes, upper_tiles_at, border_map_bytes, border_palettes_bytes}
use Rattle.transfer.specs.Page.{page_bytes}
use Rattle.transfer.specs.Pending.{landed_of, number_of}
use Rattle.transfer.specs.declared.pending.Pending.TheVariants.{In}
use Rattle.std.specs.Prelude.{Result, Ok, None}
use Rattle.refusal.specs.declared.Refusal.{Refusal}
use Rattle.transfer.specs.declared.pending.Transfer.{Transfer}
use Rattle.transfer.specs.declared.pending.Transfer.TheVariants.{Palettes, Attributes, BorderTiles, BorderMap}
use Rattle.layout.specs.Block.{load, save}
use Rattle.layout.specs.Good.{Good}
use Rattle.layout.specs.Sgb.{Sgb}
use Rattle.layout.specs.Valid.{valid}
use Rattle.layout.proofs.Goods.{valid-good, good-back}
use Rattle.rules.specs.Screen.{with_system, with_files, with_tiles, with_border}
use Rattle.order.specs.Log as log
use Rattle.order.specs.Log.{Act, write, screen, accepts, sees, seen, Outcome, run, after_write, screens_of}
use Rattle.order.specs.Blocks.{Called}
use Rattle.order.proofs.BlockOrder.{saved, calls-saved, run-good}
use Rattle.rules.specs.Write.{written}
use Rattle.unit.specs.Together.{Reply, command_held, Performed, performed, replies_of, buffer_after, sight_of, performed_by}
use Rattle.unit.proofs.Together.{performed-calls, replies-commands}
use Rattle.unit.proofs.Allowed.{Allowed, allowed-performed}
use Rattle.pages.specs.Pixels.{screen_of, page_screen_answer, page_screen_left}
use Rattle.pages.proofs.Calling.{page-given}
use Rattle.pages.proofs.page_screen.Reads as page-screen
use Rattle.pages_landing.specs.Sending.{AskedFirst, screens_taken, nothing_landed, page_in, with_screen, page_sent, then_page, LiesIn}
use Rattle.pages_landing.proofs.Waiting.{asks-pending, waiting, unlanded, third-seen, third-sent, run_more}

-- ---- the bytes of a part

part-over : (at n : ℕ) (ys b : List ℕ) → at ≤ length b → length ys ≡ n → part at n (over at n ys b) ≡ ys
part-over at n ys b h e =
    ap (take n) (drop_at (take at b) (ys ++ drop n (drop at b)) at (length-take-le at b h)) ∙ take_at ys (drop n (drop at b)) n e

lower-half : (b : List ℕ) → part tiles_at half_bytes b ≡ part 0 half_bytes (part tiles_at tiles_bytes b)
lower-half b = sym (take-take half_bytes tiles_bytes (drop tiles_at b) (omega arith))

upper-half : (b : List ℕ) → part upper_tiles_at half_bytes b ≡ part half_bytes half_bytes (part tiles_at tiles_bytes b)
upper-half b =
    sym
    (ap (take half_bytes) (drop-take half_bytes tiles_bytes (drop tiles_at b))
    ∙ take-take half_bytes (tiles_bytes - half_bytes) (drop half_bytes (drop tiles_at b)) (omega arith)
    ∙ ap (take half_bytes) (drop-drop half_bytes tiles_at b))

lies : (t : Transfer) (page : List ℕ) (u : Sgb) (b : List ℕ) → load b ≡ page_sent t page u → length page ≡ page_bytes → length u.snes.tiles ≡ tiles_bytes → LiesIn t page b
unfolding LiesIn load page_sent page_in with_screen with_system with_files with_tiles with_border
lies Palettes page u b e long tiles = ap (λ (w : Sgb). w.snes.system) e
lies Attributes page u b e long tiles = ap (λ (w : Sgb). w.snes.files) e
lies (BorderTiles false) page u b e long tiles =
    lower-half b ∙ ap (λ (w : Sgb). part 0 half_bytes w.snes.tiles) e ∙ part-over 0 half_bytes page u.snes.tiles (omega arith) long
lies (BorderTiles true) page u b e long tiles =
    upper-half b ∙ ap (λ (w : Sgb). part half_bytes half_bytes w.snes.tiles) e ∙ part-over half_bytes half_bytes page u.snes.tiles (omega arith) long
lies BorderMap page u b e long tiles =
    let n : length (take border_map_bytes page) ≡ border_map_bytes = simp length-take (omega arith) in
    let rest : List ℕ = take border_palettes_bytes (drop 0x800 page) in (
      ap (λ (w : Sgb). w.snes.border_map) e ∙ take_at (take border_map_bytes page) rest border_map_bytes n,
      ap (λ (w : Sgb). w.snes.border_palettes) e ∙ drop_at (take border_map_bytes page) rest border_map_bytes n,
    )

sights_none : (xs : List (List ℕ)) → map sight_of (map unlanded xs) ≡ map nothing_landed xs
unfolding unlanded nothing_landed
sights_none [] = refl
sights_none (x ∷ xs) = λ i. one (accepts x) i ∷ sights_none xs i
  where
    one : (c : Bool) → sight_of (cond c (log.took None) (log.refused 3)) ≡ cond c (given none) (refused 3)
    one true = unfold sight_of landed_of in refl
    one false = unfold sight_of in refl

-- ---- the calls

module _ (b buffer page : List ℕ) (v : ℕ) (l : List Act) (t : Transfer) (k : valid b ≡ true) (room : store_bytes ≤ length buffer)
    (bytes : (i : ℕ) → get_or page i 0 < 256) (two : screens_taken (screens_of l) ≡ 2) where
  abbrev before : List Act
  before = write v ∷ l

  -- the unit as that screen finds it
  abbrev found : Sgb
  found = (run (load b) before).last

  found-good : Good found
  found-good = run-good (load b) (valid-good b k) before

  by-rules : (m : List Act) → performed b buffer m ≡ performed_by buffer (saved (run (load b) m))
  by-rules m = performed-calls b buffer m k room ∙ ap (performed_by buffer) (calls-saved b k m)

  with-page : performed b buffer (write v ∷ (l ++ (screen (screen_of page) ∷ [])))
      ≡ performed_by buffer (saved (record {
        last = sees found (screen_of page);
        answers = (run (load b) before).answers;
        sights = (run (load b) before).sights ++ (seen found.snes (screen_of page) ∷ []);
      }))
  with-page = by-rules (before ++ (screen (screen_of page) ∷ [])) ∙ ap (λ (o : Outcome). performed_by buffer (saved o)) (run_more before (load b) (screen_of page))

  -- a screen leaves the replies to the writes before it
  same-replies : (performed b buffer (write v ∷ (l ++ (screen (screen_of page) ∷ [])))).replies ≡ (performed b buffer before).replies
  unfolding performed_by saved
  same-replies = ap (λ (o : Performed). o.replies) with-page ∙ sym (ap (λ (o : Performed). o.replies) (by-rules before))

  module _ (long : length page ≡ page_bytes) (sends : AskedFirst t (map command_held (performed b buffer before).replies)) where
    asked : AskedFirst t (map given (run (load b) before).answers)
    unfolding saved
    asked = subst (AskedFirst t) (replies-commands b buffer before k room ∙ ap (λ (o : Called). map given o.answers) (calls-saved b k before)) sends

    awaited : (found.snes.pending ≡ In 1 t) × ((run (load b) before).sights ≡ map unlanded (screens_of l))
    unfolding run after_write AskedFirst
    awaited =
        waiting t l (written (load b) v) (asks-pending (load b) v t asked.0 ∙ ap (λ (n : ℕ). In (suc n) t) (sym two)) asked.1

    -- nothing lands at the screens before it
    pub calls-before : (performed b buffer before).sights ≡ map nothing_landed (screens_of l)
    unfolding performed_by saved
    calls-before = ap (λ (o : Performed). o.sights) (by-rules before) ∙ ap (map sight_of) awaited.1 ∙ sights_none (screens_of l)

    sent : sees found (screen_of page) ≡ page_sent t page found
    sent = third-sent t page found awaited.0 long bytes

    -- the screen of the page answers the kind, and leaves the block with the page in its part, and all else as it was but for the live capture and
    -- what is pending; the calls before it are as they would be without it
    pub calls-page : performed b buffer (write v ∷ (l ++ (screen (screen_of page) ∷ []))) ≡ then_page t page (performed b buffer before)
    calls-page = with-page ∙ third ∙ sym (ap (then_page t page) (by-rules before))
      where
        told : sight_of (seen found.snes (screen_of page)) ≡ given (some (number_of t))
        told = ap sight_of (third-seen t page found awaited.0) ∙ unfold sight_of landed_of in refl

        third : performed_by buffer (saved (record {
          last = sees found (screen_of page);
          answers = (run (load b) before).answers;
          sights = (run (load b) before).sights ++ (seen found.snes (screen_of page) ∷ []);
        }))
            ≡ then_page t page (performed_by buffer (saved (run (load b) before)))
        third =
            unfold performed_by saved then_page in
            λ i.
            record {
              block = save ((sent ∙ ap (page_sent t page) (sym (good-back found found-good))) i);
              buffer = buffer_after (run (load b) before).answers buffer;
              replies = replies_of (run (load b) before).answers buffer;
              sights =
                  (map-append sight_of (run (load b) before).sights (seen found.snes (screen_of page) ∷ [])
                  ∙ ap (λ a. map sight_of (run (load b) before).sights ++ (a ∷ [])) told) i;
            }

    -- in the block's own bytes
    pub calls-part : LiesIn t page (performed b buffer (write v ∷ (l ++ (screen (screen_of page) ∷ [])))).block
    unfolding performed_by saved
    calls-part =
        let good : Good (sees found (screen_of page)) =
        subst (λ (o : Outcome). Good o.last) (run_more before (load b) (screen_of page)) (run-good (load b) (valid-good b k) (before ++ (screen (screen_of page) ∷ []))) in
        lies t page found _ (ap (λ (o : Performed). load o.block) with-page ∙ good-back (sees found (screen_of page)) good ∙ sent) long found-good.snes.tiles

-- ---- by the contracts alone

-- a call of `page_screen` by its contract: it was lent the page and the output, answered r, and left the output so
pub data PageCall (page out : List ℕ) (r : Result ℕ Refusal) (after : List ℕ) : Type 0 where
  called : (k : _) (a : _) (e : _) → page-screen.Learnt k a r e → a.0.now ≡ page → a.1.0.now ≡ out → e.1.0.now ≡ after → PageCall page out r after

page_made : (page out after : List ℕ) (n : ℕ) → PageCall page out (Ok n) after → (length page ≡ page_bytes) × (take n after ≡ screen_of page)
page_made page out after n (called k a e p ep eo ea) =
    page-given page out after n (p.0 ∙ (λ i. page_screen_answer (ep i) (eo i))) (sym ea ∙ p.1 ∙ (λ i. page_screen_left (ep i) (eo i)))

-- the screen that `page_screen` answered, at the front of its output, shown by any calls that `write_joypad` and `update_screen` allow
module _ (b buffer page : List ℕ) (v : ℕ) (l : List Act) (t : Transfer) (k : valid b ≡ true) (room : store_bytes ≤ length buffer)
    (bytes : (i : ℕ) → get_or page i 0 < 256) (two : screens_taken (screens_of l) ≡ 2) where
  pub contracts-page : (out after : List ℕ) (n : ℕ) → PageCall page out (Ok n) after
      → (o : Performed) → Allowed b buffer (write v ∷ (l ++ (screen (take n after) ∷ []))) o → AskedFirst t (map command_held o.replies)
      → (o ≡ then_page t page (performed b buffer (write v ∷ l))) × LiesIn t page o.block
  contracts-page out after n c o a s =
      let m = page_made page out after n c in
      let e : o ≡ performed b buffer (write v ∷ (l ++ (screen (screen_of page) ∷ []))) =
      allowed-performed (write v ∷ (l ++ (screen (take n after) ∷ []))) b buffer o a ∙ ap (λ (x : List ℕ). performed b buffer (write v ∷ (l ++ (screen x ∷ [])))) m.1 in
      let q : AskedFirst t (map command_held (performed b buffer (write v ∷ l)).replies) =
      subst (λ (rs : List Reply). AskedFirst t (map command_held rs)) (ap (λ (p : Performed). p.replies) e ∙ same-replies b buffer page v l t k room bytes two) s in (
        e ∙ calls-page b buffer page v l t k room bytes two m.0 q,
        subst (λ (p : Performed). LiesIn t page p.block) (sym e) (calls-part b buffer page v l t k room bytes two m.0 q),
      )
