-- Demand 3 over blocks: running the calls on the block of a good unit is running the unit, since each call loads what was saved (the unit
-- stays good), so the order theorem of units carries over.
use Prim.Native.Nat.{ℕ}
use mathlib.Core.Path.{◌≡◌, refl, sym, ap, ◌∙◌}
use mathlib.Core.Bool.{Bool, true, false, cond}
use mathlib.Core.List.{List, [], ◌∷◌}
use borrow.Author.Tests.{eqb-true}
use lib.ListN.{length}
use Rattle.parts.specs.Parts.{capture_bytes}
use Rattle.layout.specs.Block.{load, save}
use Rattle.layout.specs.Valid.{valid}
use Rattle.layout.specs.Good.{Good}
use Rattle.layout.specs.Sgb.{Sgb}
use Rattle.layout.proofs.Saved.{clauses, save-load}
use Rattle.layout.proofs.Goods.{valid-good, good-back, good-valid}
use Rattle.rules.specs.Write.{written, answer}
use Rattle.rules.specs.Screen.{shown, screened}
use Rattle.rules.proofs.Keeps.{good-written, good-screened}
use Rattle.order.specs.Log.{Act, write, screen, accepts, seen, shown_if, sees, Outcome, after_write, after_screen, run, Aligned}
use Rattle.order.specs.Blocks.{Called, called_write, called_screen, written_block, seen_block, calls}
use Rattle.order.proofs.Order.{order}

-- an outcome with its unit as a block
unfoldable pub saved : Outcome → Called
saved o = record { block = save o.last; answers = o.answers; sights = o.sights }

-- ---- a screen of any length: the unit stays good, and its block is the one that the call leaves

sees-good : (u : Sgb) (x : List ℕ) → Good u → Good (sees u x)
unfolding sees shown_if
sees-good u x g = go (accepts x) refl
  where
    go : (t : Bool) → accepts x ≡ t → Good (record { port = u.port; game = u.game; snes = cond t (shown u.snes x) u.snes })
    go true e = unfold screened in good-screened u x (eqb-true (length x) capture_bytes (unfold accepts in e)) g
    go false e = g

sees-block : (u : Sgb) (x : List ℕ) → Good u → seen_block (save u) x ≡ save (sees u x)
unfolding seen_block sees shown_if
sees-block u x g = go (accepts x)
  where
    go : (t : Bool) → cond t (save (screened (load (save u)) x)) (save u) ≡ save (record { port = u.port; game = u.game; snes = cond t (shown u.snes x) u.snes })
    go true = unfold screened in ap (λ w. save (screened w x)) (good-back u g)
    go false = refl

-- ---- a whole log

calls-run : (u : Sgb) → Good u → (l : List Act) → calls (save u) l ≡ saved (run u l)
unfolding calls run saved called_write called_screen after_write after_screen written_block
calls-run u g [] = refl
calls-run u g (write v ∷ l) =
    rw (good-back u g) (ap (called_write (answer u v)) (calls-run (written u v) (good-written u v g) l))
calls-run u g (screen x ∷ l) =
    rw (good-back u g, sees-block u x g) (ap (called_screen (seen u.snes x)) (calls-run (sees u x) (sees-good u x g) l))

-- from a valid block the calls do what the rules do to the unit that it holds
pub calls-saved : (k : List ℕ) → valid k ≡ true → (l : List Act) → calls k l ≡ saved (run (load k) l)
calls-saved k v l = ap (λ c. calls c l) (sym (save-load k (clauses k v))) ∙ calls-run (load k) (valid-good k v) l

-- demand 3: a valid block and two logs that are aligned: the same block at the end, and the same answer to each write and to each screen
pub block-order : (k : List ℕ) → valid k ≡ true → (a b : List Act) → Aligned (load k) a b → calls k a ≡ calls k b
block-order k v a b h = calls-saved k v a ∙ ap saved (order (load k) a b h) ∙ sym (calls-saved k v b)

-- and every call of a log leaves a valid block
pub run-good : (u : Sgb) → Good u → (l : List Act) → Good (run u l).last
unfolding run after_write after_screen
run-good u g [] = g
run-good u g (write v ∷ l) = run-good (written u v) (good-written u v g) l
run-good u g (screen x ∷ l) = run-good (sees u x) (sees-good u x g) l

pub calls-valid : (k : List ℕ) → valid k ≡ true → (l : List Act) → valid (calls k l).block ≡ true
unfolding saved
calls-valid k v l = ap (λ o. valid o.block) (calls-saved k v l) ∙ good-valid (run (load k) l).last (run-good (load k) (valid-good k v) l)
