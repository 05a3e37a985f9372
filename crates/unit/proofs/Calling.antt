-- The answers and every lent byte of the calls, case by case: a refusal leaves all as it was, an answer leaves what the worker left.
use mathlib.Core.Path.{◌≡◌, refl, sym, ap, ◌∙◌}
use mathlib.Core.Bool.{Bool, true, false, cond}
use Rattle.std.specs.Prelude.{Option, Result, IsErrAnd}
use Rattle.refusal.specs.declared.Refusal.{Refusal}
use Rattle.refusal.specs.Codes.{code_of, told_by}
use Rattle.refusal.proofs.Told.{passed_on}
use mathlib.Core.List.{List}
use Prim.Native.Nat.{ℕ, ◌≤◌}
use borrow.Author.Tests.{ne_eqb, eq-eqb, eqb-true, le-leb, leb-true}
use lib.Dec.{eqb, leb}
use lib.ListN.{length}
use Rattle.pulses.specs.Answer.{Answer, refused, given}
use Rattle.transfer.specs.declared.pending.Transfer.{Transfer}
use Rattle.transfer.specs.Pending.{landed_of}
use Rattle.parts.specs.Parts.{block_bytes, store_bytes, capture_bytes}
use Rattle.layout.specs.Block.{load, save}
use Rattle.layout.specs.Fresh.{new, post_boot}
use Rattle.layout.specs.Valid.{Valid, valid}
use Rattle.broken.specs.Broken.{broken, broken_number}
use Rattle.view.specs.Refusal.{refusing}
use Rattle.rules.specs.Screen.{screened, landing}
use Rattle.view.specs.Looks.{leaves}
use Rattle.view.proofs.Refusals.{answers, keeps, draws}
use Rattle.unit.specs.Calls.{with_room, screen_answer, screen_block, fresh_answer, new_block, post_boot_block}

-- ---- the test of a block and of the room for a command, as a call makes it first

abbrev pub tested : List ℕ → List ℕ → Answer (Unit {0})
tested b command = with_room b command tt

-- a refusal by it is the answer, whatever was asked
pub room-refuses : {A : Type 0} (b command : List ℕ) (a : A) (n : ℕ) → refused n ≡ tested b command → refused n ≡ with_room b command a
unfolding with_room refusing
room-refuses b command a n e = go (eqb (length b) block_bytes) (valid b) (leb store_bytes (length command)) (broken_number (broken b)) e
  where
    go : (s t u : Bool) (k : ℕ) → ◌≡◌ {A = Answer (Unit {0})} (refused n) (cond s (cond t (cond u (given tt) (refused 6)) (refused k)) (refused 1))
        → refused n ≡ cond s (cond t (cond u (given a) (refused 6)) (refused k)) (refused 1)
    go true true true k z = cc
    go true true false k z = ap refused (cc)
    go true false u k z = ap refused (cc)
    go false t u k z = ap refused (cc)

-- else the block is valid and there is room
pub room-passes : (b command : List ℕ) → given tt ≡ tested b command → Valid b × (store_bytes ≤ length command)
unfolding with_room refusing
room-passes b command e = go (eqb (length b) block_bytes) (valid b) (leb store_bytes (length command)) (broken_number (broken b)) refl refl refl e
  where
    go : (s t u : Bool) (k : ℕ) → eqb (length b) block_bytes ≡ s → valid b ≡ t → leb store_bytes (length command) ≡ u
        → ◌≡◌ {A = Answer (Unit {0})} (given tt) (cond s (cond t (cond u (given tt) (refused 6)) (refused k)) (refused 1)) → Valid b × (store_bytes ≤ length command)
    go true true true k p q r z = (record { long = eqb-true (length b) block_bytes p; tested = q }, leb-true store_bytes (length command) r)
    go true true false k p q r z = cc
    go true false u k p q r z = cc
    go false t u k p q r z = cc

-- ---- a call that is lent a command buffer: it answers a, and leaves the block and the buffer, or refuses

module _ {A : Type 0} (b command : List ℕ) (a : A) (block buffer : List ℕ) where
  abbrev left : Answer A → List ℕ → List ℕ → Type 0
  left told m c = (told ≡ with_room b command a) × ((m ≡ leaves (with_room b command a) block b) × (c ≡ leaves (with_room b command a) buffer command))

  pub room-refused : (n : ℕ) → refused n ≡ with_room b command a → left (refused n) b command
  room-refused n e = (e, ((keeps (with_room b command a) block b e).1, (keeps (with_room b command a) buffer command e).1))

  -- as it leaves by a `?`
  pub room-passed : {V : Type 0} (f : V → A) (r : Result V Refusal) (e : Refusal) → refused (code_of e) ≡ tested b command → IsErrAnd r (λ y. y ≡ e)
      → left (told_by f r) b command
  room-passed f r e k h =
      let l = room-refused (code_of e) (room-refuses b command a (code_of e) k) in
      (ap (told_by f) (passed_on r e h) ∙ l.0, l.1)

  room-is : Valid b → store_bytes ≤ length command → given a ≡ with_room b command a
  room-is k h = unfold with_room in sym (ap (λ t. cond t (given a) (refused 6)) (le-leb store_bytes (length command) h)) ∙ answers b _ k

  pub room-given : (x : A) (m c : List ℕ) → Valid b → store_bytes ≤ length command → x ≡ a → m ≡ block → c ≡ buffer → left (given x) m c
  room-given x m c k h e p q =
      let is : given x ≡ with_room b command a = ap given e ∙ room-is k h in
      (is, ((draws (with_room b command a) block b m is p).1, (draws (with_room b command a) buffer command c is q).1))

-- ---- a screen

module _ (b x : List ℕ) where
  pub screen-refused : (n : ℕ) → refused n ≡ screen_answer b x → (refused n ≡ screen_answer b x) × (b ≡ screen_block b x)
  screen-refused n e = unfold screen_block in keeps (screen_answer b x) _ b e

  pub screen-short : Valid b → (length x ≡ capture_bytes → ⊥) → refused 3 ≡ screen_answer b x
  screen-short k h =
      unfold screen_answer in
      sym (ap (λ t. cond t (given (landed_of (landing (load b).snes))) (refused 3)) (ne_eqb (length x) capture_bytes h)) ∙ answers b _ k

  screen_is : (l : Option Transfer) → Valid b → length x ≡ capture_bytes → l ≡ landing (load b).snes → given (landed_of l) ≡ screen_answer b x
  screen_is l k h e =
      unfold screen_answer in
      ap (λ n. given (landed_of n)) e
      ∙ sym (ap (λ t. cond t (given (landed_of (landing (load b).snes))) (refused 3)) (eq-eqb (length x) capture_bytes h)) ∙ answers b _ k

  pub screen-given : (l : Option Transfer) (block : List ℕ) → Valid b → length x ≡ capture_bytes → l ≡ landing (load b).snes → block ≡ save (screened (load b) x)
      → (given (landed_of l) ≡ screen_answer b x) × (block ≡ screen_block b x)
  screen-given l block k h e p = unfold screen_block in draws (screen_answer b x) _ b block (screen_is l k h e) p

-- ---- the fresh blocks

pub new-refused : (b : List ℕ) → (length b ≡ block_bytes → ⊥) → (1 ≡ fresh_answer b) × (b ≡ new_block b)
unfolding fresh_answer new_block
new-refused b h = rw (ne_eqb (length b) block_bytes h) (refl, refl)

pub new_made : (b m : List ℕ) → length b ≡ block_bytes → m ≡ new → (0 ≡ fresh_answer b) × (m ≡ new_block b)
unfolding fresh_answer new_block
new_made b m h e = rw (eq-eqb (length b) block_bytes h) (refl, e)

pub boot-refused : (b : List ℕ) → (length b ≡ block_bytes → ⊥) → (1 ≡ fresh_answer b) × (b ≡ post_boot_block b)
unfolding fresh_answer post_boot_block
boot-refused b h = rw (ne_eqb (length b) block_bytes h) (refl, refl)

pub boot_made : (b m : List ℕ) → length b ≡ block_bytes → m ≡ post_boot → (0 ≡ fresh_answer b) × (m ≡ post_boot_block b)
unfolding fresh_answer post_boot_block
boot_made b m h e = rw (eq-eqb (length b) block_bytes h) (refl, e)
