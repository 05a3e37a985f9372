-- Demand 3 of the contracts themselves: whatever the contracts of `write_joypad` and `update_screen` allow, call after call on one block with
-- one buffer, is what `performed` says; so two aligned logs, run by any such calls, are answered alike and end alike.
use mathlib.Core.Path.{◌≡◌, sym, ap, ◌∙◌}
use mathlib.Core.Bool.{true}
use mathlib.Core.List.{List, [], ◌∷◌}
use Prim.Native.Nat.{ℕ, ◌≤◌}
use lib.ListN.{length}
use Rattle.parts.specs.Parts.{store_bytes}
use Rattle.layout.specs.Block.{load}
use Rattle.layout.specs.Valid.{valid}
use Rattle.order.specs.Log.{Act, write, screen, Aligned}
use Rattle.unit.specs.Answers.{written_told, shown_told}
use Rattle.unit.specs.Calls.{write_answer, write_block, write_command, screen_answer, screen_block}
use Rattle.unit.specs.Together.{Reply, Performed, performed_none, done_write, done_screen, performed}
use Rattle.std.specs.Prelude.{Option, Result}
use Rattle.refusal.specs.declared.Refusal.{Refusal}
use Rattle.transfer.specs.declared.pending.Transfer.{Transfer}
use Rattle.unit.proofs.write_joypad.Reads as write-joypad
use Rattle.unit.proofs.update_screen.Reads as update-screen
use Rattle.unit.proofs.Together.{calls-order}

-- what such a call answers
abbrev pub Written : Type 0
Written = Result (Option ℕ) Refusal

abbrev pub Shown : Type 0
Shown = Result (Option Transfer) Refusal

-- a call of `write_joypad` by its contract, as the compiler reads it (`Learnt`, see `Determined`): it was lent the block b and the buffer c,
-- answered r, and left b' and c'
pub data WriteCall (b : List ℕ) (v : ℕ) (c : List ℕ) (r : Written) (b' c' : List ℕ) : Type 0 where
  called : (k : _) (a : _) (e : _) → write-joypad.Learnt k a r e → a.0.now ≡ b → a.1.0 ≡ v → a.1.1.0.now ≡ c → e.0.now ≡ b' → e.1.1.0.now ≡ c'
      → WriteCall b v c r b' c'

-- a call of `update_screen` that was lent the screen x
pub data ScreenCall (b x : List ℕ) (r : Shown) (b' : List ℕ) : Type 0 where
  called : (k : _) (a : _) (e : _) → update-screen.Learnt k a r e → a.0.now ≡ b → a.1.0.now ≡ x → e.0.now ≡ b' → ScreenCall b x r b'

abbrev replied : Written → List ℕ → Reply
replied r c = record { answer = written_told r; buffer = c }

-- such calls in the order of a log, each on what the one before it left: they may leave o
unfoldable pub Allowed : List ℕ → List ℕ → List Act → Performed → Type 0
Allowed b c [] o = o ≡ performed_none b c
Allowed b c (write v ∷ l) o =
    (r : Written) × (b' : List ℕ) × (c' : List ℕ) × (o' : Performed) × WriteCall b v c r b' c' × Allowed b' c' l o' × (o ≡ done_write (replied r c') o')
Allowed b c (screen x ∷ l) o = (r : Shown) × (b' : List ℕ) × (o' : Performed) × ScreenCall b x r b' × Allowed b' c l o' × (o ≡ done_screen (shown_told r) o')

write_is : (b : List ℕ) (v : ℕ) (c : List ℕ) (r : Written) (b' c' : List ℕ) → WriteCall b v c r b' c'
    → (written_told r ≡ write_answer b v c) × ((b' ≡ write_block b v c) × (c' ≡ write_command b v c))
write_is b v c r b' c' (called k a e p eb ev ec fb fc) =
    (p.0 ∙ (λ t. write_answer (eb t) (ev t) (ec t)), (sym fb ∙ p.1.0 ∙ (λ t. write_block (eb t) (ev t) (ec t)), sym fc ∙ p.1.1 ∙ (λ t. write_command (eb t) (ev t) (ec t))))

screen_is : (b x : List ℕ) (r : Shown) (b' : List ℕ) → ScreenCall b x r b' → (shown_told r ≡ screen_answer b x) × (b' ≡ screen_block b x)
screen_is b x r b' (called k a e p eb ex fb) = (p.0 ∙ (λ t. screen_answer (eb t) (ex t)), sym fb ∙ p.1 ∙ (λ t. screen_block (eb t) (ex t)))

-- what is allowed is what the definitions say, from any block and any buffer
pub allowed-performed : (l : List Act) (b c : List ℕ) (o : Performed) → Allowed b c l o → o ≡ performed b c l
unfolding Allowed performed
allowed-performed [] b c o h = h
allowed-performed (write v ∷ l) b c o (r, b', c', o', w, h, e) =
    let z = write_is b v c r b' c' w in
    e ∙ ap (done_write (replied r c')) (allowed-performed l b' c' o' h)
    ∙ (λ t. done_write (record { answer = z.0 t; buffer = z.1.1 t }) (performed (z.1.0 t) (z.1.1 t) l))
allowed-performed (screen x ∷ l) b c o (r, b', o', w, h, e) =
    let z = screen_is b x r b' w in
    e ∙ ap (done_screen (shown_told r)) (allowed-performed l b' c o' h) ∙ (λ t. done_screen (z.0 t) (performed (z.1 t) c l))

-- demand 3: two aligned logs, run by any calls that the contracts allow, from one valid block and one buffer with room
pub contracts-order : (k buffer : List ℕ) → valid k ≡ true → store_bytes ≤ length buffer → (a b : List Act) → Aligned (load k) a b
    → (x y : Performed) → Allowed k buffer a x → Allowed k buffer b y → x ≡ y
contracts-order k buffer v h a b e x y p q =
    allowed-performed a k buffer x p ∙ calls-order k buffer v h a b e ∙ sym (allowed-performed b k buffer y q)
