-- What the tests in src/rule tell of the number of items; that a law of each of the three codes is one of every code that announces; and what the
-- verdict asks of such a code.
use mathlib.Core.Path.{◌≡◌, refl, sym, ◌∙◌, subst}
use mathlib.Core.Bool.{Bool, true, false, ◌&&◌, ◌||◌}
use mathlib.Core.List.{List}
use Prim.Native.Nat.{ℕ, ◌≤◌}
use native.Mathlib.Omega.{arith}
use lib.Dec.{eqb, leb, lit≤}
use lib.ListN.{get_or}
use borrow.Author.Tests.{eqb-true, leb-true}
use Rattle.bits.proofs.Tests.{and_right, either}
use Rattle.receiver.specs.Count.{code_of}
use Rattle.pulses.specs.Bytes.{packets_in}
use Rattle.pulses.specs.Verdict.{attr_blk, attr_lin, attr_chr, last_code, announces, announced, most_items, one_to, brings, most_packets, conforms_by, conforms}

most_360 : (code : ℕ) → most_items code ≤ 360
unfolding most_items
most_360 code =
    either (λ (n : ℕ). n ≤ 360) (eqb code attr_blk) (λ e. lit≤ tt)
    (λ e. either (λ (n : ℕ). n ≤ 360) (eqb code attr_lin) (λ e. lit≤ tt) (λ e. lit≤ tt))

-- as the tests in src/rule tell it
pub few_items : (code n most : ℕ) (t : Bool) → most ≡ most_items code → t ≡ one_to most n → t ≡ true → n ≤ 360
few_items code n most t e f h =
    let k : n ≤ most = leb-true n most (and_right (leb 1 n) (leb n most) (sym f ∙ h)) in
    omega (arith, most_360 code)

-- what holds of the three codes holds of every code that announces
pub each_of-three : (P : ℕ → Type 0) → P attr_blk → P attr_lin → P attr_chr → (code : ℕ) → announces code ≡ true → P code
unfolding announces
each_of-three P s l r code = go (eqb code attr_blk) refl (eqb code attr_lin) refl (eqb code attr_chr) refl
  where
    go : (a : Bool) → eqb code attr_blk ≡ a → (b : Bool) → eqb code attr_lin ≡ b → (d : Bool) → eqb code attr_chr ≡ d → (a || (b || d)) ≡ true → P code
    go true e b f d g h = subst P (sym (eqb-true code attr_blk e)) s
    go false e true f d g h = subst P (sym (eqb-true code attr_lin f)) l
    go false e false f true g h = subst P (sym (eqb-true code attr_chr g)) r
    go false e false f false g h = absurd (let z : ◌≡◌ {A = ℕ} 0 1 = cc in omega arith)

-- such a command conforms exactly if its packets are not too many and it brings what it announces
pub conforms_items : (c : List ℕ) (code : ℕ) → announces code ≡ true → code_of (get_or c 0 0) ≡ code
    → conforms c ≡ (leb (packets_in c) (most_packets code) && brings code (packets_in c) (announced code c))
unfolding conforms conforms_by
conforms_items c code h e =
    let l : leb code last_code ≡ true = each_of-three (λ (k : ℕ). leb k last_code ≡ true) refl refl refl code h in
    rw (e, l, h)
