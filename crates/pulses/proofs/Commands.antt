-- A command that isn't malformed has 1 to 7 packets and sixteen bytes for each: the three tests of refusal 5 are false together.
use mathlib.Core.Path.{◌≡◌, refl, sym, ap, ◌∙◌}
use mathlib.Core.Bool.{Bool, true, false, not, ◌||◌, cond}
use mathlib.Core.List.{List}
use Prim.Native.Nat.{ℕ, ◌*◌, ◌<◌, ◌≤◌}
use native.Mathlib.Omega.{arith}
use lib.Dec.{eqb}
use lib.ListN.{length, get_or}
use borrow.Author.Tests.{eqb-true, eqb-false, eq-eqb, ne_eqb, not-false}
use Rattle.receiver.proofs.Sound.{count-few}
use Rattle.std.specs.Prelude.{Ok, Err}
use Rattle.refusal.specs.declared.Refusal.{Refusal}
use Rattle.refusal.specs.declared.Refusal.TheVariants.{Command}
use Rattle.pulses.specs.Answer.{packets_answer}
use Rattle.pulses.specs.Bytes.{packets_in, malformed}

pub record Formed (c : List ℕ) : Type 0 where
  pub taken : malformed c ≡ false
  pub some : 0 < packets_in c
  pub few : packets_in c ≤ 7
  pub whole : length c ≡ 16 * packets_in c

neither : (a b : Bool) → (a || b) ≡ false → (a ≡ false) × (b ≡ false)
neither true b h = absurd (let z : ◌≡◌ {A = ℕ} 0 1 = cc in omega arith)
neither false b h = (refl, h)

pub formed : (c : List ℕ) → malformed c ≡ false → Formed c
unfolding malformed packets_in
formed c h =
    let a = neither (eqb (length c) 0) _ h in
    let b = neither (not (eqb (length c) (16 * packets_in c))) (eqb (packets_in c) 0) a.1 in
    let z = eqb-false (packets_in c) 0 b.1 in
    record {
      taken = h;
      some = omega (arith, z);
      few = count-few (get_or c 0 0);
      whole = eqb-true (length c) (16 * packets_in c) (not-false _ b.0);
    }

pub well-formed : (c : List ℕ) (p : ℕ) → packets_in c ≡ p → 0 < p → length c ≡ 16 * p → malformed c ≡ false
unfolding malformed
well-formed c p e z l =
    rw (
      ne_eqb (length c) 0 (λ y. omega arith),
      eq-eqb (length c) (16 * packets_in c) (l ∙ ap (λ (j : ℕ). 16 * j) (sym e)),
      ne_eqb (packets_in c) 0 (λ y. omega arith),
    )

-- ---- how the code finds out: what has not so many bytes as its packets take, or no packets, is none

pub no_command : (c : List ℕ) → (0 < packets_in c → length c ≡ 16 * packets_in c → ⊥) → malformed c ≡ true
no_command c h = go (malformed c) refl
  where
    go : (b : Bool) → malformed c ≡ b → b ≡ true
    go true e = refl
    go false e = let f = formed c e in absurd (h f.some f.whole)

-- and what it knows then
pub answer_none : (c : List ℕ) → malformed c ≡ true → Err Command ≡ packets_answer c
unfolding packets_answer
answer_none c h = rw h

pub answer_some : (c : List ℕ) (n : ℕ) → n ≡ packets_in c → 0 < n → length c ≡ 16 * n → Ok n ≡ packets_answer c
unfolding packets_answer
answer_some c n e z l = rw (well-formed c n (sym e) z l) (ap Ok e)

pub some-formed : (c : List ℕ) (n : ℕ) → Ok n ≡ packets_answer c → Formed c × (n ≡ packets_in c)
unfolding packets_answer
some-formed c n = go (malformed c) refl
  where
    go : (b : Bool) → malformed c ≡ b → Ok n ≡ cond b (Err Command) (Ok (packets_in c)) → Formed c × (n ≡ packets_in c)
    go true e h = absurd (cc)
    go false e h = (formed c e, cc)

pub none-malformed : (c : List ℕ) (r : Refusal) → Err r ≡ packets_answer c → (malformed c ≡ true) × (r ≡ Command)
unfolding packets_answer
none-malformed c r = go (malformed c)
  where
    go : (b : Bool) → Err r ≡ cond b (Err Command) (Ok (packets_in c)) → (b ≡ true) × (r ≡ Command)
    go true h = (refl, cc)
    go false h = absurd (cc)
