-- The first broken rule and its byte: there is none exactly if V1 to V6 hold, and what is told is the first rule that does not, with the
-- lowest byte of what it asks in vain. RULES 1.15.
use Prim.Native.Nat.{ℕ, zero, suc, ◌+◌, ◌-◌, ◌*◌, ◌≤◌, ◌<◌}
use native.Mathlib.Omega.{arith}
use mathlib.Core.Path.{◌≡◌, refl, sym, ap, ◌∙◌, subst}
use mathlib.Core.Bool.{Bool, true, false, cond, ◌&&◌, false≢true}
use mathlib.Core.List.{List, [], ◌∷◌, ◌++◌}
use mathlib.Core.Logic.{◌⊎◌, inl, inr}
use mathlib.Core.Option.{Option, none, some}
use lib.ListN.{get_or, length, drop}
use Rattle.bits.proofs.Tests.{and_yes}
use Rattle.parts.specs.Parts.{block_bytes}
use Rattle.layout.specs.Valid.{v1, v2, v3, v4, v5, v6, valid_parts}
use Rattle.broken.specs.Broken.{Asked, Broken, lowest, broken_or, first_of, rules, broken, asks1, asks2, asks3, asks4, asks5, asks6}
use Rattle.broken.specs.Told.{tests, rule_holds, rule_asks, Tells, Least, First}
use Rattle.broken.proofs.Lowest.{all_hold, is_none, none-holds, lowest-tells}
use Rattle.broken.proofs.Inside.{tells-within, rules-within}
use Rattle.broken.proofs.Asking.{asks1_are, asks2_are, asks3_are, asks4_are, asks5_are, asks6_are}

-- ---- none exactly if all hold

or_none : (n : ℕ) (y : Option ℕ) (z : Option Broken) → is_none (broken_or n y z) ≡ (is_none y && is_none z)
unfolding is_none broken_or
or_none n none z = refl
or_none n (some at) z = refl

first_none : (n : ℕ) (r : List Asked) (rs : List (List Asked)) → is_none (first_of n (r ∷ rs)) ≡ (all_hold r && is_none (first_of (suc n) rs))
unfolding first_of
first_none n r rs = or_none n (lowest r) (first_of (suc n) rs) ∙ ap (λ t. t && is_none (first_of (suc n) rs)) (none-holds r)

pub none_if-valid : (b : List ℕ) → is_none (broken b) ≡ valid_parts b
unfolding broken valid_parts is_none first_of
none_if-valid b =
    rw (
      first_none 1 (asks1 b) (asks2 b ∷ asks3 b ∷ asks4 b ∷ asks5 b ∷ asks6 b ∷ []),
      first_none 2 (asks2 b) (asks3 b ∷ asks4 b ∷ asks5 b ∷ asks6 b ∷ []),
      first_none 3 (asks3 b) (asks4 b ∷ asks5 b ∷ asks6 b ∷ []),
      first_none 4 (asks4 b) (asks5 b ∷ asks6 b ∷ []),
      first_none 5 (asks5 b) (asks6 b ∷ []),
      first_none 6 (asks6 b) [],
      asks1_are b,
      asks2_are b,
      asks3_are b,
      asks4_are b,
      asks5_are b,
      asks6_are b,
    )
    (last (v1 b) (v2 b) (v3 b) (v4 b) (v5 b) (v6 b))
  where
    last : (p q r s t u : Bool) → (p && (q && (r && (s && (t && (u && is_none (first_of 7 []))))))) ≡ (p && (q && (r && (s && (t && u)))))
    last p q r s t u = rw (and_yes u)

-- ---- what is told of one that is broken

-- of rules that are numbered from n on: the one told is number n + k, and k of them come before it
pub record Counted (n : ℕ) (rs : List (List Asked)) (r : Broken) : Type 0 where
  pub before : ℕ
  pub number : r.rule ≡ n + before
  pub short : before < length rs
  pub earlier : (j : ℕ) → j < before → lowest (get_or rs j []) ≡ none
  pub here : lowest (get_or rs before []) ≡ some r.at

next-earlier : (l : List Asked) (rs : List (List Asked)) (k : ℕ) → lowest l ≡ none → ((j : ℕ) → j < k → lowest (get_or rs j []) ≡ none)
    → (j : ℕ) → j < suc k → lowest (get_or (l ∷ rs) j []) ≡ none
next-earlier l rs k p f zero h = p
next-earlier l rs k p f (suc j) h = f j (omega arith)

counted : (n : ℕ) (rs : List (List Asked)) (r : Broken) → first_of n rs ≡ some r → Counted n rs r
unfolding first_of broken_or
counted n [] r e = absurd (unfold is_none in false≢true (ap is_none (sym e)))
counted n (l ∷ rs) r e = go (lowest l) refl e (counted (suc n) rs r)
  where
    go : (y : Option ℕ) → lowest l ≡ y → broken_or n y (first_of (suc n) rs) ≡ some r → (first_of (suc n) rs ≡ some r → Counted (suc n) rs r) → Counted n (l ∷ rs) r
    go none p z rest =
        let c = rest z in
        record {
          before = suc c.before;
          number = let k = c.number in omega arith;
          short = let k = c.short in omega arith;
          earlier = next-earlier l rs c.before p c.earlier;
          here = c.here;
        }
    go (some at) p z rest = record { before = 0; number = let w : r.rule ≡ n = cc in omega arith; short = omega arith; earlier = λ j h. absurd (omega arith); here = cc }

-- each list of what a rule asks belongs to its test
asks_are : (b : List ℕ) (j : ℕ) → all_hold (get_or (rules b) j []) ≡ get_or (tests b) j true
asks_are b zero = asks1_are b
asks_are b (suc zero) = asks2_are b
asks_are b (suc (suc zero)) = asks3_are b
asks_are b (suc (suc (suc zero))) = asks4_are b
asks_are b (suc (suc (suc (suc zero)))) = asks5_are b
asks_are b (suc (suc (suc (suc (suc zero))))) = asks6_are b
asks_are b (suc (suc (suc (suc (suc (suc j)))))) = unfold all_hold in refl

none-holds_at : (b : List ℕ) (j : ℕ) (y : Option ℕ) → lowest (get_or (rules b) j []) ≡ y → get_or (tests b) j true ≡ is_none y
none-holds_at b j y e = sym (asks_are b j) ∙ sym (none-holds (get_or (rules b) j [])) ∙ ap is_none e

pub broken-first : (b : List ℕ) (r : Broken) → broken b ≡ some r → First b r
unfolding broken is_none
broken-first b r e =
    let c = counted 1 (rules b) r e in
    let k : r.rule - 1 ≡ c.before = let n = c.number in omega arith in
    let found = lowest-tells r.at (get_or (rules b) c.before []) c.here in
    record {
      one_of_six = let n = c.number in let s = c.short in (omega arith, omega arith);
      earlier =
          λ j p q.
          let n = c.number in
          let h : j - 1 < c.before = omega arith in
          none-holds_at b (j - 1) none (c.earlier (j - 1) h);
      breaks = ap (λ i. get_or (tests b) i true) k ∙ none-holds_at b c.before (some r.at) c.here;
      tells = subst (λ i. Tells r.at (get_or (rules b) i [])) (sym k) found.0;
      least = subst (λ i. Least r.at (get_or (rules b) i [])) (sym k) found.1;
      inside = tells-within r.at (get_or (rules b) c.before []) (rules-within b c.before) found.0;
    }
