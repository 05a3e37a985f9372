-- The test `v3` is true exactly of what `V3` says: each part of the test is true exactly of its fact.
use mathlib.Core.Path.{◌≡◌, refl}
use mathlib.Core.Bool.{Bool, true, false, ◌&&◌, cond}
use mathlib.Core.List.{List}
use mathlib.Core.Logic.{◌⊎◌, inl, inr}
use Prim.Native.Nat.{ℕ, ◌*◌, ◌^◌}
use native.Mathlib.Omega.{arith}
use lib.Dec.{eqb, leb, ltb}
use lib.ListN.{get_or, drop}
use borrow.Author.Tests.{eqb-true, ltb-true, leb-true, eq-eqb, ne_eqb, lt-ltb, le-leb}
use Rattle.bits.specs.Zero.{zeros}
use Rattle.receiver.specs.declared.Stage.{Stage}
use Rattle.receiver.specs.declared.Stage.TheVariants.{Idle, Receiving, Awaiting}
use Rattle.receiver.specs.Count.{count_of}
use Rattle.receiver.specs.Receive.{Rx}
use Rattle.receiver.specs.Valid.{First, Later, V3At, V3, later, v3_at, v3}
use Rattle.bits.proofs.Tests.{and_both}

later_says : (e n : ℕ) (s : List ℕ) → later e n s ≡ true → Later e n s
unfolding later
later_says e n s h =
    let a = and_both (leb 1 n) _ h in
    let b = and_both (ltb n e) _ a.1 in
    let c = and_both (leb e 7) _ b.1 in
    let d = and_both (eqb e (count_of (get_or s 0 0))) (zeros (drop (16 * n) s)) c.1 in
    record {
      some_in = leb-true 1 n a.0;
      more_due = ltb-true n e b.0;
      few = leb-true e 7 c.0;
      counted = eqb-true e (count_of (get_or s 0 0)) d.0;
      rest_empty = d.1;
    }

later-true : (e n : ℕ) (s : List ℕ) → Later e n s → later e n s ≡ true
unfolding later
later-true e n s m =
    rw (
      le-leb 1 n m.some_in,
      lt-ltb n e m.more_due,
      le-leb e 7 m.few,
      eq-eqb e (count_of (get_or s 0 0)) m.counted,
      m.rest_empty,
    )

so_far : (e n : ℕ) (s : List ℕ) → cond (eqb n 0) (eqb e 0 && zeros s) (later e n s) ≡ true → First e n s ⊎ Later e n s
so_far e n s = go (eqb n 0) refl
  where
    go : (b : Bool) → eqb n 0 ≡ b → cond b (eqb e 0 && zeros s) (later e n s) ≡ true → First e n s ⊎ Later e n s
    go true p h =
        let a = and_both (eqb e 0) (zeros s) h in
        inl (record { none_in = eqb-true n 0 p; none_due = eqb-true e 0 a.0; empty = a.1 })
    go false p h = inr (later_says e n s h)

-- the test tells the fact
pub v3_says : (r : Rx) (s : List ℕ) → v3 r s ≡ true → V3 r s
unfolding v3 v3_at
v3_says r s h = go r.stage h
  where
    go : (t : Stage) → v3_at t r s ≡ true → V3At t r s
    go Idle k =
        let a = and_both (eqb r.expected 0) _ k in
        let b = and_both (eqb r.received 0) _ a.1 in
        let c = and_both (eqb r.bits 0) _ b.1 in
        let d = and_both (eqb r.packet 0) (zeros s) c.1 in
        record {
          expected = eqb-true r.expected 0 a.0;
          received = eqb-true r.received 0 b.0;
          bits = eqb-true r.bits 0 c.0;
          packet = eqb-true r.packet 0 d.0;
          store = d.1;
        }
    go Receiving k =
        let a = and_both (leb r.bits 128) _ k in
        let b = and_both (ltb r.packet (2 ^ r.bits)) _ a.1 in (
          record { bound = leb-true r.bits 128 a.0; clear = ltb-true r.packet (2 ^ r.bits) b.0 },
          so_far r.expected r.received s b.1,
        )
    go Awaiting k =
        let a = and_both (eqb r.bits 0) _ k in
        let b = and_both (eqb r.packet 0) _ a.1 in (
          record { bits = eqb-true r.bits 0 a.0; packet = eqb-true r.packet 0 b.0 },
          later_says r.expected r.received s b.1,
        )

-- and the fact makes the test true
pub v3-true : (r : Rx) (s : List ℕ) → V3 r s → v3 r s ≡ true
unfolding v3 v3_at
v3-true r s h = go r.stage h
  where
    some : (e n : ℕ) → First e n s ⊎ Later e n s → cond (eqb n 0) (eqb e 0 && zeros s) (later e n s) ≡ true
    some e n (inl f) = rw (eq-eqb n 0 f.none_in, eq-eqb e 0 f.none_due, f.empty)
    some e n (inr m) = rw (ne_eqb n 0 (λ z. omega (arith, m.some_in)), later-true e n s m)

    go : (t : Stage) → V3At t r s → v3_at t r s ≡ true
    go Idle k =
        rw (
          eq-eqb r.expected 0 k.expected,
          eq-eqb r.received 0 k.received,
          eq-eqb r.bits 0 k.bits,
          eq-eqb r.packet 0 k.packet,
          k.store,
        )
    go Receiving k =
        rw (le-leb r.bits 128 k.0.bound, lt-ltb r.packet (2 ^ r.bits) k.0.clear) (some r.expected r.received k.1)
    go Awaiting k =
        rw (eq-eqb r.bits 0 k.0.bits, eq-eqb r.packet 0 k.0.packet) (later-true r.expected r.received s k.1)
