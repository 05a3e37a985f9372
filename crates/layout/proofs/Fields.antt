-- Each field of the unit and its bytes tell each other: flags, the stage, the packet, what may be missing, what is pending.
use mathlib.Core.Path.{◌≡◌, refl, sym, ap, ◌∙◌}
use mathlib.Core.Bool.{Bool, true, false, cond, ◌&&◌, ◌||◌}
use mathlib.Core.List.{List, [], ◌∷◌}
use mathlib.Core.Logic.{⊎_elim}
use mathlib.Core.Option.{Option, none, some}
use Prim.Native.Nat.{ℕ, zero, suc, ◌+◌, ◌*◌, ◌/◌, ◌%◌, ◌^◌, ◌<◌, ◌≤◌}
use native.Mathlib.Nat.{not-suc-le-zero, le_of_suc-le-suc, pow-suc}
use native.Mathlib.Omega.{arith}
use borrow.Author.Tests.{leb-true, eqb-true, ltb-true, ne_eqb, le-leb, lt-ltb}
use lib.Dec.{eqb, leb, ltb}
use lib.ListN.{length, replicate, length-replicate}
use lib.Pow.{are_bytes}
use Rattle.bits.specs.Zero.{zeros}
use Rattle.bits.proofs.Tests.{and_left, and_right, and-true, or-either, or_right}
use Rattle.bits.proofs.Zeros.{zeros-replicate, replicate-zeros}
use Rattle.receiver.specs.Receive.{stage_number}
use Rattle.receiver.specs.Store.{bytes_of}
use Rattle.receiver.specs.declared.Stage.{Stage}
use Rattle.receiver.specs.declared.Stage.TheVariants.{Idle, Receiving, Awaiting}
use Rattle.transfer.specs.Pending.{number_of, countdown_of, kind_of, named, pending_of}
use Rattle.transfer.specs.declared.pending.Transfer.TheVariants.{Palettes, Attributes, BorderTiles, BorderMap}
use Rattle.transfer.specs.declared.pending.Pending.{Pending}
use Rattle.transfer.specs.declared.pending.Pending.TheVariants.{Nothing, In}
use Rattle.layout.specs.Block.{is_set, flag, stage_of, value_of, held, is_held, held_bytes}
use Rattle.layout.specs.Good.{SizedIf, GoodPending}

-- ---- flags

pub flag_of-set : (n : ℕ) → leb n 1 ≡ true → flag (is_set n) ≡ n
flag_of-set zero e = refl
flag_of-set (suc zero) e = refl
flag_of-set (suc (suc n)) e = absurd (not-suc-le-zero (le_of_suc-le-suc (leb-true (suc (suc n)) 1 e)))

pub set_of-flag : (b : Bool) → is_set (flag b) ≡ b
set_of-flag true = refl
set_of-flag false = refl

-- ---- the stage

pub number_of-stage : (n : ℕ) → leb n 2 ≡ true → stage_number (stage_of n) ≡ n
unfolding stage_number stage_of
number_of-stage zero e = refl
number_of-stage (suc zero) e = refl
number_of-stage (suc (suc zero)) e = refl
number_of-stage (suc (suc (suc n))) e = absurd (not-suc-le-zero (le_of_suc-le-suc (le_of_suc-le-suc (leb-true (suc (suc (suc n))) 2 e))))

pub stage_of-number : (s : Stage) → stage_of (stage_number s) ≡ s
unfolding stage_number stage_of
stage_of-number Idle = refl
stage_of-number Receiving = refl
stage_of-number Awaiting = refl

-- ---- the packet

pub bytes_of-value : (l : List ℕ) → are_bytes l ≡ true → bytes_of (length l) (value_of l) ≡ l
unfolding bytes_of value_of
bytes_of-value [] e = refl
bytes_of-value (x ∷ xs) e =
    let h : x < 256 = ltb-true x 256 (and_left (ltb x 256) (are_bytes xs) e) in
    let low : (x + 256 * value_of xs) % 256 ≡ x = omega arith in
    let high : (x + 256 * value_of xs) / 256 ≡ value_of xs = omega arith in
    λ t. low t ∷ (ap (bytes_of (length xs)) high ∙ bytes_of-value xs (and_right (ltb x 256) (are_bytes xs) e)) t

pub value_of-bytes : (n x : ℕ) → x < 256 ^ n → value_of (bytes_of n x) ≡ x
unfolding bytes_of value_of
value_of-bytes zero x h = omega arith
value_of-bytes (suc n) x h =
    let e : 256 ^ suc n ≡ 256 ^ n * 256 = pow-suc 256 n in
    let lt : x / 256 < 256 ^ n = omega arith in
    rw (value_of-bytes n (x / 256) lt) (omega arith)

pub are-bytes_of : (n x : ℕ) → are_bytes (bytes_of n x) ≡ true
unfolding bytes_of
are-bytes_of zero x = refl
are-bytes_of (suc n) x = let h : x % 256 < 256 = omega arith in and-true (ltb (x % 256) 256) (are_bytes (bytes_of n (x / 256))) (lt-ltb (x % 256) 256 h) (are-bytes_of n (x / 256))

-- ---- what may be missing

pub held_number : (on : ℕ) (l : List ℕ) → leb on 1 ≡ true → is_held (held on l) ≡ on
unfolding is_held held
held_number zero l e = refl
held_number (suc zero) l e = refl
held_number (suc (suc n)) l e = absurd (not-suc-le-zero (le_of_suc-le-suc (leb-true (suc (suc n)) 1 e)))

pub held_bytes-held : (n on : ℕ) (l : List ℕ) → length l ≡ n → leb on 1 ≡ true → cond (eqb on 0) (zeros l) true ≡ true → held_bytes n (held on l) ≡ l
unfolding held_bytes held
held_bytes-held n zero l h e z = ap (λ (k : ℕ). replicate k 0) (sym h) ∙ zeros-replicate l z
held_bytes-held n (suc zero) l h e z = refl
held_bytes-held n (suc (suc k)) l h e z = absurd (not-suc-le-zero (le_of_suc-le-suc (leb-true (suc (suc k)) 1 e)))

pub held_again : (n : ℕ) (o : Option (List ℕ)) (l : List ℕ) → l ≡ held_bytes n o → held (is_held o) l ≡ o
unfolding held_bytes held is_held
held_again n none l e = refl
held_again n (some x) l e = ap some e

pub held-length : (n : ℕ) (o : Option (List ℕ)) → SizedIf n o → length (held_bytes n o) ≡ n
unfolding held_bytes
held-length n none h = length-replicate n 0
held-length n (some l) h = h

pub held-sized : (n on : ℕ) (l : List ℕ) → length l ≡ n → SizedIf n (held on l)
unfolding held
held-sized n on l h = go (is_set on)
  where
    go : (t : Bool) → SizedIf n (cond t (some l) none)
    go true = h
    go false = tt

-- ---- what is pending

-- a kind that is there
named-bytes : (n k : ℕ) → leb k 4 ≡ true → (countdown_of (named n k) ≡ n) × (kind_of (named n k) ≡ k)
unfolding countdown_of kind_of number_of
named-bytes n zero e = (refl, refl)
named-bytes n (suc zero) e = (refl, refl)
named-bytes n (suc (suc zero)) e = (refl, refl)
named-bytes n (suc (suc (suc zero))) e = (refl, refl)
named-bytes n (suc (suc (suc (suc zero)))) e = (refl, refl)
named-bytes n (suc (suc (suc (suc (suc k))))) e = let h : suc (suc (suc (suc (suc k)))) ≤ 4 = leb-true _ 4 e in absurd (omega arith)

named-good : (n k : ℕ) → leb k 4 ≡ true → (1 ≤ n) × (n ≤ 3) → GoodPending (named n k)
named-good n zero e h = h
named-good n (suc zero) e h = h
named-good n (suc (suc zero)) e h = h
named-good n (suc (suc (suc zero))) e h = h
named-good n (suc (suc (suc (suc zero)))) e h = h
named-good n (suc (suc (suc (suc (suc k))))) e h = let g : suc (suc (suc (suc (suc k)))) ≤ 4 = leb-true _ 4 e in absurd (omega arith)

-- a countdown that has begun
begun : (n k : ℕ) → 1 ≤ n → pending_of n k ≡ named n k
unfolding pending_of
begun n k h = rw (ne_eqb n 0 (λ z. omega arith))

module _ (n k : ℕ) where
  -- V4, as the two bytes have it
  abbrev pub timed : Bool
  timed = (eqb n 0 && eqb k 0) || (leb 1 n && (leb n 3 && leb k 4))

  abbrev Bytes : Type 0
  Bytes = (countdown_of (pending_of n k) ≡ n) × (kind_of (pending_of n k) ≡ k)

  pub pending-bytes : timed ≡ true → Bytes
  pending-bytes e =
      ⊎_elim (λ z. at_rest (eqb-true n 0 (and_left (eqb n 0) (eqb k 0) z)) (eqb-true k 0 (and_right (eqb n 0) (eqb k 0) z)))
      (λ t. rw (begun n k (leb-true 1 n (and_left (leb 1 n) (leb n 3 && leb k 4) t))) (named-bytes n k (and_right (leb n 3) (leb k 4) (and_right (leb 1 n) (leb n 3 && leb k 4) t))))
      (or-either (eqb n 0 && eqb k 0) (leb 1 n && (leb n 3 && leb k 4)) e)
    where
      at_rest : n ≡ 0 → k ≡ 0 → Bytes
      at_rest z w = unfold pending_of countdown_of kind_of in rw (z, w) (refl, refl)

  pub pending-good : timed ≡ true → GoodPending (pending_of n k)
  pending-good e =
      ⊎_elim (λ z. at_rest (eqb-true n 0 (and_left (eqb n 0) (eqb k 0) z)))
      (λ t.
      let h : 1 ≤ n = leb-true 1 n (and_left (leb 1 n) (leb n 3 && leb k 4) t) in
      let u : (leb n 3 && leb k 4) ≡ true = and_right (leb 1 n) (leb n 3 && leb k 4) t in
      rw (begun n k h) (named-good n k (and_right (leb n 3) (leb k 4) u) (h, leb-true n 3 (and_left (leb n 3) (leb k 4) u))))
      (or-either (eqb n 0 && eqb k 0) (leb 1 n && (leb n 3 && leb k 4)) e)
    where
      at_rest : n ≡ 0 → GoodPending (pending_of n k)
      at_rest z = unfold pending_of in rw z tt

pub pending_again : (p : Pending) → GoodPending p → pending_of (countdown_of p) (kind_of p) ≡ p
unfolding countdown_of kind_of number_of pending_of
pending_again Nothing h = refl
pending_again (In n Palettes) h = simp (ne_eqb n 0 (λ z. omega arith))
pending_again (In n Attributes) h = simp (ne_eqb n 0 (λ z. omega arith))
pending_again (In n (BorderTiles true)) h = simp (ne_eqb n 0 (λ z. omega arith))
pending_again (In n (BorderTiles false)) h = simp (ne_eqb n 0 (λ z. omega arith))
pending_again (In n BorderMap) h = simp (ne_eqb n 0 (λ z. omega arith))

counts : (n k : ℕ) → (1 ≤ n) × (n ≤ 3) → leb k 4 ≡ true → timed n k ≡ true
counts n k h e = or_right (eqb n 0 && eqb k 0) _ (simp (le-leb 1 n h.0, le-leb n 3 h.1, e))

pub pending_timed : (p : Pending) → GoodPending p → timed (countdown_of p) (kind_of p) ≡ true
unfolding countdown_of kind_of number_of
pending_timed Nothing h = refl
pending_timed (In n Palettes) h = counts n 0 h refl
pending_timed (In n Attributes) h = counts n 1 h refl
pending_timed (In n (BorderTiles true)) h = counts n 3 h refl
pending_timed (In n (BorderTiles false)) h = counts n 2 h refl
pending_timed (In n BorderMap) h = counts n 4 h refl

-- ---- the tests of V2, V3, V5 and V6, of a unit's bytes

pub flag_small : (b : Bool) → leb (flag b) 1 ≡ true
flag_small true = refl
flag_small false = refl

pub held_small : (o : Option (List ℕ)) → leb (is_held o) 1 ≡ true
unfolding is_held
held_small none = refl
held_small (some l) = refl

pub stage-small : (s : Stage) → leb (stage_number s) 2 ≡ true
unfolding stage_number
stage-small Idle = refl
stage-small Receiving = refl
stage-small Awaiting = refl

pub held-clear : (n : ℕ) (o : Option (List ℕ)) (l : List ℕ) → l ≡ held_bytes n o → cond (eqb (is_held o) 0) (zeros l) true ≡ true
unfolding held_bytes is_held
held-clear n none l e = ap zeros e ∙ replicate-zeros n
held-clear n (some x) l e = refl
