-- The verdict of a command that announces items, by its packets alone: it conforms exactly if the number may be announced and the packets are
-- from the fewest that hold so many up to the most that there may be. Each number that may be announced has such commands.
use mathlib.Core.Path.{◌≡◌, refl, sym, ◌∙◌}
use mathlib.Core.Bool.{Bool, true, false, ◌&&◌, cond}
use mathlib.Core.List.{List, [], ◌∷◌}
use Prim.Native.Nat.{ℕ, zero, suc, ◌+◌, ◌-◌, ◌*◌, ◌/◌, ◌%◌, ◌<◌, ◌≤◌}
use native.Mathlib.Omega.{arith}
use lib.Dec.{eqb, leb, lit≤}
use lib.ListN.{length, get_or, replicate, length-replicate}
use borrow.Author.Tests.{leb-true, le-leb, lt-leb}
use Rattle.bits.proofs.Tests.{and_both, and-true, same-leb}
use Rattle.bits.specs.Word.{word, word_at, low_byte, high_byte}
use Rattle.receiver.specs.Count.{code_of, count_of}
use Rattle.pulses.specs.Answer.{verdict_answer}
use Rattle.pulses.specs.Bytes.{Bytes, packets_in}
use Rattle.pulses.specs.Fewest.{fewest, announcing, bare, Sends}
use Rattle.pulses.specs.Verdict.{attr_blk, attr_lin, attr_chr, announces, announced, most_items, bytes_for, one_to, brings, most_packets, conforms, judged, Judges}
use Rattle.std.specs.Prelude.{Result, Ok}
use Rattle.refusal.specs.declared.Refusal.{Refusal}
use Rattle.pulses.proofs.Commands.{well-formed}
use Rattle.pulses.proofs.Encodes.{verdict-conforms, one_verdict}
use Rattle.pulses.proofs.Held.{each_of-three, conforms_items}

-- ---- the fewest packets

held-fewest : (code n p : ℕ) → leb (bytes_for code n) (16 * p) ≡ leb (fewest code n) p
unfolding fewest
held-fewest code n p = same-leb (bytes_for code n) (16 * p) (fewest code n) p (λ k. omega arith) (λ k. omega arith)

-- n is no more than may be announced exactly if the greatest allowed number of packets holds n: seven hold 18 sets or 110 lines, six 360 cells
pub most-held : (code n : ℕ) → announces code ≡ true → leb n (most_items code) ≡ leb (fewest code n) (most_packets code)
unfolding most_items fewest bytes_for most_packets
most-held code n h =
    each_of-three (λ (k : ℕ). leb n (most_items k) ≡ leb (fewest k n) (most_packets k))
    (same-leb n (most_items attr_blk) (fewest attr_blk n) (most_packets attr_blk) (λ k. omega arith) (λ k. omega arith))
    (same-leb n (most_items attr_lin) (fewest attr_lin n) (most_packets attr_lin) (λ k. omega arith) (λ k. omega arith))
    (same-leb n (most_items attr_chr) (fewest attr_chr n) (most_packets attr_chr) (λ k. omega arith) (λ k. omega arith))
    code h

-- ---- the verdict

-- a command of p packets that announces n items
module _ (c : List ℕ) (code p n : ℕ) (h : announces code ≡ true) (e : code_of (get_or c 0 0) ≡ code) (f : packets_in c ≡ p) (g : announced code c ≡ n) where
  pub conforms-exactly : conforms c ≡ (one_to (most_items code) n && (leb (fewest code n) p && leb p (most_packets code)))
  unfolding brings
  conforms-exactly =
      conforms_items c code h e
      ∙ rw (f, g, held-fewest code n p) (turned (leb p (most_packets code)) (one_to (most_items code) n) (leb (fewest code n) p))
    where
      turned : (a b d : Bool) → (a && (b && d)) ≡ (b && (d && a))
      turned true true true = refl
      turned true true false = refl
      turned true false d = refl
      turned false true true = refl
      turned false true false = refl
      turned false false d = refl

  -- so where `verdict` says that it conforms it has the fewest packets, or more
  pub none-fewer : Judges c (Ok true) → fewest code n ≤ p
  none-fewer says =
      let r = and_both (one_to (most_items code) n) _ (sym conforms-exactly ∙ (verdict-conforms c says).1) in
      leb-true (fewest code n) p (and_both (leb (fewest code n) p) _ r.1).0

-- ---- a command for each number

first_byte : (code p : ℕ) → code < 30 → p < 8 → (code_of (8 * code + p) ≡ code) × (count_of (8 * code + p) ≡ p)
unfolding code_of count_of
first_byte code p h k = (omega arith, rw (lt-leb 0x1E ((8 * code + p) / 8) (omega arith)) (omega arith))

most_seven : (code : ℕ) → announces code ≡ true → (code < 30) × (most_packets code ≤ 7)
unfolding most_packets
most_seven = each_of-three (λ (k : ℕ). (k < 30) × (most_packets k ≤ 7)) (lit≤ tt, lit≤ tt) (lit≤ tt, lit≤ tt) (lit≤ tt, lit≤ tt)

zeros : (m : ℕ) → Bytes (replicate m 0)
zeros zero = tt
zeros (suc m) = (lit≤ tt, zeros m)

module _ (code p n : ℕ) (h : announces code ≡ true) where
  announced-is : (d : List ℕ) → announced code (announcing code p n d) ≡ n
  unfolding announced announcing word_at word low_byte high_byte
  announced-is d = go (eqb code attr_chr)
    where
      first : ℕ
      first = 8 * code + p

      behind : Bool → List ℕ
      behind b = cond b (0 ∷ 0 ∷ n % 256 ∷ n / 256 ∷ d) (n ∷ d)

      go : (b : Bool) → cond b (get_or (first ∷ behind b) 3 0 + get_or (first ∷ behind b) (3 + 1) 0 * 256) (get_or (first ∷ behind b) 1 0) ≡ n
      go true = omega arith
      go false = refl

  bytes-announcing : (d : List ℕ) → p < 8 → n ≤ most_items code → Bytes d → Bytes (announcing code p n d)
  unfolding announcing most_items low_byte high_byte
  bytes-announcing d k m b =
      each_of-three (λ (j : ℕ). n ≤ most_items j → Bytes (announcing j p n d))
      (λ l. (omega arith, (omega arith, b)))
      (λ l. (omega arith, (omega arith, b)))
      (λ l. (omega arith, (lit≤ tt, (lit≤ tt, (omega arith, (omega arith, b))))))
      code h m

  -- Any number that may be announced, in any number of packets from the fewest to the most that there may be, whatever comes behind the number.
  pub any-items : (d : List ℕ) → Bytes d → length (announcing code p n d) ≡ 16 * p → 0 < n → n ≤ most_items code → fewest code n ≤ p → p ≤ most_packets code
      → Sends code p n (announcing code p n d)
  unfolding announcing packets_in judged
  any-items d b l z m f k =
      let c : List ℕ = announcing code p n d in
      let s = most_seven code h in
      let t : p < 8 = omega (arith, s.1) in
      let w = first_byte code p s.0 t in
      let e : code_of (get_or c 0 0) ≡ code = w.0 in
      let q : packets_in c ≡ p = w.1 in
      let y : 0 < p = omega arith in
      let a = announced-is d in
      let v : conforms c ≡ true =
      conforms-exactly c code p n h e q a
      ∙ and-true (one_to (most_items code) n) _ (and-true (leb 1 n) (leb n (most_items code)) (le-leb 1 n z) (le-leb n (most_items code) m))
      (and-true (leb (fewest code n) p) _ (le-leb (fewest code n) p f) (le-leb p (most_packets code) k))
      in
      record {
        bytes = bytes-announcing d t m b;
        of_code = e;
        in_packets = q;
        number = a;
        conforming = rw (well-formed c p q y l, v);
      }

length-announcing : (code p n r : ℕ) → length (announcing code p n (replicate r 0)) ≡ length (announcing code p n []) + r
unfolding announcing
length-announcing code p n r = go (eqb code attr_chr)
  where
    go : (b : Bool)
        → length ((8 * code + p) ∷ cond b (0 ∷ 0 ∷ low_byte n ∷ high_byte n ∷ replicate r 0) (n ∷ replicate r 0))
        ≡ length ((8 * code + p) ∷ cond b (0 ∷ 0 ∷ low_byte n ∷ high_byte n ∷ []) (n ∷ [])) + r
    go true = omega (arith, length-replicate {A = ℕ} r 0)
    go false = omega (arith, length-replicate {A = ℕ} r 0)

some-packet : (code p n : ℕ) → announces code ≡ true → (0 < fewest code n) × (length (announcing code p n []) ≤ 16)
unfolding fewest bytes_for announcing
some-packet code p n =
    each_of-three (λ (k : ℕ). (0 < fewest k n) × (length (announcing k p n []) ≤ 16))
    (omega arith, lit≤ tt) (omega arith, lit≤ tt) (omega arith, lit≤ tt) code

-- so each number that may be announced is reached, in the fewest packets that hold it
pub each_number : (code n : ℕ) → announces code ≡ true → 0 < n → n ≤ most_items code → Sends code (fewest code n) n (bare code (fewest code n) n)
unfolding bare
each_number code n h z m =
    let p : ℕ = fewest code n in
    let r : ℕ = 16 * p - length (announcing code p n []) in
    let s = some-packet code p n h in
    any-items code p n h (replicate r 0) (zeros r) (length-announcing code p n r ∙ omega (arith, s.0, s.1)) z m (omega arith)
    (leb-true p (most_packets code) (sym (most-held code n h) ∙ le-leb n (most_items code) m))

-- and of it `verdict` can say nothing else
pub sends-conforms : (code p n : ℕ) (c : List ℕ) → Sends code p n c → (r : Result Bool Refusal) → Judges c r → r ≡ Ok true
unfolding verdict_answer
sends-conforms code p n c s r says = one_verdict r (Ok true) (says.answer ∙ s.conforming)
