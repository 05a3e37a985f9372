-- The encoder's three answers are the definition's, by the tests that the code makes; and what an answer tells is told by no other.
use mathlib.Core.Path.{◌≡◌, refl, sym, ap, ◌∙◌}
use mathlib.Core.Bool.{Bool, true, false, cond}
use mathlib.Core.List.{List, ◌++◌}
use Prim.Native.Nat.{ℕ, ◌*◌, ◌<◌, ◌≤◌}
use native.Mathlib.Omega.{arith}
use lib.ListN.{length, take, drop}
use lib.Seq.{take_at}
use borrow.Author.Tests.{lt-ltb, le-ltb}
use Rattle.bits.specs.Determined.{Once}
use Rattle.pulses.specs.Answer.{refused, given, encoded_answer, verdict_answer, packets_answer}
use Rattle.pulses.specs.Bytes.{packets_in, malformed}
use Rattle.pulses.specs.Encode.{pulses_of, short, encoding, encoded, Encodes}
use Rattle.pulses.specs.Verdict.{conforms, judged, Judges}
use Rattle.std.specs.Prelude.{Ok, Err}
use Rattle.refusal.specs.declared.Refusal.{Refusal}
use Rattle.refusal.specs.declared.Refusal.TheVariants.{Output}
use Rattle.refusal.proofs.Told.{one_told}
use Rattle.pulses.proofs.Commands.{formed, none-malformed, some-formed}
use Rattle.pulses.proofs.Packets.{length_pulses}

module _ (c o : List ℕ) where
  pub answers-malformed : (r : Refusal) → Err r ≡ packets_answer c → Encodes c o (Err r) o
  unfolding encoded_answer encoding encoded
  answers-malformed r h =
      let m = none-malformed c r h in
      record { answer = rw (m.0, m.1); output = rw m.0 }

  module _ (n : ℕ) (e : Ok n ≡ packets_answer c) where
    pub answers-short : length o < 260 * n → Encodes c o (Err Output) o
    unfolding encoded_answer encoding encoded short
    answers-short h =
        let f = some-formed c n e in
        let k : n ≡ packets_in c = f.1 in
        let s = lt-ltb (length o) (260 * packets_in c) (omega arith) in
        record { answer = rw (f.0.taken, s); output = rw (f.0.taken, s) }

    pub answers-writes : (after : List ℕ) → 260 * n ≤ length o → after ≡ pulses_of n c ++ drop (260 * n) o → Encodes c o (Ok (260 * n)) after
    unfolding encoded_answer encoding encoded short
    answers-writes after h a =
        let f = some-formed c n e in
        let k : n ≡ packets_in c = f.1 in
        let s = le-ltb (length o) (260 * packets_in c) (omega arith) in
        record {
          answer = rw (f.0.taken, s) (ap (λ (j : ℕ). given (260 * j)) k);
          output = rw (f.0.taken, s) (a ∙ ap (λ (j : ℕ). pulses_of j c ++ drop (260 * j) o) k);
        }

-- where the encoder answers a number of writes the command is one that it takes, and these are the command's pulses, at its output's front
pub encoded_pulses : (c o after : List ℕ) (n : ℕ) → Encodes c o (Ok n) after → (malformed c ≡ false) × (take n after ≡ pulses_of (packets_in c) c)
unfolding encoded_answer encoding encoded
encoded_pulses c o after n h = go (malformed c) refl (short c (length o)) h.answer h.output
  where
    go : (t : Bool) → malformed c ≡ t → (s : Bool) → given n ≡ cond t (refused 5) (cond s (refused 6) (given (260 * packets_in c)))
        → after ≡ cond t o (cond s o (pulses_of (packets_in c) c ++ drop (260 * packets_in c) o)) → (t ≡ false) × (take n after ≡ pulses_of (packets_in c) c)
    go true e s a b = absurd (let z : ◌≡◌ {A = ℕ} 0 1 = cc in omega arith)
    go false e true a b = absurd (let z : ◌≡◌ {A = ℕ} 0 1 = cc in omega arith)
    go false e false a b =
        let k : n ≡ 260 * packets_in c = cc in
        let l : length (pulses_of (packets_in c) c) ≡ 260 * packets_in c = length_pulses (packets_in c) c (omega (arith, (formed c e).whole)) in
        (refl, ap (take n) b ∙ take_at (pulses_of (packets_in c) c) (drop (260 * packets_in c) o) n (l ∙ sym k))

-- and where the verdict says that it conforms, it is one that the encoder takes, and it does
pub verdict-conforms : (c : List ℕ) → Judges c (Ok true) → (malformed c ≡ false) × (conforms c ≡ true)
unfolding verdict_answer judged
verdict-conforms c h = go (malformed c) (conforms c) h.answer
  where
    go : (t k : Bool) → given true ≡ cond t (refused 5) (given k) → (t ≡ false) × (k ≡ true)
    go true k e = absurd (let z : ◌≡◌ {A = ℕ} 0 1 = cc in omega arith)
    go false true e = (refl, refl)
    go false false e = absurd (let z : ◌≡◌ {A = ℕ} 0 1 = cc in omega arith)

-- ---- an answer is told by no other (two outcomes of a call are then equal: `unit`, proofs/Determined)

pub one-encoded : Once encoded_answer
unfolding encoded_answer
one-encoded = one_told (λ n. n) (λ a b e. e)

pub one_verdict : Once verdict_answer
unfolding verdict_answer
one_verdict = one_told (λ b. b) (λ a b e. e)
