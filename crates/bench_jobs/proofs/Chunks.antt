-- An input is taken chunk by chunk, each by one fill: what the fills require is kept, and what is left of the whole falls.
use Prim.Native.Nat.{ℕ, ◌+◌, ◌-◌, ◌*◌, ◌≤◌, ◌<◌}
use mathlib.Core.List.{List}
use mathlib.Core.Path.{◌≡◌, subst⁻¹}
use native.Mathlib.Omega.{arith}
use lib.ListN.{length, take, drop, length-take, length-drop}
use Rattle.layout.specs.Fresh.{post_boot}
use Rattle.log_chunks.specs.Steps.{Desk, desk, begun, Fit, Full, left}
use Rattle.log_chunks.specs.declared.Filled.{Filled}
use Rattle.log_reading.specs.declared.Reading.{Reading}
use Rattle.log_chunks.proofs.Fulls.{full-fit, full-within, full-numbered, full-less}
use Rattle.log_reader.specs.Fed.{LentSizes, out_bytes}
use Rattle.log_reader.proofs.Outcomes.{boot-fit}

-- where a reading of an input stands, with n bytes of text
pub record Within (size room : ℕ) (r : Reading) (d : Desk) (at n : ℕ) : Type 0 where
  pub fit : Fit r d
  pub within : at ≤ size
  pub numbered : r.number ≤ 1 + at
  pub roomy : n ≤ room

-- a reading begins on a fresh unit
pub begun-fit : (d : Desk) (b : List ℕ) (r : Reading) → LentSizes d → b ≡ post_boot → r ≡ begun → Fit r (desk b d.line d.bytes d.command)
begun-fit d b r s e h = subst⁻¹ (λ (x : Reading). Fit x (desk b d.line d.bytes d.command)) h (boot-fit d b s e)

-- a part that is lent has the length that was asked for
pub part_is : (xs : List ℕ) (at k : ℕ) → at + k ≤ length xs → length (take (at + k - at) (drop at xs)) ≡ k
part_is xs at k h = simp (length-take, length-drop) (omega (arith, h))

-- what is left of a chunk, and of the input that goes on behind it
left_behind : (r r' : Reading) (size at m k : ℕ) → at + m ≤ size → k ≤ m → left r' m k < left r m 0 → left r' size (at + k) < left r size at
unfolding left
left_behind r r' size at m k h i l = omega (arith, h, i, l)

left-before : (r : Reading) (size at m : ℕ) → size - at ≤ m * 4294967296 → 0 < left r size at → 0 < left r m 0
unfolding left
left-before r size at m h l = omega (arith, h, l)

module _ (size room : ℕ) (r : Reading) (d : Desk) (at n : ℕ) (chunk out : List ℕ) (g : Filled) (e : Desk) (out' : List ℕ) (s : Within size room r d at n) (f : Full r d chunk 0 out g e out') (long : at + length chunk ≤ size) where
  none : 0 ≤ length chunk
  none = omega arith

  pub ends-within : at + g.at ≤ size
  ends-within = omega (arith, full-within r d chunk 0 out g e out' s.fit none f, long)

  pub within_on : (m : ℕ) → m ≤ g.size → n + length out ≤ room → Within size room g.reading e (at + g.at) (n + m)
  within_on m h i = record {
    fit = full-fit r d chunk 0 out g e out' s.fit none f;
    within = ends-within;
    numbered = omega (arith, full-numbered r d chunk 0 out g e out' s.fit none f, s.numbered);
    roomy = omega (arith, f.fits, h, i);
  }

  pub left-falls : size - at ≤ length chunk * 4294967296 → out_bytes ≤ length out → 0 < left r size at → left g.reading size (at + g.at) < left r size at
  left-falls h big more =
      left_behind r g.reading size at (length chunk) g.at long (full-within r d chunk 0 out g e out' s.fit none f)
      (full-less r d chunk 0 out g e out' s.fit none f (left-before r size at (length chunk) h more) (omega (arith, big)))
