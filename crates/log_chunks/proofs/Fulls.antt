-- What a fill's contract (`Full`) tells its caller, once for all who feed chunks: the answer is the fill's, what the steps require is kept, and
-- with room for a step's text less is left to do.
use mathlib.Core.Path.{◌≡◌, ap, ap₂, subst⁻¹}
use mathlib.Core.List.{List}
use Prim.Native.Nat.{ℕ, ◌+◌, ◌≤◌, ◌<◌}
use native.Mathlib.Omega.{arith}
use lib.ListN.{length}
use Rattle.log_reading.specs.declared.Reading.{Reading}
use Rattle.log_chunks.specs.Steps.{Desk, Filling, fill, filled_to, Full, left, step_room, Fit}
use Rattle.log_chunks.specs.declared.Filled.{Filled}
use Rattle.log_chunks.specs.Texts.{shown}
use Rattle.log_chunks.proofs.Fills.{FillKeeps, fill-keeps, fill-less}

module _ (r : Reading) (d : Desk) (chunk : List ℕ) (at : ℕ) (out : List ℕ) (g : Filled) (e : Desk) (out' : List ℕ) (fit : Fit r d) (within : at ≤ length chunk)
    (f : Full r d chunk at out g e out') where
  abbrev F : Filling
  F = fill (length out) r d chunk at

  keeps : FillKeeps r (length chunk) at F
  keeps = fill-keeps (length out) r d chunk at fit within

  -- ---- the answer

  pub full-reading : g.reading ≡ F.reading
  unfolding filled_to
  full-reading = ap (λ (x : Filled). x.reading) f.goes

  pub full_at : g.at ≡ F.at
  unfolding filled_to
  full_at = ap (λ (x : Filled). x.at) f.goes

  pub full_size : g.size ≡ length (shown F.events)
  unfolding filled_to
  full_size = ap (λ (x : Filled). x.size) f.goes

  pub full-refused : g.refused ≡ F.refused
  unfolding filled_to
  full-refused = ap (λ (x : Filled). x.refused) f.goes

  -- ---- what is kept

  pub full-fit : Fit g.reading e
  full-fit = subst⁻¹ (λ (x : Reading). Fit x e) full-reading (subst⁻¹ (λ (y : Desk). Fit F.reading y) f.lends keeps.fit)

  pub full-within : g.at ≤ length chunk
  full-within = omega (arith, full_at, keeps.within)

  pub full-numbered : g.reading.number + at ≤ r.number + g.at
  full-numbered = omega (arith, full_at, ap (λ (x : Reading). x.number) full-reading, keeps.numbered)

  pub full-less : 0 < left r (length chunk) at → step_room ≤ length out → left g.reading (length chunk) g.at < left r (length chunk) at
  full-less more big =
      subst⁻¹ (λ (n : ℕ). n < left r (length chunk) at) (ap₂ (λ (x : Reading) (i : ℕ). left x (length chunk) i) full-reading full_at)
      (fill-less (length out) r d chunk at fit within more big)
