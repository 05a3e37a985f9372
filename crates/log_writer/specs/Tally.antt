-- What was written, in one number: each byte adds 2 ^ 32 and itself, so that it tells how many bytes there were and their sum. A text that
-- is written twice, left out, cut short, or written before it is made gives another number.
use Rattle.std.specs.Prelude.{◌≡◌, ℕ, ◌+◌, ◌%◌, ◌^◌, ◌<◌, Bool, true, false, List, [], ◌∷◌, length, take}

unfoldable pub tallied : ℕ → List ℕ → ℕ
tallied t [] = t
tallied t (b ∷ bs) = tallied ((t + (4294967296 + b)) % 2 ^ 64) bs

-- all of a text went out, or a beginning of it and nothing more
unfoldable pub Sent : Bool → ℕ → List ℕ → ℕ → Type 0
Sent true t text t' = t' ≡ tallied t text
Sent false t text t' = (n : ℕ) × ((n < length text) × (t' ≡ tallied t (take n text)))
