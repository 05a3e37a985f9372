-- A part of a list, and a list with another part in its place.
use Rattle.std.specs.Prelude.{ℕ, List, ◌++◌, take, drop}

-- the n elements of b from `at` on: what `&b[at..at + n]` lends
abbrev pub part : ℕ → ℕ → List ℕ → List ℕ
part at n b = take n (drop at b)

-- b with ys in the place of its n elements from `at` on: what `&mut b[at..at + n]` leaves where ys comes back
abbrev pub over : ℕ → ℕ → List ℕ → List ℕ → List ℕ
over at n ys b = take at b ++ (ys ++ drop n (drop at b))
