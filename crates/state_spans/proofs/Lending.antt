-- A span as it is lent, with the bit that tells whether it is there: what its length says, and the border's three together.
use mathlib.Core.Path.{◌≡◌, refl, ◌∙◌}
use mathlib.Core.Bool.{Bool, true, false, ◌&&◌, cond, false≢true}
use mathlib.Core.List.{List}
use mathlib.Core.Option.{Option, none, some}
use Prim.Native.Nat.{ℕ}
use borrow.Author.Tests.{eqb-true}
use lib.Dec.{eqb}
use lib.ListN.{length}
use Rattle.layout.specs.Block.{flag, is_held}
use Rattle.parts.specs.Parts.{tiles_bytes, border_map_bytes, border_palettes_bytes}
use Rattle.state_spans.specs.State.{is_there, bytes_in}
use Rattle.state_spans.specs.Coming.{has, may_have, whole_border, border_fits}

abbrev pub lent_if : Bool → List ℕ → Option (List ℕ)
lent_if t l = cond t (some l) none

-- one that must be there is there, with its length
pub has_there : (n : ℕ) (t : Bool) (l : List ℕ) → has n (lent_if t l) ≡ true → t ≡ true
unfolding has
has_there n true l h = refl
has_there n false l h = absurd (false≢true h)

pub has-long : (n : ℕ) (t : Bool) (l : List ℕ) → has n (lent_if t l) ≡ true → length l ≡ n
unfolding has
has-long n true l h = eqb-true (length l) n h
has-long n false l h = absurd (false≢true h)

pub has-bytes : (n : ℕ) (t : Bool) (l : List ℕ) → has n (lent_if t l) ≡ true → bytes_in (lent_if t l) ≡ l
unfolding has bytes_in
has-bytes n true l h = refl
has-bytes n false l h = absurd (false≢true h)

pub some_bytes : (l : List ℕ) → bytes_in (some l) ≡ l
unfolding bytes_in
some_bytes l = refl

-- one that may be missing has its length if it is there
pub may-long : (n : ℕ) (l : List ℕ) → may_have n (some l) ≡ true → length l ≡ n
unfolding may_have
may-long n l h = eqb-true (length l) n h

-- ---- the border

module _ (p q r : Bool) (x y z : List ℕ) where
  pub whole-bits : whole_border (lent_if p x) (lent_if q y) (lent_if r z) ≡ (p && (q && r))
  unfolding whole_border is_there
  whole-bits = go p q r
    where
      go : (a b c : Bool) → (is_there (lent_if a x) && (is_there (lent_if b y) && is_there (lent_if c z))) ≡ (a && (b && c))
      go true true true = refl
      go true true false = refl
      go true false c = refl
      go false b c = refl

  pub border-lengths : (p && (q && r)) ≡ true
      → (eqb (length x) tiles_bytes && (eqb (length y) border_map_bytes && eqb (length z) border_palettes_bytes)) ≡ border_fits (lent_if p x) (lent_if q y) (lent_if r z)
  unfolding border_fits whole_border is_there has
  border-lengths e = go p q r e
    where
      go : (a b c : Bool) → (a && (b && c)) ≡ true
          → (eqb (length x) tiles_bytes && (eqb (length y) border_map_bytes && eqb (length z) border_palettes_bytes)) ≡ border_fits (lent_if a x) (lent_if b y) (lent_if c z)
      go true true true h = refl
      go true true false h = absurd (false≢true h)
      go true false c h = absurd (false≢true h)
      go false b c h = absurd (false≢true h)
