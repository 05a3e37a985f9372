-- `Made b ps`: the bytes b are the parts ps, each of its size. A function that changes the block step by step is a chain of these laws:
-- where it begins (`made_of`), a part that comes back (`made_put`), a byte of the header (`made-set`), and what is read (`made_get`, `made-byte`).
use mathlib.Core.Path.{◌≡◌, sym, ap, ◌∙◌}
use mathlib.Core.Bool.{true}
use mathlib.Core.List.{List, [], ◌∷◌, map}
use Prim.Native.Nat.{ℕ, ◌+◌, ◌≤◌, ◌<◌}
use native.Mathlib.Omega.{arith}
use lib.ListN.{length, take, get_or, set, length-set, get_or-append}
use lib.Seq.{set-append_left}
use Rattle.bits.specs.Over.{part, over}
use Rattle.bits.proofs.Overs.{over-within}
use Rattle.parts.specs.Parts.{block_bytes, header_bytes, sizes, sum}
use Rattle.layout.specs.Block.{flat, parts, load, save}
use Rattle.layout.specs.Valid.{valid}
use Rattle.layout.specs.Sgb.{Sgb}
use Rattle.layout.proofs.Cut.{get-part, put-part, put-sized, length-flat}
use Rattle.layout.proofs.Saved.{clauses, save-load}
use Rattle.layout.proofs.Goods.{sized, valid-good}

pub record Made (b : List ℕ) (ps : List (List ℕ)) : Type 0 where
  pub eq : b ≡ flat ps
  pub fit : map length ps ≡ sizes

-- a valid block is the parts of the unit that it holds
pub made_of : (b : List ℕ) → valid b ≡ true → Made b (parts (load b))
made_of b v = unfold save in record { eq = sym (save-load b (clauses b v)); fit = sized (load b) (valid-good b v) }

-- where the parts are those of a unit, the bytes are its block
pub made-save : {b : List ℕ} (u : Sgb) → Made b (parts u) → b ≡ save u
made-save u m = unfold save in m.eq

pub made-long : {b : List ℕ} {ps : List (List ℕ)} → Made b ps → length b ≡ block_bytes
made-long {b} {ps} m = ap length m.eq ∙ length-flat ps ∙ ap sum m.fit

-- the k-th part is read
pub made_get : {b : List ℕ} {ps : List (List ℕ)} → Made b ps → (k : ℕ) → k < 13 → part (sum (take k sizes)) (get_or sizes k 0) b ≡ get_or ps k []
made_get {b} {ps} m k h = ap (part (sum (take k sizes)) (get_or sizes k 0)) m.eq ∙ get-part sizes ps m.fit k h

-- the k-th part comes back as ys
pub made_put : {b : List ℕ} {ps : List (List ℕ)} → Made b ps → (k : ℕ) → k < 13 → (ys : List ℕ) → length ys ≡ get_or sizes k 0
    → Made (over (sum (take k sizes)) (get_or sizes k 0) ys b) (set ps k ys)
made_put {b} {ps} m k h ys e = record {
  eq = ap (over (sum (take k sizes)) (get_or sizes k 0) ys) m.eq ∙ put-part sizes ps m.fit k h ys;
  fit = put-sized sizes ps m.fit k ys e;
}

-- n bytes of the k-th part, from its i-th on, come back as ys
pub over-inside : (b : List ℕ) → length b ≡ block_bytes → (k : ℕ) → (i n : ℕ) → i + n ≤ get_or sizes k 0 → sum (take k sizes) + get_or sizes k 0 ≤ block_bytes → (ys : List ℕ)
    → over (sum (take k sizes) + i) n ys b ≡ over (sum (take k sizes)) (get_or sizes k 0) (over i n ys (part (sum (take k sizes)) (get_or sizes k 0) b)) b
over-inside b h k i n fits ends ys = over-within (sum (take k sizes)) (get_or sizes k 0) i n ys b fits (omega arith)

-- ---- the header

header-long : {b h : List ℕ} {ps : List (List ℕ)} → Made b (h ∷ ps) → length h ≡ header_bytes
header-long m = ap (λ (l : List ℕ). get_or l 0 0) m.fit

pub made-set : {b h : List ℕ} {ps : List (List ℕ)} → Made b (h ∷ ps) → (j v : ℕ) → j < header_bytes → Made (set b j v) (set h j v ∷ ps)
made-set {b} {h} {ps} m j v lt = record {
  eq = ap (λ (l : List ℕ). set l j v) m.eq ∙ set-append_left h (flat ps) j v (omega (arith, header-long m));
  fit = ap (λ (n : ℕ). n ∷ map length ps) (length-set h j v) ∙ m.fit;
}

pub made-byte : {b h : List ℕ} {ps : List (List ℕ)} → Made b (h ∷ ps) → (j : ℕ) → j < header_bytes → get_or b j 0 ≡ get_or h j 0
made-byte {b} {h} {ps} m j lt = ap (λ (l : List ℕ). get_or l j 0) m.eq ∙ get_or-append h (flat ps) 0 j (omega (arith, header-long m))
