-- Eight bytes at once: read as one word of 64 bits, since the shifted bytes share no bit, and stored one after the other, as a part.
use mathlib.Core.Path.{◌≡◌, sym, ap, ◌∙◌}
use mathlib.Core.List.{List, [], ◌∷◌, ◌++◌, append_assoc}
use Prim.Native.Nat.{ℕ, suc, ◌+◌, ◌*◌, ◌%◌, ◌^◌, ◌<◌, ◌≤◌}
use native.Mathlib.Omega.{arith}
use lib.Bits.{bit_or, or_shifted_r}
use lib.ListN.{length, take, drop, set}
use lib.Pow.{shl_exact}
use lib.Seq.{drop-drop, sets-eq}
use Rattle.bits.specs.Over.{over}

-- a byte joins the bytes below it
or_byte : (acc k b : ℕ) → acc < 2 ^ k → b < 256 → 8 + k ≤ 64 → bit_or acc ((b * 2 ^ k) % 18446744073709551616) ≡ acc + b * 2 ^ k
or_byte acc k b h l f = ap (bit_or acc) (shl_exact 8 k 64 l f) ∙ or_shifted_r b k acc h ∙ omega arith

pub eight-bytes : (b0 b1 b2 b3 b4 b5 b6 b7 : ℕ) → b0 < 256 → b1 < 256 → b2 < 256 → b3 < 256 → b4 < 256 → b5 < 256 → b6 < 256 → b7 < 256
    → bit_or (bit_or (bit_or (bit_or (bit_or (bit_or (bit_or b0 ((b1 * 2 ^ 8) % 18446744073709551616)) ((b2 * 2 ^ 16) % 18446744073709551616))
    ((b3 * 2 ^ 24) % 18446744073709551616)) ((b4 * 2 ^ 32) % 18446744073709551616)) ((b5 * 2 ^ 40) % 18446744073709551616))
    ((b6 * 2 ^ 48) % 18446744073709551616)) ((b7 * 2 ^ 56) % 18446744073709551616)
    ≡ b0 + b1 * 256 + b2 * 65536 + b3 * 16777216 + b4 * 4294967296 + b5 * 1099511627776 + b6 * 281474976710656 + b7 * 72057594037927936
eight-bytes b0 b1 b2 b3 b4 b5 b6 b7 h0 h1 h2 h3 h4 h5 h6 h7 =
    let s : ℕ → ℕ → ℕ → ℕ = λ (acc k b : ℕ). bit_or acc ((b * 2 ^ k) % 18446744073709551616) in
    let v1 : ℕ = b0 + b1 * 256 in
    let v2 : ℕ = v1 + b2 * 65536 in
    let v3 : ℕ = v2 + b3 * 16777216 in
    let v4 : ℕ = v3 + b4 * 4294967296 in
    let v5 : ℕ = v4 + b5 * 1099511627776 in
    let v6 : ℕ = v5 + b6 * 281474976710656 in
    ap (λ (y : ℕ). s (s (s (s (s (s y 16 b2) 24 b3) 32 b4) 40 b5) 48 b6) 56 b7) (or_byte b0 8 b1 h0 h1 (omega arith))
    ∙ ap (λ (y : ℕ). s (s (s (s (s y 24 b3) 32 b4) 40 b5) 48 b6) 56 b7) (or_byte v1 16 b2 (omega arith) h2 (omega arith))
    ∙ ap (λ (y : ℕ). s (s (s (s y 32 b4) 40 b5) 48 b6) 56 b7) (or_byte v2 24 b3 (omega arith) h3 (omega arith))
    ∙ ap (λ (y : ℕ). s (s (s y 40 b5) 48 b6) 56 b7) (or_byte v3 32 b4 (omega arith) h4 (omega arith))
    ∙ ap (λ (y : ℕ). s (s y 48 b6) 56 b7) (or_byte v4 40 b5 (omega arith) h5 (omega arith))
    ∙ ap (λ (y : ℕ). s y 56 b7) (or_byte v5 48 b6 (omega arith) h6 (omega arith))
    ∙ or_byte v6 56 b7 (omega arith) h7 (omega arith)

-- eight stores in a row
pub store_eight : (b : List ℕ) (at v0 v1 v2 v3 v4 v5 v6 v7 : ℕ) → at + 8 ≤ length b
    → set (set (set (set (set (set (set (set b at v0) (at + 1) v1) (at + 2) v2) (at + 3) v3) (at + 4) v4) (at + 5) v5) (at + 6) v6) (at + 7) v7
    ≡ over at 8 (v0 ∷ v1 ∷ v2 ∷ v3 ∷ v4 ∷ v5 ∷ v6 ∷ v7 ∷ []) b
store_eight b at v0 v1 v2 v3 v4 v5 v6 v7 h =
    let i1 : at + 1 ≡ suc at = omega arith in
    let i2 : at + 2 ≡ suc (suc at) = omega arith in
    let i3 : at + 3 ≡ suc (suc (suc at)) = omega arith in
    let i4 : at + 4 ≡ suc (suc (suc (suc at))) = omega arith in
    let i5 : at + 5 ≡ suc (suc (suc (suc (suc at)))) = omega arith in
    let i6 : at + 6 ≡ suc (suc (suc (suc (suc (suc at))))) = omega arith in
    let i7 : at + 7 ≡ suc (suc (suc (suc (suc (suc (suc at)))))) = omega arith in
    let vs : List ℕ = v0 ∷ v1 ∷ v2 ∷ v3 ∷ v4 ∷ v5 ∷ v6 ∷ v7 ∷ [] in
    (λ t. set (set (set (set (set (set (set (set b at v0) (i1 t) v1) (i2 t) v2) (i3 t) v3) (i4 t) v4) (i5 t) v5) (i6 t) v6) (i7 t) v7)
    ∙ sets-eq vs b at h
    ∙ append_assoc (take at b) vs (drop (at + 8) b)
    ∙ ap (λ (l : List ℕ). take at b ++ (vs ++ l)) (sym (drop-drop 8 at b))
