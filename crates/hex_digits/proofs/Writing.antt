-- Bytes spelled out: how long the text is, and how it grows byte by byte.
use Prim.Native.Nat.{ℕ, ◌+◌, ◌*◌, ◌/◌, ◌%◌, ◌<◌, ◌≤◌}
use mathlib.Core.Path.{◌≡◌, refl, ap, sym, ◌∙◌}
use mathlib.Core.List.{List, [], ◌∷◌, ◌++◌, append_assoc}
use native.Mathlib.Numerals.{add-one}
use native.Mathlib.Omega.{arith}
use lib.ListN.{length, get_or, set, take, drop}
use lib.Seq.{take-suc, sets-eq, drop-drop, length-take-le}
use Rattle.bits.specs.Over.{over}
use Rattle.bits.proofs.Overs.{over-over}
use Rattle.hex_digits.specs.Hex.{capital, hex_text}

pub length-hex_text : (s : List ℕ) → length (hex_text s) ≡ 2 * length s
unfolding hex_text
length-hex_text [] = refl
length-hex_text (x ∷ s) = let ih : length (hex_text s) ≡ 2 * length s = length-hex_text s in omega arith

pub hex-append : (s t : List ℕ) → hex_text (s ++ t) ≡ hex_text s ++ hex_text t
unfolding hex_text
hex-append [] t = refl
hex-append (x ∷ s) t = rw (hex-append s t)

-- two digits in their places
pub byte_put : (b at h l : ℕ) (out : List ℕ) → at + 2 ≤ length out → h ≡ capital (b / 16) → l ≡ capital (b % 16)
    → set (set out at h) (at + 1) l ≡ over at 2 (hex_text (b ∷ [])) out
unfolding hex_text
byte_put b at h l out room eh el =
    rw (eh, el, add-one)
    (sets-eq (capital (b / 16) ∷ (capital (b % 16) ∷ [])) out at room
    ∙ append_assoc (take at out) (capital (b / 16) ∷ (capital (b % 16) ∷ [])) (drop (at + 2) out)
    ∙ ap (λ (z : List ℕ). take at out ++ (capital (b / 16) ∷ (capital (b % 16) ∷ z))) (sym (drop-drop 2 at out)))

-- one more byte
pub spell_turn : (src b m o : List ℕ) (at i : ℕ) → i < length src → at ≤ length b → m ≡ over at (2 * i) (hex_text (take i src)) b
    → o ≡ over (at + 2 * i) 2 (hex_text (get_or src i 0 ∷ [])) m → o ≡ over at (2 * (i + 1)) (hex_text (take (i + 1) src)) b
spell_turn src b m o at i h l em eo =
    let x : ℕ = get_or src i 0 in
    let n : 2 * i + 2 ≡ 2 * (i + 1) = omega arith in
    let t : List ℕ = hex_text (take i src) in
    let lt : length t ≡ 2 * i = length-hex_text (take i src) ∙ ap (λ (k : ℕ). 2 * k) (length-take-le i src (omega arith)) in
    let e : t ++ hex_text (x ∷ []) ≡ hex_text (take (i + 1) src) =
    sym (ap (λ (k : ℕ). hex_text (take k src)) (add-one i) ∙ ap hex_text (take-suc src i 0 h) ∙ hex-append (take i src) (x ∷ [])) in
    eo
    ∙ ap (over (at + 2 * i) 2 (hex_text (x ∷ []))) em
    ∙ over-over at (2 * i) 2 t (hex_text (x ∷ [])) b l lt
    ∙ (λ j. over at (n j) (e j) b)
