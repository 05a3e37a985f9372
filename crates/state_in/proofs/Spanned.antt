-- A span that the code holds, against what the definitions take of it: its bytes where it is there, and the border's three together.
use mathlib.Core.Path.{◌≡◌, refl, sym, ap, ◌∙◌}
use mathlib.Core.Bool.{Bool, true, false}
use mathlib.Core.List.{List, [], ◌∷◌}
use mathlib.Core.Option.{Option, some}
use Prim.Native.Nat.{ℕ}
use mir.Val.{bool_byte}
use lib.ListN.{length, replicate}
use Rattle.state_spans.specs.State.{is_there, bytes_in}
use Rattle.state_spans.specs.Told.{span_told}
use Rattle.state_spans.specs.Coming.{whole_border, border_from, header_from}
use Rattle.std.specs.Prelude as Code
use Rattle.std.specs.Prelude.{is_some}
use Rattle.std.specs.Borrow.{Bor}
use Rattle.layout.specs.Block.{flag, is_held, flat}
use Rattle.parts.specs.Parts.{packet_bytes, store_bytes, preset_bytes}

pub some-long : (o : Option (List ℕ)) (l : List ℕ) (n : ℕ) → o ≡ some l → length (bytes_in o) ≡ n → length l ≡ n
unfolding bytes_in
some-long o l n e h = ap (λ (x : Option (List ℕ)). length (bytes_in x)) (sym e) ∙ h

pub there-long : (o : Option (List ℕ)) (l : List ℕ) (n : ℕ) → o ≡ some l → (is_there o ≡ true → length (bytes_in o) ≡ n) → length l ≡ n
unfolding is_there
there-long o l n e h = some-long o l n e (h (ap is_there e))

pub whole-some : (t m p : Option (List ℕ)) (x y z : List ℕ) → t ≡ some x → m ≡ some y → p ≡ some z → whole_border t m p ≡ true
unfolding whole_border is_there
whole-some t m p x y z e f g = λ i. whole_border (e i) (f i) (g i)

pub border-in : (whole : Bool) (n : ℕ) (o : Option (List ℕ)) (l : List ℕ) → whole ≡ true → o ≡ some l → border_from whole n o ≡ l
unfolding border_from bytes_in
border-in whole n o l w e = λ i. border_from (w i) n (e i)

pub border-out : (whole : Bool) (n : ℕ) (o : Option (List ℕ)) → whole ≡ false → border_from whole n o ≡ replicate n 0
unfolding border_from
border-out whole n o w = ap (λ (t : Bool). border_from t n o) w

-- ---- byte 12

pub flag-byte : (t : Bool) → bool_byte t ≡ flag t
flag-byte true = refl
flag-byte false = refl

pub held-some : (o : Code.Option (Bor (List ℕ))) (t : Bool) → t ≡ is_some o → flag t ≡ is_held (span_told o)
unfolding is_held
held-some Code.None t e = ap flag e
held-some (Code.Some l) t e = ap flag e

-- a header, and zeros behind it
abbrev pub headed : List ℕ → ℕ → List ℕ
headed fields on = flat (header_from fields on ∷ replicate packet_bytes 0 ∷ replicate store_bytes 0 ∷ replicate preset_bytes 0 ∷ [])
