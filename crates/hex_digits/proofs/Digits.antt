-- The digits' tests by masks, tried at every byte; and two digits in one word, tried at every two.
use mathlib.Core.Path.{◌≡◌, sym, ◌∙◌}
use mathlib.Core.Bool.{cond}
use Prim.Native.Nat.{ℕ, ◌+◌, ◌*◌, ◌/◌, ◌%◌, ◌<◌, ◌≤◌}
use borrow.Author.Tests.{lt-ltb}
use lib.Bits.{bit_and, bit_or, bit_xor, and_le_r}
use lib.Dec.{ltb, eqb}
use Rattle.bits.specs.Word.{word}
use Rattle.bits.proofs.Every.{same-below, same_below₂}
use Rattle.hex_digits.specs.Hex.{nibble}

unfoldable pub masked : ℕ → ℕ
masked b =
    cond (ltb (bit_xor b 48) 10) (bit_xor b 48)
    (cond (eqb (bit_xor (bit_or b 32) 96) 0) 16
    (cond (ltb (bit_xor (bit_or b 32) 96) 7) (bit_xor (bit_or b 32) 96 + 9) 16))

pub masked_is : (b : ℕ) → b < 256 → masked b ≡ nibble b
unfolding masked nibble
masked_is b h = same-below 256 masked nibble tt b h

-- the values of both digits of a word, and the byte that they spell
unfoldable pub values : ℕ → ℕ
values w = bit_and w 0x0F0F + bit_and (w / 64) 0x0101 * 9

unfoldable pub joined : ℕ → ℕ
joined w = bit_and (bit_or (values w * 16 % 65536) (values w / 256)) 255

pub joined_small : (w : ℕ) → joined w ≤ 255
unfolding joined
joined_small w = and_le_r (bit_or (values w * 16 % 65536) (values w / 256)) 255

-- nothing is said of a byte that is no digit
both : ℕ → ℕ → ℕ → ℕ
both h l v = cond (ltb (nibble h) 16) (cond (ltb (nibble l) 16) v 0) 0

tried : (h l : ℕ) → h < 256 → l < 256 → both h l (joined (word h l)) ≡ both h l (nibble h * 16 + nibble l)
unfolding both joined values word nibble
tried h l = same_below₂ 256 256 (λ h l. both h l (joined (word h l))) (λ h l. both h l (nibble h * 16 + nibble l)) tt h l

both_is : (h l v : ℕ) → nibble h < 16 → nibble l < 16 → both h l v ≡ v
unfolding both
both_is h l v dh dl = rw (lt-ltb (nibble h) 16 dh, lt-ltb (nibble l) 16 dl)

pub joined_is : (h l : ℕ) → h < 256 → l < 256 → nibble h < 16 → nibble l < 16 → joined (word h l) ≡ nibble h * 16 + nibble l
joined_is h l bh bl dh dl = sym (both_is h l (joined (word h l)) dh dl) ∙ tried h l bh bl ∙ both_is h l (nibble h * 16 + nibble l) dh dl
