-- A word and its two bytes tell each other, and the code's shift and OR put them together.
use mathlib.Core.Path.{◌≡◌, ap, ◌∙◌}
use Prim.Native.Nat.{ℕ, ◌*◌, ◌%◌, ◌<◌}
use native.Mathlib.Nat.{add_comm, mod-eq_of_lt}
use native.Mathlib.Omega.{arith}
use lib.Bits.{bit_or, or_shifted}
use Rattle.bits.specs.Word.{word, low_byte, high_byte}

pub low_of-word : (low high : ℕ) → low < 256 → low_byte (word low high) ≡ low
unfolding word low_byte
low_of-word low high h = omega arith

pub high_of-word : (low high : ℕ) → low < 256 → high_byte (word low high) ≡ high
unfolding word high_byte
high_of-word low high h = omega arith

pub word_of-bytes : (w : ℕ) → word (low_byte w) (high_byte w) ≡ w
unfolding word low_byte high_byte
word_of-bytes w = omega arith

pub word_lt : (low high : ℕ) → low < 256 → high < 256 → word low high < 65536
unfolding word
word_lt low high hl hh = omega arith

pub or_word : (low high : ℕ) → low < 256 → high < 256 → bit_or (high * 256 % 65536) low ≡ word low high
unfolding word
or_word low high hl hh =
    let h : high * 256 < 65536 = omega arith in
    ap (λ (m : ℕ). bit_or m low) (mod-eq_of_lt h) ∙ or_shifted high 8 low hl ∙ add_comm (high * 256) low
