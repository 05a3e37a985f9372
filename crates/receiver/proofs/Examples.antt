-- Worked examples of the receiver, computed from the definitions: RULES 10.2, and what the print of RULES 8.5 rests on.
use mathlib.Core.Path.{◌≡◌, refl}
use mathlib.Core.Bool.{true}
use mathlib.Core.List.{List, [], ◌∷◌}
use lib.ListN.{replicate}
use Prim.Native.Nat.{ℕ}
use Rattle.parts.specs.Parts.{store_bytes}
use Rattle.bits.specs.Bit.{bit_of}
use Rattle.receiver.specs.Lines.{p14_high, p15_high, both_high, pulse_by, pulse_of}
use Rattle.receiver.specs.Receive.{idle, begun, data_bit, quiet, clocked, when_idle, when_receiving, pulsed, after_pulse}
use Rattle.receiver.specs.Store.{filed, answer_of, emptied}
use Rattle.receiver.specs.Port.{Port, answered, wrote, told, heard}

-- as `post_boot` leaves it: both lines high, nothing received
abbrev booted : Port
booted = record { p15 = true; both = true; rx = idle; store = replicate store_bytes 0 }

-- the bit index after some writes
abbrev index_after : List ℕ → ℕ
index_after ws = (heard booted ws).port.rx.bits

-- the writes of RULES 8.5: a start pulse, a release, and a data bit
pub released : index_after (0x00 ∷ 0x30 ∷ 0x20 ∷ []) ≡ 1
unfolding heard told answered wrote after_pulse pulsed when_idle when_receiving clocked quiet data_bit idle begun filed answer_of emptied pulse_of pulse_by p14_high p15_high both_high bit_of
released = refl

-- a start pulse, and a zero with no release before it, which clocks nothing (RULES 10.2)
pub not-released : index_after (0x00 ∷ 0x20 ∷ []) ≡ 0
unfolding heard told answered wrote after_pulse pulsed when_idle when_receiving clocked quiet data_bit idle begun filed answer_of emptied pulse_of pulse_by p14_high p15_high both_high bit_of
not-released = refl
