-- MLT_REQ at the greatest index, and commands of each sort decoded, computed. The examples of RULES 10.1 are in the crate `pairs`.
use Rattle.std.proofs.Common.{◌≡◌, ℕ, true, List, ◌∷◌, replicate, refl}
use Rattle.bits.specs.Bit.{bit_of}
use Rattle.receiver.specs.Count.{code_of}
use Rattle.transfer.specs.declared.pending.Transfer.TheVariants.{BorderTiles}
use Rattle.commands.specs.Command.{masking, find, decode}
use Rattle.commands.specs.Pads.{mlt_index}
use Rattle.commands.specs.Command as S

-- a packet of two bytes and fourteen zeros
abbrev packet_of : ℕ → ℕ → List ℕ
packet_of a b = a ∷ b ∷ replicate 14 0

-- MLT_REQ 2 at index 255: the sum wraps; MLT_REQ 3 only masks
pub mlt_wraps : mlt_index 2 255 ≡ 0
unfolding mlt_index
mlt_wraps = refl

pub mlt_masks : mlt_index 3 255 ≡ 3
unfolding mlt_index
mlt_masks = refl

-- B9 02: MASK_EN, black; B9 05 freezes, by its low two bits, and is fixed
pub black : decode (packet_of 0xB9 2) ≡ S.plain (S.mask_en 2)
unfolding decode code_of find masking
black = refl

pub freezes : decode (packet_of 0xB9 5) ≡ S.fixed S.freeze
unfolding decode code_of find masking
freezes = refl

-- CHR_TRN for the upper half; PAL12; SOUND, which does nothing
pub upper : decode (packet_of 0x99 3) ≡ S.fixed (S.transfer (BorderTiles true))
unfolding decode code_of find bit_of
upper = refl

pub pal12 : decode (packet_of 0x19 0) ≡ S.plain (S.pal_pair 1 2 (packet_of 0x19 0))
unfolding decode code_of find
pal12 = refl

pub sound : decode (packet_of 0x41 0) ≡ S.plain S.nothing
unfolding decode code_of find
sound = refl
