-- Which blocks are valid: V1 to V6, RULES 1.6 to 1.12, in that order. Each is a test, as code can make it.
use Rattle.std.specs.Prelude.{ℕ, ◌≤◌, ◌≡◌, Bool, true, ◌&&◌, ◌||◌, cond, List, eqb, leb, length}
use Rattle.std.specs.Int.Bits.{bit_and}
use Rattle.std.proofs.Math.Pow.{are_bytes}
use Rattle.bits.specs.Over.{part}
use Rattle.bits.specs.Zero.{zeros}
use Rattle.receiver.specs.Receive.{Rx}
use Rattle.receiver.specs.Valid.{v3 as receiverValid}
use Rattle.parts.specs.Parts.{block_bytes, mask_at, index_at, pads_at, p15_at, both_at, stage_at, expected_at, received_at, bits_at, preset_on_at, countdown_at, kind_at, frozen_on_at, spare_at, spare_bytes, packet_at, packet_bytes, store_at, store_bytes, preset_at, preset_bytes, palettes_at, capture_bytes, frozen_at}
use Rattle.layout.specs.Block.{byte, is_set, stage_of, value_of}

-- mask mode and joypad mask are 3 or less, and the mask has every bit that the index has
unfoldable pub v1 : List ℕ → Bool
v1 b = leb (byte mask_at b) 3 && (leb (byte pads_at b) 3 && eqb (bit_and (byte index_at b) (byte pads_at b)) (byte index_at b))

-- the four flags are 0 or 1, both lines are high only if P15 is, and the spare bytes hold nothing
unfoldable pub v2 : List ℕ → Bool
v2 b =
    leb (byte p15_at b) 1
    && (leb (byte both_at b) 1
    && (leb (byte preset_on_at b) 1
    && (leb (byte frozen_on_at b) 1
    && (cond (is_set (byte both_at b)) (is_set (byte p15_at b)) true
    && zeros (part spare_at spare_bytes b)))))

-- V3's fields by the bytes that hold them (RULES 1.4): the receiver's number, expected, received, the bit index, and from byte 16
-- on the current packet, as the number that its sixteen bytes make; from byte 32 on the packet store. `load` reads them so (proofs/Readings)
abbrev pub receiver_in : List ℕ → Rx
receiver_in b =
    record {
      stage = stage_of (byte stage_at b);
      expected = byte expected_at b;
      received = byte received_at b;
      bits = byte bits_at b;
      packet = value_of (part packet_at packet_bytes b);
    }

abbrev pub store_in : List ℕ → List ℕ
store_in b = part store_at store_bytes b

-- byte 5 is 0, 1 or 2; what V3 asks of these fields then is `Valid` of the crate `receiver`.
-- That the packet is bytes is asked too, since a number stands for it; of a lent block they always are
unfoldable pub v3 : List ℕ → Bool
v3 b =
    leb (byte stage_at b) 2
    && (are_bytes (part packet_at packet_bytes b) && receiverValid (receiver_in b) (store_in b))

-- nothing is pending, or one of the five kinds is, with 1, 2 or 3 screens to go
unfoldable pub v4 : List ℕ → Bool
v4 b =
    (eqb (byte countdown_at b) 0 && eqb (byte kind_at b) 0)
    || (leb 1 (byte countdown_at b) && (leb (byte countdown_at b) 3 && leb (byte kind_at b) 4))

-- a preset that is not in force is all zeros
unfoldable pub v5 : List ℕ → Bool
v5 b = cond (eqb (byte preset_on_at b) 0) (zeros (part preset_at preset_bytes b)) true

-- a frozen capture must be there in mode 1, may be there in mode 0, and is not there in modes 2 and 3
unfoldable pub mask_allows : ℕ → ℕ → Bool
mask_allows mask frozenOn = cond (eqb mask 0) true (cond (eqb mask 1) (eqb frozenOn 1) (eqb frozenOn 0))

-- and one that is not there is all zeros
unfoldable pub v6 : List ℕ → Bool
v6 b =
    mask_allows (byte mask_at b) (byte frozen_on_at b)
    && cond (eqb (byte frozen_on_at b) 0) (zeros (part frozen_at capture_bytes b)) true

-- all six
unfoldable pub valid_parts : List ℕ → Bool
valid_parts b = v1 b && (v2 b && (v3 b && (v4 b && (v5 b && v6 b))))

unfoldable pub valid : List ℕ → Bool
valid b = eqb (length b) block_bytes && valid_parts b

-- what the tests of V1 to V5 ask for: a block, or as much of its front as they look at, which is all before the palettes
abbrev pub Fronted : List ℕ → Type 0
Fronted b = (palettes_at ≤ length b) × (length b ≤ block_bytes)

-- what a worker on the block asks for: a valid block. Its length, which the test says too, stands by itself, so that an index is seen to
-- be within it
pub record Valid (b : List ℕ) : Type 0 where
  pub long : length b ≡ block_bytes
  pub tested : valid b ≡ true
