-- Which rule a block breaks first, and at which byte: RULES 1.15, for who looks for the fault of a saved block. V1 to V6 themselves are `Valid`
-- of the crate `layout`; here each is the list of what it asks, each beside the byte that is told where it is not so. That both agree, that
-- every rule before the one told holds, and that the byte told is the lowest, is proofs/Brokens.
use Rattle.std.specs.Prelude.{ℕ, suc, ◌+◌, ◌-◌, ◌*◌, ◌/◌, ◌^◌, min, Bool, true, false, cond, List, [], ◌∷◌, ◌++◌, eqb, leb, ltb, drop}
use Rattle.std.proofs.Math.Option.{Option, none, some}
use Rattle.std.specs.Int.Bits.{bit_and}
use Rattle.std.proofs.Math.Pow.{are_bytes}
use Rattle.bits.specs.Over.{part}
use Rattle.parts.specs.Parts.{mask_at, index_at, pads_at, p15_at, both_at, stage_at, expected_at, received_at, bits_at, preset_on_at, countdown_at, kind_at, frozen_on_at, spare_at, spare_bytes, packet_at, packet_bytes, store_at, store_bytes, preset_at, preset_bytes, capture_bytes, frozen_at}
use Rattle.receiver.specs.Count.{count_of}
use Rattle.receiver.specs.declared.Stage.{Stage}
use Rattle.receiver.specs.declared.Stage.TheVariants.{Idle, Receiving, Awaiting}
use Rattle.layout.specs.Block.{byte, is_set, stage_of}
use Rattle.layout.specs.Valid.{mask_allows}

-- ---- what is asked, and where

-- something that a rule asks: whether it is so, and the byte that is told where it is not
pub record Asked : Type 0 where
  pub at : ℕ
  pub holds : Bool

abbrev pub asked : ℕ → Bool → Asked
asked at holds = record { at = at; holds = holds }

-- zeros: of a byte; of bytes from an offset on, each for itself; of a part of the block
abbrev pub zero_at : ℕ → List ℕ → Asked
zero_at at b = asked at (eqb (byte at b) 0)

unfoldable pub zero_from : ℕ → List ℕ → List Asked
zero_from at [] = []
zero_from at (x ∷ xs) = asked at (eqb x 0) ∷ zero_from (suc at) xs

abbrev pub zero_in : ℕ → ℕ → List ℕ → List Asked
zero_in at n b = zero_from at (part at n b)

-- ---- V1 and V2

unfoldable pub asks1 : List ℕ → List Asked
asks1 b =
    asked mask_at (leb (byte mask_at b) 3)
    ∷ asked index_at (eqb (bit_and (byte index_at b) (byte pads_at b)) (byte index_at b))
    ∷ asked pads_at (leb (byte pads_at b) 3)
    ∷ []

-- of two bytes that are set against each other, the lower
unfoldable pub asks2 : List ℕ → List Asked
asks2 b =
    asked p15_at (leb (byte p15_at b) 1)
    ∷ asked both_at (leb (byte both_at b) 1)
    ∷ asked preset_on_at (leb (byte preset_on_at b) 1)
    ∷ asked frozen_on_at (leb (byte frozen_on_at b) 1)
    ∷ asked p15_at (cond (is_set (byte both_at b)) (is_set (byte p15_at b)) true)
    ∷ zero_in spare_at spare_bytes b

-- ---- V3, by the stage, as its records have it (`Valid` of the crate `receiver`)

-- idle
unfoldable pub resting : List ℕ → List Asked
resting b = zero_at expected_at b ∷ zero_at received_at b ∷ zero_at bits_at b ∷ zero_in packet_at packet_bytes b ++ zero_in store_at store_bytes b

-- no bit is set at a bit index or past it. Bit k is bit k % 8 of byte k / 8: each byte has eight, and the next those behind them
unfoldable pub clear_from : ℕ → ℕ → List ℕ → List Asked
clear_from index at [] = []
clear_from index at (x ∷ xs) = asked at (eqb (x / 2 ^ index) 0) ∷ clear_from (index - 8) (suc at) xs

-- receiving
unfoldable pub coming : List ℕ → List Asked
coming b = asked bits_at (leb (byte bits_at b) 128) ∷ clear_from (byte bits_at b) packet_at (part packet_at packet_bytes b)

-- receiving the first packet
unfoldable pub first : List ℕ → List Asked
first b = zero_at expected_at b ∷ zero_in store_at store_bytes b

-- awaiting
unfoldable pub between : List ℕ → List Asked
between b = zero_at bits_at b ∷ zero_in packet_at packet_bytes b

-- awaiting, or receiving a later packet
unfoldable pub later : List ℕ → List Asked
later b =
    asked received_at (leb 1 (byte received_at b))
    ∷ asked expected_at (ltb (byte received_at b) (byte expected_at b))
    ∷ asked expected_at (leb (byte expected_at b) 7)
    ∷ asked expected_at (eqb (byte expected_at b) (count_of (byte store_at b)))
    ∷ zero_from (store_at + 16 * byte received_at b) (drop (16 * byte received_at b) (part store_at store_bytes b))

unfoldable pub asks_of : Stage → List ℕ → List Asked
asks_of Idle b = resting b
asks_of Receiving b = coming b ++ cond (eqb (byte received_at b) 0) (first b) (later b)
asks_of Awaiting b = between b ++ later b

-- a receiver over 2 is none of these, and nothing else is asked. That the packet is bytes V3 asks too; of a lent block they always are
unfoldable pub asks3 : List ℕ → List Asked
asks3 b =
    cond (leb (byte stage_at b) 2) (asked packet_at (are_bytes (part packet_at packet_bytes b)) ∷ asks_of (stage_of (byte stage_at b)) b) (asked stage_at false ∷ [])

-- ---- V4 to V6

-- the kind by the countdown: 0 where nothing is pending
unfoldable pub asks4 : List ℕ → List Asked
asks4 b =
    asked countdown_at (leb (byte countdown_at b) 3)
    ∷ asked kind_at (cond (eqb (byte countdown_at b) 0) (eqb (byte kind_at b) 0) (leb (byte kind_at b) 4))
    ∷ []

unfoldable pub asks5 : List ℕ → List Asked
asks5 b = cond (eqb (byte preset_on_at b) 0) (zero_in preset_at preset_bytes b) []

-- the mask mode against byte 12, and the lower of the two
unfoldable pub asks6 : List ℕ → List Asked
asks6 b =
    asked mask_at (mask_allows (byte mask_at b) (byte frozen_on_at b))
    ∷ cond (eqb (byte frozen_on_at b) 0) (zero_in frozen_at capture_bytes b) []

-- ---- the first that is broken

-- the byte of what is not so; the lower of two bytes, if there are any; the lowest byte of all that is not so
unfoldable pub byte_of : Asked → Option ℕ
byte_of a = cond a.holds none (some a.at)

unfoldable pub lower : Option ℕ → Option ℕ → Option ℕ
lower none y = y
lower (some n) none = some n
lower (some n) (some m) = some (min n m)

unfoldable pub lowest : List Asked → Option ℕ
lowest [] = none
lowest (a ∷ l) = lower (byte_of a) (lowest l)

-- a rule by its number, 1 for V1, and a byte by its offset
pub record Broken : Type 0 where
  pub rule : ℕ
  pub at : ℕ

unfoldable pub broken_or : ℕ → Option ℕ → Option Broken → Option Broken
broken_or rule none rest = rest
broken_or rule (some at) rest = some (record { rule = rule; at = at })

-- of rules that are numbered from n on
unfoldable pub first_of : ℕ → List (List Asked) → Option Broken
first_of n [] = none
first_of n (r ∷ rs) = broken_or n (lowest r) (first_of (suc n) rs)

abbrev pub rules : List ℕ → List (List Asked)
rules b = asks1 b ∷ asks2 b ∷ asks3 b ∷ asks4 b ∷ asks5 b ∷ asks6 b ∷ []

-- those that ask of nothing past the preset
abbrev pub front_rules : List ℕ → List (List Asked)
front_rules b = asks1 b ∷ asks2 b ∷ asks3 b ∷ asks4 b ∷ asks5 b ∷ []

-- of a block of the right length
unfoldable pub broken : List ℕ → Option Broken
broken b = first_of 1 (rules b)

-- ---- as one number

-- a refusal's number with an offset (RULES 2.1): the number in the low byte, the offset above it
abbrev pub numbered : ℕ → ℕ → ℕ
numbered n at = n + 256 * at

unfoldable pub number_of : ℕ → Option ℕ → ℕ
number_of n none = 0
number_of n (some at) = numbered n at

-- 20 and the rule, with its byte; 0 where no rule is broken
unfoldable pub broken_number : Option Broken → ℕ
broken_number none = 0
broken_number (some r) = numbered (20 + r.rule) r.at
