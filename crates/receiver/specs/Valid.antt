-- V3, RULES 1.8, row by row: which receivers, with their packet store, are valid.
-- `V3` tells it by name, for proofs; `v3` as a test, for code. They agree (`proofs/Checks`), and every write keeps V3 (`proofs/Keeps`).
use Rattle.std.specs.Prelude.{ℕ, ◌*◌, ◌^◌, ◌<◌, ◌≤◌, ◌≡◌, Bool, true, ◌&&◌, cond, List, ◌⊎◌, eqb, leb, ltb, get_or, drop}
use Rattle.bits.specs.Zero.{zeros}
use Rattle.receiver.specs.Count.{count_of}
use Rattle.receiver.specs.Receive.{Rx}
use Rattle.receiver.specs.declared.Stage.{Stage}
use Rattle.receiver.specs.declared.Stage.TheVariants.{Idle, Receiving, Awaiting}

-- idle: nothing is held
pub record Resting (r : Rx) (s : List ℕ) : Type 0 where
  pub expected : r.expected ≡ 0
  pub received : r.received ≡ 0
  pub bits : r.bits ≡ 0
  pub packet : r.packet ≡ 0
  pub store : zeros s ≡ true

-- receiving: up to 128 bits are in, and none that is still to come is set. Bit index, packet
pub record Coming (b p : ℕ) : Type 0 where
  pub bound : b ≤ 128
  pub clear : p < 2 ^ b

-- awaiting: no bit of a packet is in. Bit index, packet
pub record Between (b p : ℕ) : Type 0 where
  pub bits : b ≡ 0
  pub packet : p ≡ 0

-- the first packet is coming in: how many there will be is not known yet, and none is stored. Expected, received, store
pub record First (e n : ℕ) (s : List ℕ) : Type 0 where
  pub none_in : n ≡ 0
  pub none_due : e ≡ 0
  pub empty : zeros s ≡ true

-- later: some of at most seven packets are in and some are due, the first byte in the store counts them, and behind those that are in the
-- store is zero
pub record Later (e n : ℕ) (s : List ℕ) : Type 0 where
  pub some_in : 1 ≤ n
  pub more_due : n < e
  pub few : e ≤ 7
  pub counted : e ≡ count_of (get_or s 0 0)
  pub rest_empty : zeros (drop (16 * n) s) ≡ true

-- by the stage, which is one of the three
abbrev pub V3At : Stage → Rx → List ℕ → Type 0
V3At Idle r s = Resting r s
V3At Receiving r s = Coming r.bits r.packet × (First r.expected r.received s ⊎ Later r.expected r.received s)
V3At Awaiting r s = Between r.bits r.packet × Later r.expected r.received s

abbrev pub V3 : Rx → List ℕ → Type 0
V3 r s = V3At r.stage r s

-- ---- the same as a test

unfoldable pub later : ℕ → ℕ → List ℕ → Bool
later e n s = leb 1 n && (ltb n e && (leb e 7 && (eqb e (count_of (get_or s 0 0)) && zeros (drop (16 * n) s))))

unfoldable pub v3_at : Stage → Rx → List ℕ → Bool
v3_at Idle r s = eqb r.expected 0 && (eqb r.received 0 && (eqb r.bits 0 && (eqb r.packet 0 && zeros s)))
v3_at Receiving r s =
    leb r.bits 128
    && (ltb r.packet (2 ^ r.bits)
    && cond (eqb r.received 0) (eqb r.expected 0 && zeros s) (later r.expected r.received s))
v3_at Awaiting r s = eqb r.bits 0 && (eqb r.packet 0 && later r.expected r.received s)

unfoldable pub v3 : Rx → List ℕ → Bool
v3 r s = v3_at r.stage r s
