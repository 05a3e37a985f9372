-- The port's bytes of the block: what the code reads of a unit and puts back. RULES 1.4 and 1.5: bytes 1 and 3 to 8, and the
-- current packet from byte 16 on. The packet store is a part of its own.
use Rattle.std.specs.Prelude.{ℕ, zero, suc, ◌*◌, ◌/◌, List, ◌++◌, length, take, drop, set, replicate}
use Rattle.std.specs.Prelude as code
use Rattle.std.specs.Prelude.{None, Some}
use Rattle.std.proofs.Math.Option.{Option, none, some}
use Rattle.bits.specs.Over.{over}
use Rattle.receiver.specs.Receive.{Rx, stage_number}
use Rattle.receiver.specs.Store.{bytes_of}
use Rattle.receiver_run.specs.declared.Lines.{Lines}
use Rattle.parts.specs.Parts.{index_at, p15_at, both_at, stage_at, expected_at, received_at, bits_at, packet_at, packet_bytes, store_bytes}
use Rattle.layout.specs.Block.{flag}
use Rattle.layout.specs.Sgb.{Sgb}

-- the lines and the joypad index of a unit
unfoldable pub lines_of : Sgb → Lines
lines_of u = record { p15 = u.port.p15; both = u.port.both; index = u.game.index }

-- the block b with this receiver
unfoldable pub put_receiver : Rx → List ℕ → List ℕ
put_receiver r b =
    over packet_at packet_bytes (bytes_of packet_bytes r.packet)
    (set (set (set (set b stage_at (stage_number r.stage)) expected_at r.expected) received_at r.received) bits_at r.bits)

-- the block b with these lines and this joypad index
unfoldable pub put_lines : Lines → List ℕ → List ℕ
put_lines l b = set (set (set b index_at l.index) p15_at (flag l.p15)) both_at (flag l.both)

-- ---- the command buffer

-- RULES 3.9: a command's bytes stand at the buffer's front, and its tail is kept; where there is no command the buffer stays as it is
unfoldable pub handed : Option (List ℕ) → List ℕ → List ℕ
handed none buffer = buffer
handed (some c) buffer = c ++ drop (length c) buffer

-- the packets of a command that is complete, or 0
unfoldable pub packets_told : Option (List ℕ) → ℕ
packets_told none = 0
packets_told (some c) = length c / 16

-- the same as the code answers it
unfoldable pub packets_some : Option (List ℕ) → code.Option ℕ
packets_some none = None
packets_some (some c) = Some (length c / 16)

-- ---- a complete command of so many packets, or 0

-- it stands at the front of the store
unfoldable pub taken : ℕ → List ℕ → Option (List ℕ)
taken zero s = none
taken (suc n) s = some (take (16 * suc n) s)

-- .. and when it was taken the store is empty
unfoldable pub settled : ℕ → List ℕ → List ℕ
settled zero s = s
settled (suc n) s = replicate store_bytes 0

-- the same of the code's packets
unfoldable pub taken_by : code.Option ℕ → List ℕ → Option (List ℕ)
taken_by None s = none
taken_by (Some n) s = some (take (16 * n) s)

unfoldable pub settled_by : code.Option ℕ → List ℕ → List ℕ
settled_by None s = s
settled_by (Some n) s = replicate store_bytes 0
