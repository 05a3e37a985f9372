-- A complete command is handed over as its packets tell; and the port's bytes, put back one after the other, are the parts of a unit.
use mathlib.Core.List.{List}
use mathlib.Core.Path.{◌≡◌, refl, ap, ◌∙◌}
use Prim.Native.Nat.{ℕ, zero, suc, ◌+◌, ◌*◌, ◌<◌}
use native.Mathlib.Omega.{arith}
use lib.Dec.{lit<}
use lib.ListN.{length, set, length-set, length-take}
use Rattle.parts.specs.Parts.{block_bytes, index_at, p15_at, both_at, stage_at, expected_at, received_at, bits_at, packet_at, packet_bytes, store_at, store_bytes}
use Rattle.bits.proofs.Overs.{length_over}
use Rattle.bits.specs.Over.{over}
use Rattle.receiver.proofs.Words.{length-bytes}
use Rattle.receiver.specs.Receive.{Rx, stage_number, words, rx_of}
use Rattle.std.specs.Prelude.{Some}
use Rattle.receiver.specs.Store.{bytes_of, packets_if}
use Rattle.receiver.specs.declared.Receiver.{Receiver}
use Rattle.layout.proofs.Made.{Made, made_put, made-set, made-save}
use Rattle.layout.specs.Block.{flag, parts, save}
use Rattle.layout.specs.Sgb.{Sgb}
use Rattle.block_packet.proofs.Halves.{put-words}
use Rattle.block_port.specs.Bytes.{put_receiver, put_lines, packets_told, packets_some, taken, settled, taken_by, settled_by}
use Rattle.rules.specs.Carry.{with_pads}
use Rattle.receiver_run.specs.declared.Lines.{Lines}

-- ---- a complete command

pub packets-taken : (n : ℕ) (s : List ℕ) → n < 8 → length s ≡ store_bytes → n ≡ packets_told (taken n s)
unfolding taken packets_told
packets-taken zero s few long = refl
packets-taken (suc n) s few long = omega (arith, length-take (16 * suc n) s)

-- the same of the code's packets
pub packets-some : (n : ℕ) (s : List ℕ) → n < 8 → length s ≡ store_bytes → packets_if n ≡ packets_some (taken n s)
unfolding packets_if taken packets_some packets_told
packets-some zero s few long = refl
packets-some (suc n) s few long = ap Some (packets-taken (suc n) s few long)

pub taken-if : (n : ℕ) (s : List ℕ) → taken_by (packets_if n) s ≡ taken n s
unfolding packets_if taken taken_by
taken-if zero s = refl
taken-if (suc n) s = refl

pub settled-if : (n : ℕ) (s : List ℕ) → settled_by (packets_if n) s ≡ settled n s
unfolding packets_if settled settled_by
settled-if zero s = refl
settled-if (suc n) s = refl

-- ---- the port's bytes

pub length-receiver : (r : Rx) (b : List ℕ) → length b ≡ block_bytes → length (put_receiver r b) ≡ block_bytes
unfolding put_receiver
length-receiver r b h =
    let m : List ℕ = set (set (set (set b stage_at (stage_number r.stage)) expected_at r.expected) received_at r.received) bits_at r.bits in
    let e : length m ≡ block_bytes = simp length-set h in
    length_over packet_at packet_bytes (bytes_of packet_bytes r.packet) m (omega arith) (length-bytes packet_bytes r.packet) ∙ e

-- with the stage's number n, and the packet's words put one after the other
module _ (b low : List ℕ) (n : ℕ) (r : Receiver) (long : length b ≡ block_bytes) (fits : r.lo < 18446744073709551616) (stage : n ≡ stage_number r.stage)
    (first : low ≡ over packet_at 8 (bytes_of 8 r.lo) (set (set (set (set b stage_at n) expected_at r.expected) received_at r.received) bits_at r.bits)) where
  abbrev header : List ℕ
  header = set (set (set (set b stage_at n) expected_at r.expected) received_at r.received) bits_at r.bits

  header-long : length header ≡ block_bytes
  header-long = simp length-set long

  pub receiver-put : (m : List ℕ) → m ≡ over (packet_at + 8) 8 (bytes_of 8 r.hi) low → m ≡ put_receiver (rx_of r) b
  unfolding put_receiver
  receiver-put m second =
      second
      ∙ ap (over (packet_at + 8) 8 (bytes_of 8 r.hi)) first
      ∙ put-words header packet_at r.lo r.hi (omega (arith, header-long)) fits
      ∙ (λ t. over packet_at packet_bytes (bytes_of packet_bytes (words r.lo r.hi)) (set (set (set (set b stage_at (stage t)) expected_at r.expected) received_at r.received) bits_at r.bits))

-- put back into the block of u, with the store s, they make a unit's block
pub port_made : (b : List ℕ) (u : Sgb) → Made b (parts u) → (s : List ℕ) → length s ≡ store_bytes → (r : Rx) (l : Lines)
    → put_lines l (put_receiver r (over store_at store_bytes s b))
    ≡ save (record { port = record { p15 = l.p15; both = l.both; rx = r; store = s }; game = with_pads l.index u.game.pads u.game; snes = u.snes })
unfolding put_lines put_receiver with_pads
port_made b u m s h r l =
    let m1 = made_put m 2 (lit< tt) s h in
    let m2 = made-set (made-set (made-set (made-set m1 stage_at (stage_number r.stage) (lit< tt)) expected_at r.expected (lit< tt)) received_at r.received (lit< tt)) bits_at r.bits (lit< tt) in
    let m3 = made_put m2 1 (lit< tt) (bytes_of packet_bytes r.packet) (length-bytes packet_bytes r.packet) in
    made-save _ (made-set (made-set (made-set m3 index_at l.index (lit< tt)) p15_at (flag l.p15) (lit< tt)) both_at (flag l.both) (lit< tt))
