-- What a pulse does to the receiver, case by case. Next door: the packet store and the whole write (`Store`, `Port`).
-- RULES 3.3 to 3.7; Pan Docs, Command packet transfers. Either stop pulse is taken, as in the Rust: Pan Docs gives it as 0.
-- The packet that is coming in is one number below 2 ^ 128: its bytes first to last, each least significant bit first.
use Rattle.std.specs.Prelude.{ℕ, ◌+◌, ◌*◌, ◌%◌, ◌^◌, ◌<◌, ◌≤◌, ◌≡◌, Bool, cond, eqb, leb, ltb}
use Rattle.receiver.specs.Count.{count_of}
use Rattle.receiver.specs.Lines.{Pulse, start, one, zero, release}
use Rattle.receiver.specs.declared.Done.{Done}
use Rattle.receiver.specs.declared.Done.TheVariants.{Nothing, Packet, Command}
use Rattle.receiver.specs.declared.Written.{Written}
use Rattle.receiver.specs.declared.Stage.{Stage}
use Rattle.receiver.specs.declared.Stage.TheVariants.{Idle, Receiving, Awaiting}
use Rattle.receiver.specs.declared.Receiver.{Receiver}

pub record Rx : Type 0 where
  pub stage : Stage
  pub expected : ℕ
  pub received : ℕ
  pub bits : ℕ
  pub packet : ℕ

-- the receiver after a pulse, and what the pulse completed
pub record Step : Type 0 where
  pub next : Rx
  pub done : Done

-- byte 5 of the block (RULES 1.4)
unfoldable pub stage_number : Stage → ℕ
stage_number Idle = 0
stage_number Receiving = 1
stage_number Awaiting = 2

unfoldable pub idle : Rx
idle = record { stage = Idle; expected = 0; received = 0; bits = 0; packet = 0 }

-- a packet begins: none of its bits is in, and of e packets n are
unfoldable pub begun : ℕ → ℕ → Rx
begun e n = record { stage = Receiving; expected = e; received = n; bits = 0; packet = 0 }

-- this packet begins again; those that are in stay (RULES 3.4)
unfoldable pub restarted : Rx → Rx
restarted r = begun r.expected r.received

-- a data bit takes the next place, from the lowest up (RULES 3.5)
unfoldable pub data_bit : Rx → ℕ → Rx
data_bit r b =
    record {
      stage = r.stage;
      expected = r.expected;
      received = r.received;
      bits = r.bits + 1;
      packet = r.packet + b * 2 ^ r.bits;
    }

unfoldable pub quiet : Rx → Step
quiet r = record { next = r; done = Nothing }

-- this packet is in, and n are expected: with the last one the command is complete, else the next is awaited (RULES 3.6)
unfoldable pub kept : Rx → ℕ → Step
kept r n =
    cond (leb n (r.received + 1))
    (record { next = idle; done = Command (r.received + 1) })
    (record {
      next = record { stage = Awaiting; expected = n; received = r.received + 1; bits = 0; packet = 0 };
      done = Packet r.received;
    })

-- the first packet's first byte tells how many there are; where it tells 0 the packet is dropped (RULES 3.6)
unfoldable pub expecting : Rx → ℕ → Step
expecting r n = cond (eqb n 0) (quiet idle) (kept r n)

unfoldable pub stopped : Rx → Step
stopped r = cond (eqb r.received 0) (expecting r (count_of (r.packet % 256))) (kept r r.expected)

-- one line low, which counts only after a release: a data bit while one is due, and then the stop pulse (RULES 3.4)
unfoldable pub clocked : Rx → ℕ → Bool → Step
clocked r b released =
    cond released (cond (ltb r.bits 128) (quiet (data_bit r b)) (stopped r)) (quiet r)

-- a start pulse begins a command (RULES 3.3)
unfoldable pub when_idle : Rx → Pulse → Step
when_idle r start = quiet (begun 0 0)
when_idle r one = quiet r
when_idle r zero = quiet r
when_idle r release = quiet r

-- a start pulse restarts the packet, a release does nothing, and one line low clocks (RULES 3.4)
unfoldable pub when_receiving : Rx → Pulse → Bool → Step
when_receiving r start released = quiet (restarted r)
when_receiving r release released = quiet r
when_receiving r one released = clocked r 1 released
when_receiving r zero released = clocked r 0 released

-- a start pulse begins the next packet (RULES 3.7)
unfoldable pub when_awaiting : Rx → Pulse → Step
when_awaiting r start = quiet (restarted r)
when_awaiting r one = quiet r
when_awaiting r zero = quiet r
when_awaiting r release = quiet r

unfoldable pub pulsed : Stage → Rx → Pulse → Bool → Step
pulsed Idle r p released = when_idle r p
pulsed Receiving r p released = when_receiving r p released
pulsed Awaiting r p released = when_awaiting r p

-- a write, by its pulse and whether both lines were high before it
unfoldable pub after_pulse : Rx → Pulse → Bool → Step
after_pulse r p released = pulsed r.stage r p released

-- ---- the code's receiver is this one, its packet in two words

abbrev pub words : ℕ → ℕ → ℕ
words lo hi = hi * 18446744073709551616 + lo

abbrev pub rx_of : Receiver → Rx
rx_of r =
    record {
      stage = r.stage;
      expected = r.expected;
      received = r.received;
      bits = r.bits;
      packet = words r.lo r.hi;
    }

abbrev pub step_of : Written → Step
step_of w = record { next = rx_of w.next; done = w.done }

-- what the methods require of a receiver: a part of V3, which every pulse keeps
pub record Sound (r : Rx) : Type 0 where
  pub bound : r.bits ≤ 128
  pub clear : r.packet < 2 ^ r.bits
  pub room : r.received < 7
  pub due : r.expected ≤ 7
  pub rests : r.stage ≡ Idle → (r.expected ≡ 0) × (r.received ≡ 0)
