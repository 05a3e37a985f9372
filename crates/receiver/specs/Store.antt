-- The packet store: 112 bytes, seven places of sixteen. A packet that is in takes its place there; a command is complete with its last.
-- RULES 3.6 and 1.5.
-- `at_stop` is that rule. Below it stands the same in parts, by what a pulse completed, as the code goes: it files the packet, the caller
-- takes the command from the store's front, and the store is emptied last. That the parts come to the rule is proofs/Readings.
use Rattle.std.specs.Prelude.{ℕ, zero, suc, ◌+◌, ◌-◌, ◌*◌, ◌/◌, ◌%◌, ◌<◌, Bool, cond, List, [], ◌∷◌, take, replicate}
use Rattle.std.specs.Prelude as code
use Rattle.std.specs.Prelude.{None, Some}
use Rattle.std.proofs.Math.Option.{Option, none, some}
use Rattle.parts.specs.Parts.{store_bytes}
use Rattle.bits.specs.Over.{over}
use Rattle.receiver.specs.declared.Done.{Done}
use Rattle.receiver.specs.declared.Done.TheVariants.{Nothing, Packet, Command}

-- the n bytes of a number, lowest first
unfoldable pub bytes_of : ℕ → ℕ → List ℕ
bytes_of zero x = []
bytes_of (suc n) x = x % 256 ∷ bytes_of n (x / 256)

-- the store s with the packet p at its n-th place
unfoldable pub appended : List ℕ → ℕ → ℕ → List ℕ
appended s p n = over (16 * n) 16 (bytes_of 16 p) s

-- what a stop pulse answers, and the store that it leaves
pub record AtStop : Type 0 where
  pub answer : Option (List ℕ)
  pub store : List ℕ

-- n packets are in s, and the packet p is appended: if all are in now, their bytes are the answer, and the store is empty again; else
-- they wait for the next
unfoldable pub at_stop : Bool → ℕ → ℕ → List ℕ → AtStop
at_stop all n p s =
    cond all (record { answer = some (take (16 * (n + 1)) (appended s p n)); store = replicate store_bytes 0 })
    (record { answer = none; store = appended s p n })

-- ---- the same in parts

-- the store after a pulse that completed this with the packet p: a complete command's bytes stand at its front
unfoldable pub filed : Done → ℕ → List ℕ → List ℕ
filed Nothing p s = s
filed (Packet n) p s = appended s p n
filed (Command n) p s = appended s p (n - 1)

-- the answer (RULES 3.9): none, or the bytes of the command, which stand at the front of the store
unfoldable pub answer_of : Done → List ℕ → Option (List ℕ)
answer_of Nothing s = none
answer_of (Packet n) s = none
answer_of (Command n) s = some (take (16 * n) s)

-- when the command has been answered the receiver is idle, and the store is zero
unfoldable pub emptied : Done → List ℕ → List ℕ
emptied Nothing s = s
emptied (Packet n) s = s
emptied (Command n) s = replicate store_bytes 0

-- the packets of a command that is complete, or 0
unfoldable pub packets_of : Done → ℕ
packets_of Nothing = 0
packets_of (Packet n) = 0
packets_of (Command n) = n

-- the same as the code answers it
unfoldable pub packets_if : ℕ → code.Option ℕ
packets_if zero = None
packets_if (suc n) = Some (suc n)

unfoldable pub number_if : code.Option ℕ → ℕ
number_if None = 0
number_if (Some n) = n

-- what is completed has its place in the store
abbrev pub Fits : Done → Type 0
Fits Nothing = Unit {0}
Fits (Packet n) = n < 7
Fits (Command n) = (0 < n) × (n < 8)
