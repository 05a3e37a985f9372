-- How an answer crosses to C: one number of 32 bits, of which a refusal is just its own, as the calls tell it. RULES 2.1 and 2.8.
--   the low byte   0 for a value, 1 to 127 a refusal by its number, 128 for an answer that is "none"
--   the rest       the value, or the offset of a refusal that has one; else 0
-- So a call that can only be refused answers the refusal or 0 (`new`, `post_boot`, `check`).
-- That different answers give different numbers is proofs/Apart of the crate `export`.
use Rattle.std.specs.Prelude.{ℕ, ◌+◌, ◌*◌, ◌<◌, ◌≤◌, Bool, cond, Some, None}
use Rattle.std.specs.Prelude as code
use Rattle.std.proofs.Math.Option.{Option, none, some}
use Rattle.pulses.specs.Answer.{Answer, refused, given}
use Rattle.parts.specs.Parts.{capture_bytes}
use Rattle.unit.specs.Plays.{Taken}
use Rattle.log_line.specs.Calls.{Content, writes_of, one_screen}
use Rattle.log_line.specs.declared.Line.{Line}
use Rattle.log_line.specs.declared.Line.TheVariants as L

-- an answer whose value crosses as `code` tells
unfoldable pub coded : {A : Type 0} → (A → ℕ) → Answer A → ℕ
coded code (refused n) = n
coded code (given a) = code a

-- ---- the values

abbrev pub value : ℕ → ℕ
value v = 256 * v

unfoldable pub optional : Option ℕ → ℕ
optional none = 128
optional (some v) = value v

-- whether a command conforms: 1 or 0
unfoldable pub truth : Bool → ℕ
truth b = value (cond b 1 0)

-- writes in a row: 8 times how many were taken, and the packets of the command that the last of them completed, or 0
unfoldable pub packets_number : Option ℕ → ℕ
packets_number none = 0
packets_number (some n) = n

unfoldable pub run : Taken → ℕ
run t = value (8 * t.writes + packets_number t.packets)

-- a line of a log: 8 times its bytes, and its kind, which is the line's first byte
unfoldable pub content : Content → ℕ
content (writes_of n) = value (8 * n + 1)
content one_screen = value (8 * capture_bytes + 2)

-- ---- the same of what the code answers

-- as `number` tells, where there is a value
abbrev pub or_none : {A : Type 0} → (A → ℕ) → code.Option A → ℕ
or_none number None = 128
or_none number (Some a) = number a

abbrev pub content_of : Line → Content
content_of (L.Writes n) = writes_of n
content_of L.Screen = one_screen

-- ---- what crosses whole

-- a number that leaves the low byte free, if one is given
unfoldable pub Fits : Answer ℕ → Type 0
Fits (refused n) = Unit {0}
Fits (given v) = v < 16777216

-- so many writes, and no more packets than three bits hold
unfoldable pub RunFits : Answer Taken → Type 0
RunFits (refused n) = Unit {0}
RunFits (given t) = (t.writes ≤ 1048576) × (packets_number t.packets < 8)

unfoldable pub ContentFits : Answer Content → Type 0
ContentFits (refused n) = Unit {0}
ContentFits (given (writes_of n)) = n ≤ capture_bytes
ContentFits (given one_screen) = Unit {0}
