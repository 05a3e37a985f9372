-- What each result that a call here answers stands for: a refusal as one number (RULES 2.1), or the value.
use Rattle.std.specs.Prelude.{ℕ, Result, Some, None}
use Rattle.std.specs.Prelude as code
use Rattle.std.proofs.Math.Option.{Option, none, some}
use Rattle.pulses.specs.Answer.{Answer}
use Rattle.refusal.specs.declared.Refusal.{Refusal}
use Rattle.refusal.specs.Codes.{told_by}
use Rattle.transfer.specs.declared.pending.Transfer.{Transfer}
use Rattle.transfer.specs.Pending.{landed_of}
use Rattle.unit.specs.Plays.{Taken}
use Rattle.unit.specs.declared.Played.{Played}

-- a command's packets, or none
abbrev pub packets_of : code.Option ℕ → Option ℕ
packets_of None = none
packets_of (Some n) = some n

-- of a write: a command of n packets is complete, or none is
abbrev pub written_told : Result (code.Option ℕ) Refusal → Answer (Option ℕ)
written_told = told_by packets_of

abbrev pub taken_as : Played → Taken
taken_as p = record { writes = p.writes; packets = packets_of p.packets }

-- of writes in a row: how many were taken, and of the last a command of n packets, or none
abbrev pub played_told : Result Played Refusal → Answer Taken
played_told = told_by taken_as

-- of a screen: the number of the kind that landed, or none
abbrev pub shown_told : Result (code.Option Transfer) Refusal → Answer (Option ℕ)
shown_told = told_by landed_of
