-- What each result that a call here answers stands for: a refusal as one number (RULES 2.1), or the value.
use Rattle.std.specs.Prelude.{ℕ, Result}
use Rattle.std.specs.Prelude as code
use Rattle.std.proofs.Math.Option.{Option}
use Rattle.pulses.specs.Answer.{Answer}
use Rattle.colour.specs.declared.Rgb555.{Rgb555}
use Rattle.colour.specs.declared.BorderMapEntry.{BorderMapEntry}
use Rattle.border.specs.Border.{colour_of}
use Rattle.refusal.specs.declared.Refusal.{Refusal}
use Rattle.refusal.specs.Codes.{told_by}

abbrev pub number_told : Result ℕ Refusal → Answer ℕ
number_told = told_by (λ n. n)

abbrev pub colour_told : Result Rgb555 Refusal → Answer ℕ
colour_told = told_by (λ c. c.0)

abbrev pub entry_told : Result BorderMapEntry Refusal → Answer ℕ
entry_told = told_by (λ w. w.0)

-- none where the border is transparent
abbrev pub border_told : Result (code.Option Rgb555) Refusal → Answer (Option ℕ)
border_told = told_by colour_of
