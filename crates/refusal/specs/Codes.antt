-- A refusal as one number, RULES 2.1: its own number is the low byte, and the offset, which comes with a broken rule, stands above it. And what
-- a call that may be refused answers: that number, or a value.
use Rattle.std.specs.Prelude.{ℕ, ◌+◌, ◌*◌, Result, Ok, Err}
use Rattle.bits.specs.Answer.{Answer, refused, given}
use Rattle.refusal.specs.declared.Rule.{Rule}
use Rattle.refusal.specs.declared.Rule.TheVariants.{V1, V2, V3, V4, V5, V6}
use Rattle.refusal.specs.declared.Refusal.{Refusal}
use Rattle.refusal.specs.declared.Refusal.TheVariants.{Length, Screen, Place, Command, Output, Line, Span, Cell, Page, Broken}

abbrev pub rule_number : Rule → ℕ
rule_number V1 = 21
rule_number V2 = 22
rule_number V3 = 23
rule_number V4 = 24
rule_number V5 = 25
rule_number V6 = 26

abbrev pub code_of : Refusal → ℕ
code_of Length = 1
code_of Screen = 3
code_of Place = 4
code_of Command = 5
code_of Output = 6
code_of Line = 7
code_of Span = 8
code_of Cell = 9
code_of Page = 10
code_of (Broken rule at) = rule_number rule + 256 * at

-- what is told of an answer, by what its value stands for
abbrev pub told_by : {A B : Type 0} → (A → B) → Result A Refusal → Answer B
told_by f (Ok a) = given (f a)
told_by f (Err r) = refused (code_of r)

-- of a call that has no value to tell: the refusal, or 0
abbrev pub code_or_0 : Result Unit Refusal → ℕ
code_or_0 (Ok u) = 0
code_or_0 (Err r) = code_of r
