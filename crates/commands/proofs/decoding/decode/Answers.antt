-- In each arm the code is known, so the table is looked up by computing; in the last it is none of the table's.
use Rattle.std.proofs.Common.{◌/◌, get_or, sym, ◌∙◌}
use Rattle.bits.proofs.Masks.{flag, pair-mask}
use Rattle.receiver.specs.Count.{code_of}
use Rattle.commands.specs.Command.{table, find, decode}
use Rattle.commands.specs.Told.{told, told_plain, told_fixed}
use Rattle.commands.proofs.Finding.{find_none}
use Rattle.commands.proofs.decoding.decode.Goals as goal

pub returns-in-0 : goal.returns-in-0
unfolding decode code_of find told told_plain
returns-in-0 c = rw c.in-0.is

pub returns-in-1 : goal.returns-in-1
unfolding decode code_of find told told_plain
returns-in-1 c = rw c.in-1.is

pub returns-in-2 : goal.returns-in-2
unfolding decode code_of find told told_plain
returns-in-2 c = rw c.in-2.is

pub returns-in-3 : goal.returns-in-3
unfolding decode code_of find told told_plain
returns-in-3 c = rw c.in-3.is

pub returns-in-4 : goal.returns-in-4
unfolding decode code_of find told told_plain
returns-in-4 c = rw c.in-4.is

pub returns-in-5 : goal.returns-in-5
unfolding decode code_of find told told_plain
returns-in-5 c = rw c.in-5.is

pub returns-in-6 : goal.returns-in-6
unfolding decode code_of find told told_plain
returns-in-6 c = rw c.in-6.is

pub returns-in-7 : goal.returns-in-7
unfolding decode code_of find told told_plain
returns-in-7 c = rw c.in-7.is

pub returns-in-10 : goal.returns-in-10
unfolding decode code_of find told told_fixed
returns-in-10 c = rw c.in-10.is

pub returns-in-11 : goal.returns-in-11
unfolding decode code_of find told told_fixed
returns-in-11 c = rw c.in-11.is

pub returns-in-17 : goal.returns-in-17
unfolding decode code_of find told told_plain
returns-in-17 c = rw c.in-17.is

pub returns-in-19 : goal.returns-in-19
unfolding decode code_of find
returns-in-19 c = c.tiles.ensures _ ∙ rw (c.in-19.is, ← flag (get_or c.args.d.now 1 0) 0)

pub returns-in-20 : goal.returns-in-20
unfolding decode code_of find told told_fixed
returns-in-20 c = rw c.in-20.is

pub returns-in-21 : goal.returns-in-21
unfolding decode code_of find told told_fixed
returns-in-21 c = rw c.in-21.is

pub returns-in-22 : goal.returns-in-22
unfolding decode code_of find told told_fixed
returns-in-22 c = rw c.in-22.is

pub returns-in-23 : goal.returns-in-23
unfolding decode code_of find
returns-in-23 c = c.masking.ensures _ ∙ rw c.in-23.is (simp pair-mask)

pub returns-in_default : goal.returns-in_default
unfolding decode code_of told told_plain
returns-in_default c =
    let d = c.args.d.now in
    sym (find_none (get_or d 0 0 / 8) (table d) (Unit {0}) c.in_default.in_default-own.rest)
