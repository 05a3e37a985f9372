-- `hex_digits::spell` meets its contract: after i turns the first i bytes are spelled out.
use mathlib.Core.Path.{◌≡◌, sym, ◌∙◌}
use native.Mathlib.Omega.{arith}
use lib.ListN.{length, take-append-drop}
use lib.Seq.{take-length}
use Rattle.hex_digits.specs.Hex.{hex_text}
use Rattle.hex_digits.proofs.Writing.{spell_turn}
use Rattle.hex_digits.proofs.spell.Goals as goal

pub loop-i-init : goal.loop-i-init
unfolding hex_text
loop-i-init c = sym (take-append-drop c.args.at c.args.out.now)

pub loop-i-preserved : goal.loop-i-preserved
loop-i-preserved c =
    let l = c.loop-i in
    spell_turn c.args.src.now c.args.out.now l.out _ c.args.at l.i (omega arith) (omega arith) l.invariant c.spell_byte.ensures

pub returns : goal.returns
returns c =
    let s = c.args.src.now in
    let e : c.loop-i.i ≡ length s = omega arith in
    c.loop-i.invariant ∙ rw (e, take-length s)
