-- `hex_digits::decode` meets its contract: after i turns the first i bytes stand in their places, and every digit is one.
use Prim.Native.Nat.{◌+◌, ◌*◌}
use mathlib.Core.Path.{◌≡◌, ◌∙◌}
use native.Mathlib.Omega.{arith}
use lib.ListN.{length}
use Rattle.bits.proofs.Overs.{paste-over}
use Rattle.hex_digits.specs.Hex.{spelled}
use Rattle.hex_digits.proofs.Reading.{digit_at, length-spelled, decode_turn}
use Rattle.hex_digits.proofs.decode.Goals as goal

pub two_digits-requires : goal.two_digits-requires
two_digits-requires c =
    let s = c.args.text.now in
    let i = c.loop-i.i in
    (digit_at s c.requires.text_value (2 * i) (omega arith), digit_at s c.requires.text_value (2 * i + 1) (omega arith))

pub loop-i-preserved : goal.loop-i-preserved
loop-i-preserved c =
    let l = c.loop-i in
    decode_turn c.args.text.now c.args.bytes.now l.bytes l.i _ c.requires.text_value (omega arith) (omega arith) c.two_digits.ensures l.invariant

pub returns : goal.returns
returns c =
    let s = c.args.text.now in
    let e : c.loop-i.i ≡ length (spelled s) = omega (arith, length-spelled s c.requires.text_value) in
    c.loop-i.invariant ∙ rw e (paste-over c.args.bytes.now 0 (spelled s))
