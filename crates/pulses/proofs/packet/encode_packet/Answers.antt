-- Each turn writes two pulses more of the packet, behind the two of the start, and the stop is the last two.
use mathlib.Core.Path.{◌≡◌, ◌∙◌}
use native.Mathlib.Omega.{arith}
use lib.Bits.{and_mask}
use lib.ListN.{set, length-set}
use Rattle.pulses.proofs.Front.{starts, turns, stops}
use Rattle.pulses.proofs.packet.encode_packet.Goals as goal

pub loop-k-init : goal.loop-k-init
loop-k-init c = (simp length-set (omega arith), c.requires.0, simp length-set (omega arith), starts c.args.packet.now c.args.out.now c.requires.1)

pub loop-k-preserved : goal.loop-k-preserved
loop-k-preserved c =
    let at = c.loop-k in
    let o = set (set c.args.out.now 0 0x00) 1 0x30 in
    let v = at.invariant in (
      simp length-set v.0,
      v.1,
      v.2,
      turns c.args.packet.now o v.1 v.2 at.out at.k c.pulse_of.result c.loop-k-test.true (c.pulse_of.ensures ∙ rw (and_mask at.k 3)) v.3,
    )

pub returns : goal.returns
returns c =
    let at = c.loop-k in
    let e : at.k ≡ 128 = omega arith in
    stops c.args.packet.now (set (set c.args.out.now 0 0x00) 1 0x30) at.invariant.1 at.invariant.2 at.out (rw e at at.invariant.3)
