-- Each turn puts the next packet's 260 pulses behind those before it.
use mathlib.Core.Path.{◌≡◌, refl, ap, ◌∙◌}
use Prim.Native.Nat.{◌+◌, ◌-◌, ◌*◌, ◌<◌}
use native.Mathlib.Omega.{arith}
use lib.ListN.{length, drop, length-drop}
use lib.Seq.{length-take-le}
use Rattle.pulses.specs.Encode.{pulses_of}
use Rattle.pulses.proofs.Front.{next_turn, length_so_far}
use Rattle.pulses.proofs.packet.encode_packets.Goals as goal

pub loop-p-init : goal.loop-p-init
unfolding pulses_of
loop-p-init c = (refl, refl)

pub encode_packet-requires : goal.encode_packet-requires
encode_packet-requires c =
    let at = c.loop-p in
    let cut : 16 * at.p + 16 - 16 * at.p ≡ 16 = omega arith in
    let room : 260 * at.p + 260 - 260 * at.p ≡ 260 = omega arith in (
      rw cut (length-take-le 16 (drop (16 * at.p) c.args.command.now) (simp length-drop (omega arith))),
      rw room (length-take-le 260 (drop (260 * at.p) at.out) (simp length-drop (omega arith))),
    )

pub loop-p-preserved : goal.loop-p-preserved
loop-p-preserved c =
    let at = c.loop-p in
    let x = c.args.command.now in
    let o = c.args.out.now in
    let h : at.p < c.args.n = c.loop-p-test.true in
    let cut : 16 * at.p + 16 - 16 * at.p ≡ 16 = omega arith in
    let room : 260 * at.p + 260 - 260 * at.p ≡ 260 = omega arith in
    let e =
    next_turn x o at.out _ at.p _ _ cut room c.encode_packet.ensures (omega arith) (omega arith) at.invariant.1
    in (ap length e ∙ length_so_far x o (at.p + 1) (omega arith) (omega arith), e)

pub shape_of-out : goal.shape_of-out
shape_of-out c = c.loop-p.invariant.0

pub returns : goal.returns
returns c =
    let at = c.loop-p in
    let e : at.p ≡ c.args.n = omega arith in
    rw e at at.invariant.1
