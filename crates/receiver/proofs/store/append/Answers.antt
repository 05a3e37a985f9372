-- Sixteen turns paste the packet's sixteen bytes.
use mathlib.Core.Path.{◌≡◌, ◌∙◌}
use Prim.Native.Nat.{◌*◌}
use native.Mathlib.Numerals.{add-one}
use native.Mathlib.Omega.{arith}
use lib.ListN.{length}
use lib.Seq.{paste-zero, paste-suc}
use Rattle.bits.proofs.Overs.{paste-over}
use Rattle.receiver.specs.Receive.{words}
use Rattle.receiver.specs.Store.{bytes_of, appended}
use Rattle.receiver.proofs.Words.{length-bytes}
use Rattle.receiver.proofs.store.append.Goals as goal

pub loop-i-init : goal.loop-i-init
loop-i-init c = paste-zero _ (16 * c.from-at.result) (bytes_of 16 (words c.args.lo c.args.hi))

pub loop-i-preserved : goal.loop-i-preserved
loop-i-preserved c =
    let b = bytes_of 16 (words c.args.lo c.args.hi) in
    let hp : length b ≡ 16 = length-bytes 16 _ in
    rw (c.loop-i.invariant, c.byte_at.ensures, add-one) (paste-suc _ (16 * c.from-at.result) b c.loop-i.i 0 (omega arith) (omega arith))

pub returns : goal.returns
unfolding appended
returns c =
    let b = bytes_of 16 (words c.args.lo c.args.hi) in
    let hp : length b ≡ 16 = length-bytes 16 _ in
    let hi : c.loop-i.i ≡ length b = omega arith in
    c.loop-i.invariant ∙ rw (hi, c.from-at.ensures, paste-over _ (16 * c.args.n) b, hp)
