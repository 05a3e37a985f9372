-- Byte by byte: the first with such a bit is told, since the others stand behind it.
use Prim.Native.Nat.{suc, ◌+◌, ◌-◌}
use mathlib.Core.Path.{◌≡◌, sym, ◌∙◌}
use native.Mathlib.Omega.{arith}
use lib.ListN.{drop}
use Rattle.parts.specs.Parts.{packet_at, packet_bytes}
use Rattle.bits.specs.Over.{part}
use Rattle.broken.specs.Broken.{lowest, clear_from}
use Rattle.block_found.specs.Found.{found_told}
use Rattle.block_found.proofs.Firsts.{clear-found, clear_next, clear_end}
use Rattle.block_found.proofs.bits_past.Goals as goal

pub returns-then-shifted-ne0 : goal.returns-then-shifted-ne0
unfolding found_told
returns-then-shifted-ne0 c =
    let a = c.loop-i in
    clear-found a.left (packet_at + a.i) a.i (part packet_at packet_bytes c.args.front.bytes.now) c.loop-i-test.true
    (λ e. c.if-shifted-ne0.true (c.shifted.ensures ∙ e))
    ∙ sym a.invariant

pub loop-i-preserved : goal.loop-i-preserved
loop-i-preserved c =
    let a = c.loop-i in
    let l = part packet_at packet_bytes c.args.front.bytes.now in
    let next = clear_next a.left (packet_at + a.i) a.i l c.loop-i-test.true (sym c.shifted.ensures ∙ c.if-shifted-ne0.false) in
    let n : a.left - 8 ≡ c.saturating_sub-left.result = sym c.saturating_sub-left.ensures in
    let s : suc (packet_at + a.i) ≡ packet_at + (a.i + 1) = omega arith in
    let t : suc a.i ≡ a.i + 1 = omega arith in
    a.invariant ∙ next ∙ (λ v. lowest (clear_from (n v) (s v) (drop (t v) l)))

pub returns : goal.returns
unfolding found_told
returns c =
    let a = c.loop-i in
    sym (a.invariant ∙ clear_end a.left (packet_at + a.i) a.i (part packet_at packet_bytes c.args.front.bytes.now) (omega arith))
