-- The live capture, and the frozen one or zeros.
use mathlib.Core.Path.{◌≡◌, ap, ◌∙◌}
use native.Mathlib.Omega.{arith}
use lib.ListN.{length, replicate}
use Rattle.bits.specs.Over.{over}
use Rattle.parts.specs.Parts.{live_at, capture_bytes, frozen_at}
use Rattle.state_cells.specs.Cells.{pack_cells}
use Rattle.state_spans.specs.State.{capture_pixels}
use Rattle.state_spans.specs.Told.{span_told}
use Rattle.state_spans.specs.Coming.{frozen_from}
use Rattle.state_in.proofs.Spanned.{there-long}
use Rattle.state_in.proofs.put_captures.Goals as goal

pub put_cells-requires-in-Some : goal.put_cells-requires-in-Some
put_cells-requires-in-Some c =
    let e : length c.in-Some.pixels.now ≡ capture_pixels = there-long _ _ _ (ap span_told c.in-Some.is) c.requires.1.1 in
    (omega arith, (omega arith, e))

pub returns-in-Some : goal.returns-in-Some
unfolding frozen_from
returns-in-Some c =
    let live = c.put_cells.ensures ∙ ap (λ l. over live_at capture_bytes (pack_cells capture_bytes l) c.args.block.now) c.bytes_in.ensures in
    rw c.in-Some.is (c.put_cells-in-Some.ensures ∙ ap (over frozen_at capture_bytes (pack_cells capture_bytes c.in-Some.pixels.now)) live)

pub returns-in-None : goal.returns-in-None
unfolding frozen_from
returns-in-None c =
    let live = c.put_cells.ensures ∙ ap (λ l. over live_at capture_bytes (pack_cells capture_bytes l) c.args.block.now) c.bytes_in.ensures in
    rw c.in-None.is (c.clear_in.ensures ∙ ap (over frozen_at capture_bytes (replicate capture_bytes 0)) live)
