-- One after the other, each as long as its part.
use mathlib.Core.Path.{ap, ◌∙◌}
use Prim.Native.Nat.{ℕ}
use lib.ListN.{length}
use Rattle.bits.specs.Over.{over}
use Rattle.parts.specs.Parts.{palettes_at, map_at, map_bytes, system_at, files_at, files_bytes}
use Rattle.state_cells.specs.Cells.{pack_cells}
use Rattle.state_in.proofs.put_tables.Goals as goal

pub returns : goal.returns
returns c = let a = c.args in
    let p = c.requires in
    let b0 = a.block.now in
    let first = c.put.ensures ∙ ap (λ (n : ℕ). over 0 n a.front.now b0) p.1.0 in
    let second = c.put-2.ensures ∙ (λ t. over palettes_at ((ap length c.bytes_in.ensures ∙ p.1.1.0) t) (c.bytes_in.ensures t) (first t)) in
    let third = c.put_cells.ensures ∙ (λ t. over map_at map_bytes (pack_cells map_bytes (c.bytes_in-2.ensures t)) (second t)) in
    let fourth = c.put-3.ensures ∙ (λ t. over system_at ((ap length c.bytes_in-3.ensures ∙ p.1.1.1.1.0) t) (c.bytes_in-3.ensures t) (third t)) in
    c.put_cells-2.ensures ∙ (λ t. over files_at files_bytes (pack_cells files_bytes (c.bytes_in-4.ensures t)) (fourth t))
