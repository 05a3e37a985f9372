-- One write is writes in a row of which there is one (`played-write`).
use mathlib.Core.Path.{◌∙◌, ap}
use Rattle.block_port.specs.Bytes.{handed, packets_some}
use Rattle.layout.specs.Block.{load, save}
use Rattle.block_writes.specs.Play.{Played}
use Rattle.block_writes.proofs.Plays.{played-write}
use Rattle.block_writes.proofs.write.Goals as goal

pub returns : goal.returns
returns c =
    let start = c.args in
    let p = c.play-p.ensures in
    let e = played-write (load start.block.now) start.value in
    record { value = p.packets_value ∙ ap (λ (q : Played). packets_some q.told) e; block_after = p.block_after ∙ ap (λ (q : Played). save q.unit) e; command_after = p.command_after ∙ ap (λ (q : Played). handed q.told start.command.now) e }
