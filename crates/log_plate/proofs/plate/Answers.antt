-- What was read left a valid block, and what is printed behind it is the picture or the refused line.
use mathlib.Core.Path.{◌∙◌}
use Rattle.std.specs.Result.{is_ok}
use Rattle.log_plate.proofs.Closing.{closed_printed}
use Rattle.log_plate.proofs.plate.Goals as goal

pub print-sent-requires : goal.print-sent-requires
print-sent-requires c = record { valid = c.read_log-f.ensures.valid; out_len = c.read_log-f.auto.out ∙ c.requires.out_len.0 }

pub returns : goal.returns
returns c =
    let k = c.read_log-f.ensures.by_index in
    let f = c.read_log-f.result in
    (k.0, (k.1.0, closed_printed f.state f.ended k.0 f.reading _ (is_ok c.print-sent.result) _ _ _ k.1.1 c.print-sent.ensures))
