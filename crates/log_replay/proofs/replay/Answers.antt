-- What was read left a valid block, and what is printed behind it is the closing line.
use mathlib.Core.Path.{sym, ◌∙◌}
use Rattle.std.specs.Result.{is_ok}
use Rattle.log_replay.proofs.Closing.{failed_printed, told_printed}
use Rattle.log_replay.proofs.replay.Goals as goal

pub returns-then-not-is_told : goal.returns-then-not-is_told
returns-then-not-is_told c =
    let k = c.read_log-f.ensures.by_index in
    let f = c.read_log-f.result in
    (k.0, (k.1.0, failed_printed f.state f.ended k.0 f.reading _ _ _ (sym c.is_told.ensures ∙ c.if-not-is_told.true) k.1.1))

pub head-sent-requires : goal.head-sent-requires
head-sent-requires c = (c.read_log-f.ensures.valid.0, c.read_log-f.auto.out ∙ c.requires.out_len.0)

pub returns : goal.returns
returns c =
    let k = c.read_log-f.ensures.by_index in
    let f = c.read_log-f.result in
    (k.0, (k.1.0, told_printed f.state f.ended k.0 f.reading _ (is_ok c.head-sent.result) _ _ _ c.read_log-f.ensures.valid.0 (sym c.is_told.ensures ∙ c.if-not-is_told.false) k.1.1 c.head-sent.ensures))
