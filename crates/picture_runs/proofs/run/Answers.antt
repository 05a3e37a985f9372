-- Each branch draws its kind of run, which gives the run's pixels (proofs/Pixels).
use mathlib.Core.Path.{sym, ◌∙◌}
use Rattle.picture_runs.specs.Drawing.{source_of}
use Rattle.picture_runs.proofs.Pixels.{game-run, both_run, plain-run, border-run}
use Rattle.picture_runs.proofs.Cells.{is_within, base-first}
use Rattle.picture_runs.proofs.run.Goals as goal

pub shades-s-requires : goal.shades-s-requires
shades-s-requires c = record { screen_len = c.args.parts.now.lent.screen_long; le_c = is_within _ _ (sym c.within_screen.ensures ∙ c.if-within_screen.true) }

pub cell-n-requires : goal.cell-n-requires
cell-n-requires c = record { attributes_len = c.args.parts.now.lent.attributes_long; le_c = is_within _ _ (sym c.within_screen.ensures ∙ c.if-within_screen.true) }

pub returns-then-l-eq0 : goal.returns-then-l-eq0
returns-then-l-eq0 c =
    let a = c.args in
    game-run (source_of a.parts.now a.tables.now) a.c a.y _ _ _ _
    c.map_entry-entry.ensures c.indices-l.ensures c.base-b.ensures.0
    _ _ _ _ (sym c.within_screen.ensures ∙ c.if-within_screen.true) c.shades-s.ensures c.cell-n.ensures.0 c.if-l-eq0.true c.run_game.ensures

pub returns-then-within_screen : goal.returns-then-within_screen
returns-then-within_screen c =
    let a = c.args in
    both_run (source_of a.parts.now a.tables.now) a.c a.y _ _ _ _
    c.map_entry-entry.ensures c.indices-l.ensures c.base-b.ensures.0
    _ _ _ _ (sym c.within_screen.ensures ∙ c.if-within_screen.true) c.shades-s.ensures c.cell-n.ensures.0 c.run_both.ensures

pub returns-then-l-eq0-2 : goal.returns-then-l-eq0-2
returns-then-l-eq0-2 c =
    let a = c.args in
    plain-run (source_of a.parts.now a.tables.now) a.c a.y _ _ _ _
    c.map_entry-entry.ensures c.indices-l.ensures c.base-b.ensures.0
    _ _ _ c.color_in.ensures (sym c.within_screen.ensures ∙ c.if-within_screen.false) c.if-l-eq0-2.true c.run_plain.ensures

pub returns : goal.returns
returns c =
    let a = c.args in
    let t = c.requires.tables in
    let e = c.base-b.ensures.0 in
    border-run (source_of a.parts.now a.tables.now) a.c a.y _ _ _ _
    c.map_entry-entry.ensures c.indices-l.ensures e
    _ _ (sym c.within_screen.ensures ∙ c.if-within_screen.false) (base-first a.tables.now.border _ _ e t.second t.third) c.run_border.ensures
