-- Group by group.
use Rattle.state_spans.specs.Going.{lent, laid_all}
use Rattle.state_spans.specs.Told.{lent_told}
use Rattle.state_out.proofs.Laying.{rooms}
use Rattle.state_out.proofs.lay.Goals as goal

pub lay_front-requires : goal.lay_front-requires
lay_front-requires c = let r = rooms (lent_told c.args.room.now) c.requires.1.1 in (c.requires.0, (c.requires.1.0, (r.fields, (r.packet, (r.packets, r.preset)))))

pub lay_tables-requires : goal.lay_tables-requires
lay_tables-requires c = let r = rooms (lent_told c.args.room.now) c.requires.1.1 in (c.requires.0, (r.palettes, (r.attribute_map, (r.system_palettes, r.attribute_files))))

pub lay_captures-requires : goal.lay_captures-requires
lay_captures-requires c = let r = rooms (lent_told c.args.room.now) c.requires.1.1 in (c.requires.0, (r.capture, r.frozen_capture))

pub lay_border-requires : goal.lay_border-requires
lay_border-requires c = let r = rooms (lent_told c.args.room.now) c.requires.1.1 in (c.requires.0, (r.border_tiles, (r.border_map, r.border_palettes)))

pub returns-clause-spans_after : goal.returns-clause-spans_after
unfolding laid_all
returns-clause-spans_after c = let f = c.lay_front.ensures in
    let t = c.lay_tables.ensures in
    let k = c.lay_captures.ensures in
    let b = c.lay_border.ensures in
    λ i. lent (f.fields_after i) (t.palettes_after i) (t.attribute_map_after i) (t.system_palettes_after i) (t.attribute_files_after i) (f.packet_after i) (f.packets_after i) (k.capture_after i) (k.frozen_capture_after i) (f.preset_after i) (b.border_tiles_after i) (b.border_map_after i) (b.border_palettes_after i)
