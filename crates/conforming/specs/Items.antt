-- The items of a command that announces them, one by one: what each does, and where in the command it stands. RULES 4.5, 4.6, 4.8 and 7.3;
-- Pan Docs, Attributes. The laws are in proofs/Items and proofs/Calls.
use Rattle.std.specs.Prelude.{ℕ, ◌+◌, ◌-◌, ◌*◌, ◌/◌, min, cond, List, eqb, length, get_or}
use Rattle.receiver.specs.Count.{code_of}
use Rattle.pulses.specs.Verdict.{attr_blk, attr_lin, announced}
use Rattle.attribute_map.specs.Map.{pack, unpack}
use Rattle.attribute_map.specs.Data.{changed, steps}
use Rattle.attribute_blocks.specs.Blk.{blk_cell, set_at}
use Rattle.attributes.specs.Lin.{lin_cell}
use Rattle.attribute_cells.specs.Chr.{place_of, put_at, pair_of_data}
use Rattle.layout.specs.Sgb.{Sgb}
use Rattle.rules.specs.Carry.{with_map}
use Rattle.unit.specs.Trip.{arrived}

-- item i of a command c of this code, from 0 on, carried out on a map: a set, a line, a cell
unfoldable pub item : ℕ → List ℕ → ℕ → List (List ℕ) → List (List ℕ)
item code c i =
    cond (eqb code attr_blk) (changed (blk_cell (set_at c i)))
    (cond (eqb code attr_lin) (changed (lin_cell (get_or c (2 + i) 0)))
    (put_at (place_of (eqb (get_or c 5 0) 0) (record { x = get_or c 1 0; y = get_or c 2 0 }) i) (pair_of_data c i)))

-- the last byte of the command that this item has
unfoldable pub item_end : ℕ → ℕ → ℕ
item_end code i = cond (eqb code attr_blk) (7 + 6 * i) (cond (eqb code attr_lin) (2 + i) (6 + i / 4))

-- how many items end inside the command, whatever it announces: item i does exactly if i is below this number
-- (`inside-ends`)
unfoldable pub items_inside : ℕ → List ℕ → ℕ
items_inside code c = cond (eqb code attr_blk) ((length c - 2) / 6) (cond (eqb code attr_lin) (length c - 2) (4 * (length c - 6)))

-- how many the rules carry out: those that are announced, up to the first that doesn't end inside the command
unfoldable pub items_carried : ℕ → List ℕ → ℕ
items_carried code c = min (announced code c) (items_inside code c)

-- a packed map after the first n items
unfoldable pub items_done : ℕ → List ℕ → ℕ → List ℕ → List ℕ
items_done code c n map = pack (steps (item code c) n (unpack map))

-- a unit after them: of it the attribute map alone has changed
unfoldable pub after_items : ℕ → List ℕ → ℕ → Sgb → Sgb
after_items code c n u = record { port = u.port; game = with_map (items_done code c n u.game.map) u.game; snes = u.snes }

-- the unit after a command was sent to it, and n of its items were carried out, as `sent_to` of the crate `unit` is the one after any command
unfoldable pub sent_items : Sgb → List ℕ → ℕ → Sgb
sent_items u c n = after_items (code_of (get_or c 0 0)) c n (arrived u c)
