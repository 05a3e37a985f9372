-- What every decoded command is like: its palettes are there, its bytes are whole, and a plain MASK_EN does not freeze.
use Rattle.std.specs.Prelude.{◌<◌, ◌≢◌}
use Rattle.attribute_map.specs.Data.{Whole}
use Rattle.commands.specs.Command.{Plain, pal_pair, attr_blk, attr_lin, attr_div, attr_chr, mlt_req, mask_en, nothing, Fixed, pal_set, attr_set, freeze, transfer, Command, plain, fixed}

abbrev pub GoodPlain : Plain → Type 0
GoodPlain (pal_pair a b d) = (a < 4) × (b < 4) × Whole d
GoodPlain (attr_blk d) = Whole d
GoodPlain (attr_lin d) = Whole d
GoodPlain (attr_div d) = Whole d
GoodPlain (attr_chr d) = Whole d
GoodPlain (mlt_req b) = Unit {0}
GoodPlain (mask_en m) = (m < 4) × (m ≢ 1)
GoodPlain nothing = Unit {0}

abbrev pub GoodFixed : Fixed → Type 0
GoodFixed (pal_set d) = Whole d
GoodFixed (attr_set d) = Whole d
GoodFixed freeze = Unit {0}
GoodFixed (transfer t) = Unit {0}

abbrev pub GoodCommand : Command → Type 0
GoodCommand (plain c) = GoodPlain c
GoodCommand (fixed c) = GoodFixed c
