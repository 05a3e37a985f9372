-- Serves the loop over a row; nobody need believe it: what the rows make is the picture (`row_is`, proofs/Whole of `picture`). What a run is drawn from, as
-- the record that `pixel_in` takes.
use Rattle.picture_runs.specs.Runs.{Source}
use Rattle.picture_runs.specs.declared.drawing.PictureParts.{PictureParts}
use Rattle.picture_runs.specs.declared.drawing.PictureTables.{PictureTables}

abbrev pub source_of : PictureParts → PictureTables → Source
source_of parts tables = record {
  tiles = parts.tiles.now;
  map = parts.map.now;
  attributes = parts.attributes.now;
  screen = parts.screen.now;
  border = tables.border;
  game = tables.game;
}
