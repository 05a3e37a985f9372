-- Serves the code, which tests V1 to V6 before it writes a byte of the block; nobody need believe it: of the front that a state gives it is the
-- number that V1 to V6 give of the whole block (`front-number`, proofs/Ruled). V6 asks here for its first part alone, since
-- the capture of a state is zeros where none is there.
use Rattle.std.specs.Prelude.{ℕ, List, [], ◌∷◌}
use Rattle.broken.specs.Broken.{Asked, asked, asks1, asks2, asks3, asks4, asks5, first_of, broken_number}
use Rattle.layout.specs.Block.{byte}
use Rattle.layout.specs.Valid.{mask_allows}
use Rattle.parts.specs.Parts.{mask_at, frozen_on_at}

abbrev pub asks_mask : List ℕ → List Asked
asks_mask f = asked mask_at (mask_allows (byte mask_at f) (byte frozen_on_at f)) ∷ []

unfoldable pub front_number : List ℕ → ℕ
front_number f = broken_number (first_of 1 (asks1 f ∷ asks2 f ∷ asks3 f ∷ asks4 f ∷ asks5 f ∷ asks_mask f ∷ []))
