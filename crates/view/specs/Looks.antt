-- What each call that only looks at a block answers. RULES 6; of its refusals, their bounds and the room, RULES 2.4 to 2.6.
use Rattle.std.specs.Prelude.{ℕ, ◌&&◌, cond, List, ltb, leb, length}
use Rattle.std.proofs.Math.Option.{Option}
use Rattle.pulses.specs.Answer.{Answer, refused, given}
use Rattle.border.specs.Border.{entry_at}
use Rattle.layout.specs.Block.{load}
use Rattle.block_picture.specs.Drawn.{parts_of, backdrop_in, shade_in, border_in}
use Rattle.view.specs.Refusal.{refusing}

unfoldable pub mode_of : List ℕ → Answer ℕ
mode_of b = refusing b (given (parts_of (load b)).mode)

unfoldable pub backdrop_answer : List ℕ → Answer ℕ
backdrop_answer b = refusing b (given (backdrop_in (parts_of (load b))))

unfoldable pub shade_answer : List ℕ → ℕ → ℕ → ℕ → Answer ℕ
shade_answer b x y shade =
    refusing b (cond (ltb x 160 && (ltb y 144 && leb shade 3)) (given (shade_in (parts_of (load b)) x y shade)) (refused 4))

-- the map word at a column of a row
unfoldable pub entry_answer : List ℕ → ℕ → ℕ → Answer ℕ
entry_answer b column row =
    refusing b (cond (ltb column 32 && ltb row 28) (given (entry_at (parts_of (load b)).map column row)) (refused 4))

-- none where the border is transparent
unfoldable pub border_answer : List ℕ → ℕ → ℕ → Answer (Option ℕ)
border_answer b x y = refusing b (cond (ltb x 256 && ltb y 224) (given (border_in (parts_of (load b)) x y)) (refused 4))

-- a row and the picture: the number of words
unfoldable pub row_answer : List ℕ → ℕ → List ℕ → Answer ℕ
row_answer b y out = refusing b (cond (ltb y 224) (cond (leb 256 (length out)) (given 256) (refused 6)) (refused 4))

unfoldable pub picture_answer : List ℕ → List ℕ → Answer ℕ
picture_answer b out = refusing b (cond (leb 57344 (length out)) (given 57344) (refused 6))

-- what a lent output holds after a call that answers so: what is drawn, or every byte as it was
unfoldable pub leaves : {A : Type 0} → Answer A → List ℕ → List ℕ → List ℕ
leaves (refused n) drawn out = out
leaves (given a) drawn out = drawn
