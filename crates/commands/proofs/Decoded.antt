-- Every row of the table is good, and what no row has is nothing: so is every decoded command.
use Rattle.std.proofs.Common.{◌≡◌, ℕ, ◌%◌, ◌<◌, Bool, true, false, cond, eqb, List, [], ◌∷◌, get_or, arith, lit<, eq-eqb, ne_eqb}
use native.Mathlib.Decide.{ℕ_discrete}
use Rattle.receiver.specs.Count.{code_of}
use Rattle.attribute_map.specs.Data.{Whole}
use Rattle.commands.specs.Command.{Command, masking, Row, table, find, decode}
use Rattle.commands.specs.Good.{GoodCommand}

abbrev GoodRows : List Row → Type 0
GoodRows [] = Unit {0}
GoodRows (r ∷ rs) = GoodCommand r.means × GoodRows rs

either : (t : Bool) (a b : Command) → GoodCommand a → GoodCommand b → GoodCommand (cond t a b)
either true a b p q = p
either false a b p q = q

find-good : (k : ℕ) (rs : List Row) → GoodRows rs → GoodCommand (find k rs)
unfolding find
find-good k [] g = tt
find-good k (r ∷ rs) g = either (eqb k r.code) r.means (find k rs) g.0 (find-good k rs g.1)

masking-good : (m : ℕ) → m < 4 → Dec (m ≡ 1) → GoodCommand (masking m)
unfolding masking
masking-good m h (yes e) = rw (eq-eqb m 1 e) tt
masking-good m h (no e) = rw (ne_eqb m 1 e) (h, e)

pub decode-good : (d : List ℕ) → Whole d → GoodCommand (decode d)
unfolding decode
decode-good d w =
    let low : get_or d 1 0 % 4 < 4 = omega arith in
    let last : GoodCommand (masking (get_or d 1 0 % 4)) = masking-good (get_or d 1 0 % 4) low (ℕ_discrete (get_or d 1 0 % 4) 1) in
    find-good (code_of (get_or d 0 0)) (table d)
    ((lit< tt, lit< tt, w), ((lit< tt, lit< tt, w), ((lit< tt, lit< tt, w), ((lit< tt, lit< tt, w), (w, (w, (w, (w, (w, (tt, (tt, (tt, (tt, (tt, (w, (last, tt))))))))))))))))
