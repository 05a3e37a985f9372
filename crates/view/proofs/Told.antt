-- What an answer of a call here tells is told by no other: a refusal by its number, and a value by what it stands for. That no two outcomes
-- meet a contract rests on it (`unit`, proofs/Determined).
use mathlib.Core.Path.{refl, ap}
use Rattle.std.specs.Prelude.{Some, None}
use Rattle.bits.specs.Determined.{Once}
use Rattle.border.specs.Border.{colour_of}
use Rattle.colour.proofs.Told.{word_of, entry_of}
use Rattle.refusal.proofs.Told.{one_told}
use Rattle.view.specs.Answers.{number_told, colour_told, entry_told, border_told}

pub one_number : Once number_told
one_number = one_told (λ n. n) (λ n m e. e)

pub one_colour : Once colour_told
one_colour = one_told (λ c. c.0) word_of

pub one_entry : Once entry_told
one_entry = one_told (λ w. w.0) entry_of

one-transparent : Once colour_of
unfolding colour_of
one-transparent None None e = refl
one-transparent None (Some d) e = cc
one-transparent (Some c) None e = cc
one-transparent (Some c) (Some d) e = ap Some (word_of c d (cc))

pub one-border : Once border_told
one-border = one_told colour_of one-transparent
