-- Eight stores in a row are the eight bytes of the four words.
use mathlib.Core.Path.{◌≡◌, ap, sym, ◌∙◌}
use mathlib.Core.List.{List}
use Prim.Native.Nat.{ℕ}
use borrow.Author.Rules.{rules}
use lib.ListN.{length}
use Rattle.bits.specs.Over.{over}
use Rattle.layout.specs.Fresh.{word_bytes}
use Rattle.bits_eight.proofs.Eights.{store_eight}
use Rattle.block_fresh.proofs.Made.{four_words}
use Rattle.block_fresh.proofs.put_palette.Goals as goal

pub returns : goal.returns
unfolding word_bytes
returns c =
    let k = c.args.colours in
    let four : length k ≡ 4 = search rules in
    store_eight c.args.bytes.now c.args.at c.low_byte.result c.high_byte.result c.low_byte-2.result c.high_byte-2.result c.low_byte-3.result c.high_byte-3.result c.low_byte-4.result c.high_byte-4.result c.requires
    ∙ rw (c.low_byte.ensures, c.high_byte.ensures, c.low_byte-2.ensures, c.high_byte-2.ensures, c.low_byte-3.ensures, c.high_byte-3.ensures, c.low_byte-4.ensures, c.high_byte-4.ensures)
    (ap (λ (l : List ℕ). over c.args.at 8 (word_bytes l) c.args.bytes.now) (sym (four_words k four)))
