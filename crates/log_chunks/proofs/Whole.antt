-- The whole: where a reading begins, all of a log is to be told; where it ends, nothing is. So fills, one after the other over the chunks of
-- an input, tell what the log tells, however it is cut.
use mathlib.Core.Path.{◌≡◌, ap, ap₂, ◌∙◌}
use mathlib.Core.Bool.{true}
use mathlib.Core.List.{List, []}
use mathlib.Core.Option.{some}
use Prim.Native.Nat.{ℕ, ◌≤◌}
use Rattle.layout.specs.Block.{load}
use Rattle.layout.specs.Fresh.{fresh, post_boot}
use Rattle.layout.specs.Sgb.{Sgb}
use Rattle.layout.proofs.Goods.{good-back}
use Rattle.layout.proofs.Freshes.{fresh-good}
use Rattle.log_line.specs.Line.{Meaning}
use Rattle.log_line.specs.Lines.{marked_from, last_marked}
use Rattle.log_line.specs.Split.{held_as}
use Rattle.log_chunks.specs.Events.{write_events, after_writes, events_from, after_lines, meanings, events_of, unit_after}
use Rattle.log_chunks.specs.Steps.{Desk, begun, pending, to_tell, to_end}
use Rattle.log_reading.specs.declared.Reading.{Reading}
use Rattle.log_line.proofs.Marked.{marked-meanings}
use Rattle.log_chunks.proofs.Takes.{no-pending}

-- ---- the beginning

module _ (d : Desk) (boot : d.block ≡ post_boot) (input : List ℕ) where
  fresh-unit : load d.block ≡ fresh true
  unfolding post_boot
  fresh-unit = ap load boot ∙ good-back (fresh true) (fresh-good true)

  pub begins : to_tell begun d input ≡ events_of input
  unfolding to_tell pending held_as write_events after_writes events_of meanings
  begins = ap₂ (λ (u : Sgb) (ms : List Meaning). events_from u 1 ms) fresh-unit (marked-meanings input)

  pub begins-end : to_end begun d input ≡ unit_after input
  unfolding to_end pending held_as after_writes unit_after meanings
  begins-end = ap₂ after_lines fresh-unit (marked-meanings input)

-- ---- the end

-- nothing is pending and nothing held: all is told
pub all_told : (r : Reading) (d : Desk) → r.upto ≤ r.from → held_as r.held d.line ≡ some [] → to_tell r d [] ≡ []
unfolding to_tell write_events events_from marked_from last_marked
all_told r d h e = rw (no-pending r d.bytes h, e)

pub all_done : (r : Reading) (d : Desk) → r.upto ≤ r.from → held_as r.held d.line ≡ some [] → to_end r d [] ≡ load d.block
unfolding to_end after_writes after_lines marked_from last_marked
all_done r d h e = rw (no-pending r d.bytes h, e)
