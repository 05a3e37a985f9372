-- What `plate` prints behind its reading: the picture where all is told, the refused line where there is one, and nothing where it failed.
use Rattle.std.specs.Prelude.{ℕ, ◌-◌, Bool, false, List, ◌≡◌}
use Rattle.layout.specs.Block.{load}
use Rattle.log_text.specs.Text.{refusal_text}
use Rattle.log_writer.specs.Tally.{Sent}
use Rattle.log_chunks.specs.Texts.{picture_lines}
use Rattle.log_reading.specs.declared.Reading.{Reading}
use Rattle.log_writer.specs.declared.State.{State}
use Rattle.log_writer.specs.declared.State.TheVariants.{Well, Failed, Refused}

unfoldable pub Closed : State → Reading → List ℕ → Bool → ℕ → ℕ → Type 0
Closed Well r block whole t t' = Sent whole t (picture_lines (load block)) t'
Closed Failed r block whole t t' = (whole ≡ false) × (t' ≡ t)
Closed Refused r block whole t t' = Sent whole t (refusal_text (r.number - 1)) t'
