-- What was printed of what came, where `text` is what is due of a whole input.
use Rattle.std.specs.Prelude.{ℕ, Bool, false, List, ◌++◌, ◌≡◌}
use Rattle.log_writer.specs.Tally.{Sent}
use Rattle.file_reader.specs.declared.End.{End}
use Rattle.file_reader.specs.declared.End.TheVariants.{Ended, Full, Failed}

-- the text of the whole input; where the buffer is full, that text however the input goes on; after a read that failed nothing
unfoldable pub Told : (List ℕ → List ℕ) → End → Bool → List ℕ → ℕ → ℕ → Type 0
Told text Ended whole came t t' = Sent whole t (text came) t'
Told text Full whole came t t' = (rest : List ℕ) → Sent whole t (text (came ++ rest)) t'
Told text Failed whole came t t' = (whole ≡ false) × (t' ≡ t)
