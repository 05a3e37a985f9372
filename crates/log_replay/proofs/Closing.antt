-- A reading and the closing line behind it are what `replay` prints.
use mathlib.Core.Path.{◌≡◌, sym, ap, ◌∙◌}
use mathlib.Core.Bool.{Bool, true, false, false≢true}
use mathlib.Core.List.{List, ◌++◌}
use Prim.Native.Nat.{ℕ}
use lib.Seq.{take-append-le}
use Rattle.layout.specs.Block.{save}
use Rattle.layout.specs.Valid.{Valid}
use Rattle.layout.proofs.Saved.{clauses, save-load}
use Rattle.log_writer.specs.Tally.{tallied, Sent}
use Rattle.log_writer.proofs.Tallies.{sent-last}
use Rattle.log_chunks.specs.Events.{events_of, unit_after}
use Rattle.log_chunks.specs.Texts.{shown, head_line, replay_text}
use Rattle.log_reading.specs.declared.Reading.{Reading}
use Rattle.log_reader.specs.Read.{text_of, is_well, Reached, Printed}
use Rattle.log_writer.specs.declared.State.{State}
use Rattle.log_writer.specs.declared.State.TheVariants.{Well, Failed, Refused}
use Rattle.log_reader.proofs.Programs.{behind_all, sent_printed}

-- where it failed, a beginning went out
pub failed_printed : (s : State) (ended : Bool) (input : List ℕ) (r : Reading) (block : List ℕ) (t t₁ : ℕ) → is_well s ≡ false → Reached s ended false input r block t t₁
    → Printed false ended replay_text input t t₁
unfolding Reached text_of Printed replay_text
failed_printed Well false input r block t t₁ e k = absurd k
failed_printed Well true input r block t t₁ e k = absurd (false≢true (sym e))
failed_printed Failed ended input r block t t₁ e k = (
  k.0,
  λ rest h.
      (k.1 rest h).1
      ∙ ap (tallied t) (sym (take-append-le k.0 (shown (events_of (input ++ rest))) (head_line (save (unit_after (input ++ rest)))) (k.1 rest h).0)),
)
failed_printed Refused ended input r block t t₁ e k = absurd (false≢true k.0)

-- where all is told, the closing line went out behind it, or a beginning of that
pub told_printed : (s : State) (ended : Bool) (input : List ℕ) (r : Reading) (block : List ℕ) (whole : Bool) (t t₁ t₂ : ℕ) → Valid block → is_well s ≡ true → Reached s ended false input r block t t₁
    → Sent whole t₁ (head_line block) t₂ → Printed whole ended replay_text input t t₂
unfolding Reached text_of replay_text
told_printed Well false input r block whole t t₁ t₂ v e k c = absurd k
told_printed Well true input r block whole t t₁ t₂ v e k c =
    let is : replay_text input ≡ shown (events_of input) ++ head_line block = ap (λ (b : List ℕ). shown (events_of input) ++ head_line b) (ap save (sym k.unit_is) ∙ save-load block (clauses block v.tested)) in
    sent_printed whole true replay_text input (shown (events_of input) ++ head_line block) t t₂ (λ rest h. behind_all rest replay_text input h ∙ is)
    (sent-last t t₁ (shown (events_of input)) k.prints (head_line block) t₂ whole c)
told_printed Failed ended input r block whole t t₁ t₂ v e k c = absurd (false≢true e)
told_printed Refused ended input r block whole t t₁ t₂ v e k c = absurd (false≢true e)
