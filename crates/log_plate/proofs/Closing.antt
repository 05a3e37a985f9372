-- A quiet reading and what is printed behind it are what `plate` prints.
use mathlib.Core.Path.{◌≡◌, refl, sym, ap, ◌∙◌, subst, subst⁻¹}
use mathlib.Core.Bool.{Bool, true, false}
use mathlib.Core.List.{List, []}
use Prim.Native.Nat.{ℕ, ◌-◌}
use lib.Seq.{take-nil}
use Rattle.layout.specs.Block.{load}
use Rattle.log_text.specs.Text.{refusal_text}
use Rattle.log_writer.specs.Tally.{tallied, Sent}
use Rattle.log_chunks.specs.Texts.{picture_lines, plate_text}
use Rattle.log_reading.specs.declared.Reading.{Reading}
use Rattle.log_reader.specs.Read.{text_of, Reached, Printed}
use Rattle.log_writer.specs.declared.State.{State}
use Rattle.log_writer.specs.declared.State.TheVariants.{Well, Failed, Refused}
use Rattle.log_reader.proofs.Programs.{behind_all, behind_none, sent_printed, none_printed}
use Rattle.log_plate.specs.Closed.{Closed}

pub closed_printed : (s : State) (ended : Bool) (input : List ℕ) (r : Reading) (block : List ℕ) (whole : Bool) (t t₁ t₂ : ℕ) → Reached s ended true input r block t t₁ → Closed s r block whole t₁ t₂
    → Printed whole ended plate_text input t t₂
unfolding Reached Closed text_of tallied
closed_printed Well false input r block whole t t₁ t₂ k c = absurd k
closed_printed Well true input r block whole t t₁ t₂ k c =
    sent_printed whole true plate_text input (picture_lines (load block)) t t₂ (λ rest h. behind_all rest plate_text input h ∙ k.passes refl ∙ ap picture_lines (sym k.unit_is))
    (subst (λ (u : ℕ). Sent whole u (picture_lines (load block)) t₂) k.prints c)
closed_printed Failed ended input r block whole t t₁ t₂ k c =
    subst⁻¹ (λ (b : Bool). Printed b ended plate_text input t t₂) c.0 (none_printed ended plate_text input t t₂ (c.1 ∙ (k.1 [] (behind_none ended)).1 ∙ ap (tallied t) (take-nil k.0)))
closed_printed Refused ended input r block whole t t₁ t₂ k c =
    sent_printed whole ended plate_text input (refusal_text (r.number - 1)) t t₂ k.1.1 (subst (λ (u : ℕ). Sent whole u (refusal_text (r.number - 1)) t₂) k.1.0 c)

-- ---- by the state

pub closed_well : (s : State) (r : Reading) (block : List ℕ) (whole : Bool) (t t' : ℕ) → s ≡ Well → Sent whole t (picture_lines (load block)) t' → Closed s r block whole t t'
unfolding Closed
closed_well s r block whole t t' e k = subst⁻¹ (λ (x : State). Closed x r block whole t t') e k

pub closed_failed : (s : State) (r : Reading) (block : List ℕ) (t : ℕ) → s ≡ Failed → Closed s r block false t t
unfolding Closed
closed_failed s r block t e = subst⁻¹ (λ (x : State). Closed x r block false t t) e (refl, refl)

pub closed-refused : (s : State) (r : Reading) (block : List ℕ) (whole : Bool) (t t' : ℕ) → s ≡ Refused → Sent whole t (refusal_text (r.number - 1)) t' → Closed s r block whole t t'
unfolding Closed
closed-refused s r block whole t t' e k = subst⁻¹ (λ (x : State). Closed x r block whole t t') e k
