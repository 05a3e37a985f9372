-- Rows one after the other: what is left from row y on, behind what went out.
use mathlib.Core.Path.{◌≡◌, refl, sym, ap, ◌∙◌, subst⁻¹}
use mathlib.Core.Bool.{true, false}
use mathlib.Core.List.{List, [], ◌++◌, append_assoc, append-nil}
use Prim.Native.Nat.{ℕ, suc, ◌+◌, ◌-◌, ◌≤◌, ◌<◌}
use native.Mathlib.Omega.{arith}
use lib.ListN.{length, take, drop}
use Rattle.bits.specs.Over.{over}
use Rattle.layout.specs.Block.{load}
use Rattle.picture.specs.Picture.{row_of}
use Rattle.block_picture.specs.Drawn.{parts_of}
use Rattle.log_text.specs.Text.{row_line}
use Rattle.log_text.proofs.Printed.{text-lent, length-row_line}
use Rattle.log_writer.specs.Tally.{tallied, Sent}
use Rattle.log_writer.proofs.Tallies.{sent-more, sent-cut}
use Rattle.log_chunks.specs.Texts.{row_lines, picture_lines}
use Rattle.log_chunks.proofs.Coded.{row-long}

module _ (b : List ℕ) (t : ℕ) where
  abbrev row : ℕ → List ℕ
  row y = row_line (row_of (parts_of (load b)) y)

  abbrev left : ℕ → List ℕ
  left y = row_lines (224 - y) y (load b)

  -- so many rows went out
  pub record Rows (u y : ℕ) : Type 0 where
    pub done : List ℕ
    pub all : picture_lines (load b) ≡ done ++ left y
    pub tally-is : u ≡ tallied t done
    pub within : y ≤ 224

  pub rows_none : Rows t 0
  unfolding picture_lines tallied
  rows_none = record { done = []; all = refl; tally-is = refl; within = omega arith }

  left-next : (y : ℕ) → y < 224 → left y ≡ row y ++ left (y + 1)
  left-next y h =
      let e : 224 - y ≡ suc (224 - (y + 1)) = omega arith in
      ap (λ (n : ℕ). row_lines n y (load b)) e ∙ (unfold row_lines in refl)

  module _ (u y : ℕ) (k : Rows u y) (more : y < 224) (text out out' : List ℕ) (is : text ≡ take (1025 - 0) (drop 0 out')) (drawn : out' ≡ over 0 1025 (row y) out) where
    text-row : text ≡ row y
    text-row = is ∙ text-lent (row y) out out' 1025 (let l : length (row y) ≡ 1025 = omega (arith, length-row_line (row_of (parts_of (load b)) y), row-long b y) in l) drawn

    onward : picture_lines (load b) ≡ k.done ++ (row y ++ left (y + 1))
    onward = k.all ∙ ap (λ (l : List ℕ). k.done ++ l) (left-next y more)

    pub rows_next : (v : ℕ) → Sent true u text v → Rows v (y + 1)
    rows_next v s = record {
      done = k.done ++ row y;
      all = onward ∙ sym (append_assoc k.done (row y) (left (y + 1)));
      tally-is = sent-more t u k.done k.tally-is text v s ∙ ap (λ (l : List ℕ). tallied t (k.done ++ l)) text-row;
      within = omega arith;
    }

    pub rows_cut : (v : ℕ) → Sent false u text v → Sent false t (picture_lines (load b)) v
    rows_cut v s =
        subst⁻¹ (λ (l : List ℕ). Sent false t l v) (onward ∙ ap (λ (l : List ℕ). k.done ++ (l ++ left (y + 1))) (sym text-row))
        (sent-cut t u k.done k.tally-is text (left (y + 1)) v s)

  pub rows_all : (u y : ℕ) → Rows u y → 224 ≤ y → Sent true t (picture_lines (load b)) u
  unfolding Sent
  rows_all u y k h =
      let e : 224 - y ≡ 0 = omega (arith, k.within) in
      k.tally-is ∙ ap (tallied t) (sym (k.all ∙ ap (λ (n : ℕ). k.done ++ row_lines n y (load b)) e ∙ (unfold row_lines in append-nil k.done)))
