-- How reading ended, and what may then be told of what came.
use Prim.Native.Nat.{ℕ}
use mathlib.Core.Bool.{Bool, true, false, false≢true}
use mathlib.Core.Path.{◌≡◌, refl, sym, subst}
use mathlib.Core.List.{List, ◌++◌}
use native.Mathlib.Omega.{arith}
use lib.ListN.{length, take, length-take}
use Rattle.log_writer.specs.Tally.{Sent}
use Rattle.file_reader.specs.Came.{Came, is_read}
use Rattle.file_reader.specs.Told.{Told}
use Rattle.file_reader.specs.declared.End.{End}
use Rattle.file_reader.specs.declared.End.TheVariants.{Ended, Full, Failed}

module _ (text : List ℕ → List ℕ) (got : ℕ) (file : List ℕ) (whole : Bool) (t t' : ℕ) where
  abbrev came : List ℕ
  came = take got file

  -- the text of what came, where that of as many bytes as the buffer has is that of every longer input
  pub told_sent : (end : End) (n : ℕ) → length file ≡ n → ((l rest : List ℕ) → length l ≡ n → text l ≡ text (l ++ rest)) → Came got end file
      → is_read end ≡ true → Sent whole t (text came) t' → Told text end whole came t t'
  unfolding Told
  told_sent Ended n long same k is sent = sent
  told_sent Full n long same k is sent =
      let full : got ≡ length file = k.full refl in
      let all : length came ≡ n = simp length-take (omega arith) in
      λ rest. subst (λ (l : List ℕ). Sent whole t l t') (same came rest all) sent
  told_sent Failed n long same k is sent = absurd (false≢true is)

pub told_failed : (text : List ℕ → List ℕ) (end : End) (l : List ℕ) (t : ℕ) → is_read end ≡ false → Told text end false l t t
unfolding Told
told_failed text Ended l t e = absurd (false≢true (sym e))
told_failed text Full l t e = absurd (false≢true (sym e))
told_failed text Failed l t e = (refl, refl)
