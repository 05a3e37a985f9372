-- What a call of `play` answers and leaves of a valid block: what was played of the writes that it takes.
use mathlib.Core.Path.{◌≡◌, refl, sym, ap, ◌∙◌}
use mathlib.Core.Bool.{Bool, true, false}
use mathlib.Core.List.{List}
use Rattle.std.specs.Prelude as code
use Prim.Native.Nat.{ℕ, ◌≤◌, min}
use native.Mathlib.Omega.{arith}
use borrow.Author.Tests.{leb-true, leb-false}
use lib.Dec.{leb}
use lib.ListN.{length, take}
use lib.Seq.{take_all, take-length}
use Rattle.pulses.specs.Answer.{Answer, given}
use Rattle.parts.specs.Parts.{store_bytes}
use Rattle.layout.specs.Block.{load, save}
use Rattle.layout.specs.Valid.{Valid}
use Rattle.block_port.specs.Bytes.{handed, packets_some}
use Rattle.block_writes.specs.Play.{Played, played}
use Rattle.unit.specs.Answers.{packets_of}
use Rattle.unit.specs.Calls.{packets_answered}
use Rattle.unit.specs.Plays.{play_most, Taken, play_answer, play_block, play_command}
use Rattle.unit.proofs.Calling.{room-given}
use Rattle.unit.proofs.Writes.{packets-some}

-- the part that the code hands on
pub most-taken : (ws : List ℕ) (n most : ℕ) → n ≡ min (length ws) most → take n ws ≡ take most ws
most-taken ws n most e =
    ap (λ (m : ℕ). take m ws) e
    ∙ by (leb most (length ws)) refl
  where
    by : (t : Bool) → leb most (length ws) ≡ t → take (min (length ws) most) ws ≡ take most ws
    by true h = let k : min (length ws) most ≡ most = omega (arith, leb-true most (length ws) h) in ap (λ (m : ℕ). take m ws) k
    by false h =
        let l = leb-false most (length ws) h in
        let k : min (length ws) most ≡ length ws = omega arith in
        ap (λ (m : ℕ). take m ws) k ∙ take-length ws ∙ sym (take_all most ws (omega arith))

module _ (b ws s command m c : List ℕ) (at : ℕ) (n : code.Option ℕ) (told : Answer Taken) (ok : Valid b) (room : store_bytes ≤ length command) (part : s ≡ take play_most ws)
    (says : told ≡ given (record { writes = at; packets = packets_of n })) (to : at ≡ (played (load b) s).at)
    (packets : n ≡ packets_some (played (load b) s).told) (block : m ≡ save (played (load b) s).unit) (buffer : c ≡ handed (played (load b) s).told command) where
  abbrev taken : Played → Taken
  taken p = record { writes = p.at; packets = packets_answered p.told }

  told-taken : record { writes = at; packets = packets_of n } ≡ taken (played (load b) s)
  told-taken =
      let k = ap packets_of packets ∙ packets-some (played (load b) s).told in
      λ t. record { writes = to t; packets = k t }

  pub play-given : (told ≡ play_answer b ws command) × ((m ≡ play_block b ws command) × (c ≡ play_command b ws command))
  unfolding play_answer play_block play_command
  play-given =
      let of : played (load b) s ≡ played (load b) (take play_most ws) = ap (played (load b)) part in
      let k = room-given b command _ _ _ (record { writes = at; packets = packets_of n }) m c ok room (told-taken ∙ ap taken of)
      (block ∙ ap (λ (p : Played). save p.unit) of) (buffer ∙ ap (λ (p : Played). handed p.told command) of) in
      (says ∙ k.0, k.1)
