-- What a write hands over: none, and then nothing is carried out; or a command, which stands whole at the front of the buffer.
use mathlib.Core.Path.{◌≡◌, refl, sym, ap, ◌∙◌, subst⁻¹}
use mathlib.Core.List.{List}
use mathlib.Core.Option.{Option, none, some}
use Prim.Native.Nat.{ℕ, ◌*◌, ◌≤◌}
use native.Mathlib.Omega.{arith}
use lib.ListN.{length, take, drop, length-take, length-append, length-drop}
use lib.Seq.{take_at}
use Rattle.parts.specs.Parts.{store_bytes}
use Rattle.attribute_map.specs.Data.{Whole}
use Rattle.commands.specs.Command.{decode}
use Rattle.layout.specs.Sgb.{Sgb}
use Rattle.rules.specs.Carry.{plainly, carried_game, carried_snes, carried}
use Rattle.rules.specs.Write.{meant}
use Rattle.rules.proofs.Keeps.{WholeIf, complete-whole}
use Rattle.block_port.specs.Bytes.{handed, packets_told}

-- it leaves the buffer's length
pub length-handed : (o : Option (List ℕ)) (buffer : List ℕ) → WholeIf o → store_bytes ≤ length buffer → length (handed o buffer) ≡ length buffer
unfolding handed
length-handed none buffer w h = refl
length-handed (some d) buffer w h = simp (length-append, length-drop) (omega (arith, w.most))

-- ---- none

pub nothing_in : (o : Option (List ℕ)) → WholeIf o → packets_told o ≡ 0 → o ≡ none
unfolding packets_told
nothing_in none w e = refl
nothing_in (some d) w e = absurd (omega (arith, w.least))

pub none-carried : (o : Option (List ℕ)) → WholeIf o → packets_told o ≡ 0 → (u : Sgb) → u ≡ carried (meant o) u
unfolding meant carried carried_game carried_snes plainly
none-carried o w e u = sym (ap (λ (p : Option (List ℕ)). carried (meant p) u) (nothing_in o w e))

-- ---- one: its n packets stand at the front of the buffer, whole, and are what is carried out

pub record Front (o : Option (List ℕ)) (n : ℕ) (buffer : List ℕ) : Type 0 where
  pub whole : Whole (take (16 * n) buffer)
  pub room : 16 * n ≤ length buffer
  pub means : meant o ≡ decode (take (16 * n) buffer)

pub front : (o : Option (List ℕ)) (n : ℕ) (before buffer : List ℕ) → WholeIf o → n ≡ packets_told o → (n ≡ 0 → ⊥) → buffer ≡ handed o before → Front o n buffer
unfolding packets_told handed meant
front none n before buffer w q some_in h = absurd (some_in q)
front (some d) n before buffer w q some_in h =
    let b : take (16 * n) buffer ≡ d = ap (take (16 * n)) h ∙ take_at d (drop (length d) before) (16 * n) (omega (arith, q, w.packets)) in
    record {
      whole = subst⁻¹ (λ (l : List ℕ). Whole l) b (complete-whole w);
      room = omega (arith, length-take (16 * n) buffer, ap length b, q, w.packets);
      means = ap decode (sym b);
    }
