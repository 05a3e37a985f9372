-- Each step tells the next part of what is still to be told, and leaves the rest; so a fill does.
use mathlib.Core.Path.{◌≡◌, refl, sym, ap, ap₂, ◌∙◌}
use mathlib.Core.List.{List, [], ◌∷◌, ◌++◌, map, append_assoc}
use mathlib.Core.Option.{Option, none, some}
use Prim.Native.Nat.{ℕ, ◌+◌, ◌-◌, ◌*◌, ◌/◌}
use native.Mathlib.Omega.{arith}
use lib.ListN.{length, take, drop}
use lib.Seq.{drop-drop, take_at}
use Rattle.bits.proofs.Overs.{drop-take}
use Rattle.layout.specs.Block.{load}
use Rattle.layout.specs.Sgb.{Sgb}
use Rattle.layout.proofs.Goods.{valid-good, good-back}
use Rattle.rules.specs.Write.{written, answer}
use Rattle.rules.proofs.Keeps.{WholeIf}
use Rattle.block_port.specs.Bytes.{handed, packets_some}
use Rattle.block_writes.specs.Play.{Played, stop, played}
use Rattle.block_writes.proofs.Plays.{Kept, kept-played}
use Rattle.log_line.specs.Lines.{marked_from, meaning_marked}
use Rattle.log_line.specs.Split.{held_as}
use Rattle.log_chunks.specs.Events.{Event, completed, answer_events, write_events, after_writes, events_from, after_lines}
use Rattle.log_chunks.specs.Steps.{Desk, pending, told_of, played_to, ran_on, told_by, events_on, to_tell, to_end, Fit}
use Rattle.log_reading.specs.declared.Reading.{Reading}

-- ---- writes that are played

run-tells : (u : Sgb) (ws : List ℕ) → write_events u ws ≡ answer_events (played u ws).told ++ write_events (played u ws).unit (drop (played u ws).at ws)
unfolding write_events played answer_events
run-tells u [] = refl
run-tells u (v ∷ vs) = go (answer u v) (run-tells (written u v) vs)
  where
    p : Played
    p = played (written u v) vs

    go : (o : Option (List ℕ)) → write_events (written u v) vs ≡ answer_events p.told ++ write_events p.unit (drop p.at vs)
        → answer_events o ++ write_events (written u v) vs
        ≡ answer_events (stop o (written u v) p).told ++ write_events (stop o (written u v) p).unit (drop (stop o (written u v) p).at (v ∷ vs))
    go none e = unfold stop in e
    go (some c) e = unfold stop in refl

run_ends : (u : Sgb) (ws : List ℕ) → after_writes u ws ≡ after_writes (played u ws).unit (drop (played u ws).at ws)
unfolding after_writes played
run_ends u [] = refl
run_ends u (v ∷ vs) = go (answer u v) (run_ends (written u v) vs)
  where
    p : Played
    p = played (written u v) vs

    go : (o : Option (List ℕ)) → after_writes (written u v) vs ≡ after_writes p.unit (drop p.at vs)
        → after_writes (written u v) vs ≡ after_writes (stop o (written u v) p).unit (drop (stop o (written u v) p).at (v ∷ vs))
    go none e = unfold stop in e
    go (some c) e = unfold stop in refl

-- a command that is told stands in the buffer
told-buffer : (o : Option (List ℕ)) (r : Reading) (command : List ℕ) → WholeIf o → told_by (told_of (packets_some o)) r (handed o command) ≡ answer_events o
unfolding answer_events handed packets_some told_of told_by
told-buffer none r command w = refl
told-buffer (some c) r command w =
    ap (λ (l : List ℕ). completed l ∷ []) (take_at c (drop (length c) command) (16 * (length c / 16)) (omega (arith, w.packets)))

-- ---- the part of a buffer that is left

part_left : (from upto n : ℕ) (b : List ℕ) → drop n (take (upto - from) (drop from b)) ≡ take (upto - (from + n)) (drop (from + n) b)
part_left from upto n b =
    let e : upto - from - n ≡ upto - (from + n) = omega arith in
    drop-take n (upto - from) (drop from b) ∙ rw (e, drop-drop n from b)

-- ---- a step that plays

module _ (r : Reading) (d : Desk) (at : ℕ) (f : Fit r d) where
  abbrev p : Played
  p = played (load d.block) (pending r d.bytes)

  k : Kept p
  k = kept-played (load d.block) (pending r d.bytes) (valid-good d.block f.valid.tested)

  pub ran-tells : (rest : List ℕ) → to_tell r d rest ≡ events_on (ran_on r d at) ++ to_tell (ran_on r d at).reading (ran_on r d at).desk rest
  unfolding to_tell pending ran_on played_to events_on
  ran-tells rest =
      let ws : List ℕ = pending r d.bytes in
      let ws' : List ℕ = take (r.upto - (r.from + p.at)) (drop (r.from + p.at) d.bytes) in
      let e : drop p.at ws ≡ ws' = part_left r.from r.upto p.at d.bytes in
      let more : Sgb → List Event = λ u. events_from u r.number (map meaning_marked (marked_from (held_as r.held d.line) rest)) in
      let a : write_events (load d.block) ws ≡ answer_events p.told ++ write_events p.unit ws' = run-tells (load d.block) ws ∙ ap (λ (l : List ℕ). answer_events p.told ++ write_events p.unit l) e in
      let b : after_writes (load d.block) ws ≡ after_writes p.unit ws' = run_ends (load d.block) ws ∙ ap (after_writes p.unit) e in
      ap₂ (λ (x : List Event) (y : Sgb). x ++ more y) a b
      ∙ append_assoc (answer_events p.told) (write_events p.unit ws') (more (after_writes p.unit ws'))
      ∙ ap₂ (λ (x : List Event) (y : Sgb). x ++ (write_events y ws' ++ more (after_writes y ws'))) (sym (told-buffer p.told (ran_on r d at).reading d.command k.whole)) (sym (good-back p.unit k.good))

  pub ran_ends : (rest : List ℕ) → to_end r d rest ≡ to_end (ran_on r d at).reading (ran_on r d at).desk rest
  unfolding to_end pending ran_on played_to
  ran_ends rest =
      let ws : List ℕ = pending r d.bytes in
      let ws' : List ℕ = take (r.upto - (r.from + p.at)) (drop (r.from + p.at) d.bytes) in
      let e : drop p.at ws ≡ ws' = part_left r.from r.upto p.at d.bytes in
      let more : Sgb → Sgb = λ u. after_lines u (map meaning_marked (marked_from (held_as r.held d.line) rest)) in
      ap more (run_ends (load d.block) ws ∙ ap (after_writes p.unit) e) ∙ ap (λ (y : Sgb). more (after_writes y ws')) (sym (good-back p.unit k.good))
