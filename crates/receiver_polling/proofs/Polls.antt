-- Eight writes of which none is a start pulse, while no packet is coming in: the run passes them all, and P15's rises among them are the
-- count that the code makes of one word.
use mathlib.Core.Path.{◌≡◌, refl, sym, ap, ap₂, ◌∙◌}
use mathlib.Core.Bool.{Bool, cond}
use mathlib.Core.List.{List, [], ◌∷◌, ◌++◌}
use Prim.Native.Nat.{ℕ, zero, suc, ◌+◌, ◌-◌, ◌/◌, ◌%◌, ◌<◌, ◌≤◌}
use native.Mathlib.Nat.{add-zero}
use native.Mathlib.Omega.{arith}
use lib.Dec.{lit<}
use lib.Bits.{bit_and}
use lib.ListN.{length, get_or, drop}
use lib.Seq.{drop-cons}
use Rattle.bits_eight.specs.Eight.{eight_at}
use Rattle.receiver.specs.declared.Stage.TheVariants.{Receiving}
use Rattle.receiver.specs.declared.Receiver.{Receiver}
use Rattle.receiver.specs.Lines.{p15_high, both_high, indexed}
use Rattle.receiver.specs.Rises.{rises}
use Rattle.receiver.specs.Receive.{Rx, rx_of, Sound}
use Rattle.receiver.proofs.Rises.{rises_at, rises-add, rises-at, rises-small}
use Rattle.receiver_run.specs.Run.{runs, port_of}
use Rattle.receiver_run.specs.declared.Lines.{Lines}
use Rattle.receiver_run.proofs.Turns.{port}
use Rattle.receiver_polling.specs.declared.fed.Fed.{Fed}
use Rattle.receiver_polling.specs.Passing.{Passed}
use Rattle.receiver_polling.proofs.Waits.{passes}
use Rattle.receiver_polling.proofs.Bytes.{num, same, Small, Calm, calm_none, calm_more, calm, highs, high_bits, rose, rises-counted, enough, first, rises-few}

-- the lines after some writes
unfoldable last_high : Bool → List ℕ → Bool
last_high b [] = b
last_high b (d ∷ ds) = last_high (p15_high d) ds

unfoldable last_both : Bool → List ℕ → Bool
last_both b [] = b
last_both b (d ∷ ds) = last_both (both_high d) ds

module _ (mask : ℕ) (r : Rx) (s rest : List ℕ) (f : r.stage ≡ Receiving → ⊥) where
  polled : (ds : List ℕ) → Calm ds → (i x : ℕ) (p15 both : Bool)
      → runs mask i x (port r p15 both s) (ds ++ rest)
      ≡ runs mask (i + length ds) (rises (rose p15 ds) x mask) (port r (last_high p15 ds) (last_both both ds) s) rest
  unfolding rose rises last_high last_both
  polled [] calm_none i x p15 both = ap (λ (j : ℕ). runs mask j x (port r p15 both s) rest) (sym (add-zero i))
  polled (d ∷ ds) (calm_more g c) i x p15 both =
      let y : ℕ = indexed x mask p15 d in
      let at : suc i + length ds ≡ i + suc (length ds) = omega arith in
      let e : rises (rose (p15_high d) ds) y mask ≡ rises (rises_at p15 d + rose (p15_high d) ds) x mask =
      ap (λ (k : ℕ). rises (rose (p15_high d) ds) k mask) (rises-at x mask p15 d) ∙ rises-add (rose (p15_high d) ds) (rises_at p15 d) x mask in
      passes mask i x r p15 both s d (ds ++ rest) f g
      ∙ polled ds c (suc i) y (p15_high d) (both_high d)
      ∙ ap₂ (λ (j k : ℕ). runs mask j k (port r (last_high (p15_high d) ds) (last_both (both_high d) ds) s) rest) at e

-- ---- n bytes of a list, from place i + k on

unfoldable pub slots : ℕ → ℕ → ℕ → List ℕ → List ℕ
slots zero k i ws = []
slots (suc n) k i ws = get_or ws (i + k) 0 ∷ slots n (suc k) i ws

drop-slots : (n k i : ℕ) (ws : List ℕ) → i + k + n ≤ length ws → drop (i + k) ws ≡ slots n k i ws ++ drop (i + k + n) ws
unfolding slots
drop-slots zero k i ws h = ap (λ (j : ℕ). drop j ws) (sym (add-zero (i + k)))
drop-slots (suc n) k i ws h =
    let next : suc (i + k) ≡ i + suc k = omega arith in
    let end : i + suc k + n ≡ i + k + suc n = omega arith in
    drop-cons ws (i + k) 0 (omega arith)
    ∙ ap (λ (l : List ℕ). get_or ws (i + k) 0 ∷ l)
    (ap (λ (j : ℕ). drop j ws) next ∙ drop-slots n (suc k) i ws (omega arith) ∙ ap (λ (j : ℕ). slots n (suc k) i ws ++ drop j ws) end)

small-slots : (n k i : ℕ) (ws : List ℕ) → ((j : ℕ) → get_or ws j 0 < 256) → Small (slots n k i ws)
unfolding slots
small-slots zero k i ws h j = lit< tt
small-slots (suc n) k i ws h zero = h (i + k)
small-slots (suc n) k i ws h (suc j) = small-slots n (suc k) i ws h j

eight-slots : (i : ℕ) (ws : List ℕ) → eight_at ws i ≡ num (slots 8 0 i ws)
unfolding eight_at slots num
eight-slots i ws = let e : get_or ws (i + 0) 0 ≡ get_or ws i 0 = ap (λ (j : ℕ). get_or ws j 0) (add-zero i) in omega arith

-- ---- eight writes as one word

module _ (i x : ℕ) (ws : List ℕ) (bytes : (j : ℕ) → get_or ws j 0 < 256) (ex : x ≡ eight_at ws i) where
  abbrev pub eightOf : List ℕ
  eightOf = slots 8 0 i ws

  -- the word with P15 a byte for each
  abbrev pub high : ℕ
  high = bit_and x 0x2020202020202020 / 32

  high_is : high ≡ highs eightOf
  unfolding slots same
  high_is =
      let e = ap (λ (y : ℕ). bit_and y 0x2020202020202020) (ex ∙ eight-slots i ws) ∙ high_bits eightOf (small-slots 8 0 i ws bytes) in
      ap (λ (y : ℕ). y / 32) e ∙ omega arith

  pub enough-high : (was : Bool) → bit_and high (high / 256) % 255 + bit_and high (cond was 1 0) ≤ high % 255
  unfolding slots
  enough-high was =
      rw (high_is, first was (get_or ws (i + 0) 0) (slots 7 1 i ws)) (enough was (get_or ws (i + 0) 0) (slots 7 1 i ws) (lit< tt))

  pub high-count : (was : Bool) → high % 255 - bit_and high (high / 256) % 255 - bit_and high (cond was 1 0) ≡ rose was eightOf
  unfolding slots
  high-count was =
      rw (high_is, first was (get_or ws (i + 0) 0) (slots 7 1 i ws)) (rises-counted was (get_or ws (i + 0) 0) (slots 7 1 i ws) (lit< tt))

  pub rises-in : (was : Bool) → rose was eightOf ≤ 8
  unfolding slots
  rises-in was = rises-few was (get_or ws (i + 0) 0) (slots 7 1 i ws)

  pub calm-eight : bit_and (bit_and x 0x3030303030303030 + 0x7070707070707070) 0x8080808080808080 ≡ 0x8080808080808080 → Calm eightOf
  unfolding slots same
  calm-eight t =
      calm eightOf (small-slots 8 0 i ws bytes)
      (ap (λ (y : ℕ). bit_and (bit_and y 0x3030303030303030 + 0x7070707070707070) 0x8080808080808080) (sym (ex ∙ eight-slots i ws)) ∙ t)

-- .. are passed by
module _ (mask i : ℕ) (rx : Receiver) (l : Lines) (ws : List ℕ) (h : i + 8 ≤ length ws) (so : Sound (rx_of rx)) (hi : l.index < 255)
    (hm : mask < 255) (f : rx.stage ≡ Receiving → ⊥) (g : Calm (slots 8 0 i ws)) where
  abbrev beyond : Fed
  beyond =
      record {
        rx = rx;
        lines = record {
          p15 = p15_high (get_or ws (i + 7) 0);
          both = both_high (get_or ws (i + 7) 0);
          index = rises (rose l.p15 (slots 8 0 i ws)) l.index mask;
        };
        at = i + 8;
        sound = so;
        few = rises-small (rose l.p15 (slots 8 0 i ws)) l.index mask hi hm;
      }

  pub passed-eight : Passed mask i rx l ws beyond
  unfolding slots last_high last_both
  passed-eight =
      record {
        onto = omega arith;
        within = h;
        kept = refl;
        sound = so;
        few = rises-small (rose l.p15 (slots 8 0 i ws)) l.index mask hi hm;
        same = λ (s : List ℕ).
            let e : drop i ws ≡ slots 8 0 i ws ++ drop (i + 8) ws =
            ap (λ (j : ℕ). drop j ws) (sym (add-zero i)) ∙ drop-slots 8 0 i ws (omega arith)
            ∙ ap (λ (j : ℕ). slots 8 0 i ws ++ drop (j + 8) ws) (add-zero i) in
            ap (runs mask i l.index (port_of rx l s)) e
            ∙ polled mask (rx_of rx) s (drop (i + 8) ws) f (slots 8 0 i ws) g i l.index l.p15 l.both;
      }
