-- A command turned into pulses by the encoder and written by the public calls comes back unchanged, and is carried out once. Up to the last
-- stop pulse no write answers, so that each moves the port and the joypad index alone; the stop pulse answers the command.
use Prim.Native.Nat.{ℕ, zero, suc, ◌+◌, ◌-◌, ◌*◌, ◌/◌, ◌<◌, ◌≤◌}
use native.Mathlib.Omega.{arith}
use mathlib.Core.Path.{◌≡◌, refl, sym, ap, ap₂, ◌∙◌, subst}
use mathlib.Core.Bool.{Bool, true, false}
use mathlib.Core.List.{List, [], ◌∷◌, ◌++◌, map, append-nil, map-append}
use mathlib.Core.Option.{Option, none, some}
use lib.ListN.{length, take, drop, replicate, length-append, length-drop, take-append-drop}
use lib.Seq.{take_all}
use Rattle.parts.specs.Parts.{store_bytes}
use Rattle.bits.specs.Bit.{bit_of}
use Rattle.receiver.specs.Lines.{p15_high, indexed}
use Rattle.receiver.specs.Rises.{rises}
use Rattle.receiver.proofs.Rises.{rises-add}
use Rattle.receiver.specs.Port.{Port, Heard, told, heard, answered, wrote}
use Rattle.pulses.specs.Answer.{given}
use Rattle.pulses.specs.Bytes.{Bytes, packets_in, malformed}
use Rattle.pulses.specs.Encode.{bits_of, bits_in, pulse, sent, pulses_of, Encodes}
use Rattle.pulses.specs.Trip.{NoneHeld, resting}
use Rattle.std.specs.Prelude.{Ok}
use Rattle.pulses.proofs.Commands.{formed}
use Rattle.pulses.proofs.Encodes.{encoded_pulses}
use Rattle.pulses.proofs.Packets.{length_pulses}
use Rattle.pulses.proofs.Returns.{up_to_stop, pulses-stop, Brought, brought}
use Rattle.pulses.proofs.Round.{unstopped, stop, packet-stop, at_stop, release-last}
use Rattle.commands.specs.Command.{decode}
use Rattle.layout.specs.Block.{load, save}
use Rattle.layout.specs.Good.{Good}
use Rattle.layout.specs.Sgb.{Sgb, Game, Snes}
use Rattle.layout.specs.Valid.{valid}
use Rattle.layout.proofs.Goods.{valid-good, good-valid, good-back}
use Rattle.rules.specs.Carry.{with_pads, plainly, carried_game, carried_snes, carried}
use Rattle.rules.specs.Write.{advanced, meant, carries, stepped, written, answer}
use Rattle.order.specs.Log.{Act, write, Outcome, after_write, run}
use Rattle.order.specs.Blocks.{Called}
use Rattle.order.proofs.BlockOrder.{saved, calls-saved, run-good}
use Rattle.block_port.specs.Bytes.{handed, packets_told}
use Rattle.unit.specs.Calls.{packets_answered}
use Rattle.unit.specs.Together.{Reply, command_held, Performed, performed, replies_of, buffer_after, performed_by}
use Rattle.unit.specs.Trip.{ones, rises_in, arrived, sent_to, returned}
use Rattle.unit.proofs.Allowed.{Allowed, allowed-performed}
use Rattle.unit.proofs.Together.{performed-calls, replies-commands}

-- ---- writes that complete nothing

-- the game's part after them; `was` is whether P15 was high before the first
unfoldable moved : Bool → List ℕ → Game → Game
moved was [] g = g
moved was (v ∷ vs) g = moved (p15_high v) vs (with_pads (indexed g.index g.pads was v) g.pads g)

unfoldable quietly : Sgb → List ℕ → Sgb
quietly u ws = record { port = (heard u.port ws).port; game = moved u.port.p15 ws u.game; snes = u.snes }

unfoldable unanswered : ℕ → Outcome → Outcome
unanswered n o = record { last = o.last; answers = replicate n none ++ o.answers; sights = o.sights }

-- a write that completes nothing steps alone
steps_alone : (u : Sgb) (v : ℕ) → answered u.port v ≡ none → written u v ≡ stepped u v
unfolding written carries carried meant plainly carried_game carried_snes
steps_alone u v e = ap (λ (o : Option (List ℕ)). carried (meant o) (stepped u v)) e

none_told : (o : Option (List ℕ)) (h : Heard) → (told o h).commands ≡ [] → (o ≡ none) × (told o h ≡ h)
unfolding told
none_told none h e = (refl, refl)
none_told (some c) h e = absurd (let z : ◌≡◌ {A = ℕ} 1 0 = cc in omega arith)

quiet-run : (u : Sgb) (ws : List ℕ) (l : List Act) → (heard u.port ws).commands ≡ [] → run u (map write ws ++ l) ≡ unanswered (length ws) (run (quietly u ws) l)
unfolding run after_write heard moved quietly unanswered answer stepped advanced wrote
quiet-run u [] l e = refl
quiet-run u (v ∷ vs) l e =
    let z = none_told (answered u.port v) (heard (wrote u.port v) vs) e in
    let g : Game = moved (p15_high v) vs (with_pads (indexed u.game.index u.game.pads u.port.p15 v) u.game.pads u.game) in
    ap₂ (λ (o : Option (List ℕ)) (w : Sgb). after_write o (run w (map write vs ++ l))) z.0 (steps_alone u v z.0)
    ∙ ap (after_write none) (quiet-run (stepped u v) vs l (ap (λ (h : Heard). h.commands) (sym z.1) ∙ e))
    ∙ ap (λ (h : Heard). after_write none (unanswered (length vs) (run (record { port = h.port; game = g; snes = u.snes }) l))) (sym z.1)

-- ---- the joypad index moves with each packet's start and with each bit that is one

unfoldable raised : ℕ → Game → Game
raised n g = with_pads (rises n g.index g.pads) g.pads g

raised-more : (m n : ℕ) (g : Game) → raised n (raised m g) ≡ raised (m + n) g
unfolding raised with_pads
raised-more m n g = ap (λ (i : ℕ). with_pads i g.pads g) (rises-add n m g.index g.pads)

moved-start : (was : Bool) (rest : List ℕ) (g : Game) → moved was (0x00 ∷ 0x30 ∷ rest) g ≡ moved true rest (raised 1 g)
unfolding moved raised rises with_pads indexed p15_high bit_of
moved-start was rest g = refl

moved-stop : (rest : List ℕ) (g : Game) → moved true (stop rest) g ≡ moved true rest g
unfolding moved with_pads indexed p15_high bit_of
moved-stop rest g = refl

moved-zero : (rest : List ℕ) (g : Game) → moved true (pulse 0 ∷ 0x30 ∷ rest) g ≡ moved true rest g
unfolding moved pulse with_pads indexed p15_high bit_of
moved-zero rest g = refl

moved-one : (b : ℕ) (rest : List ℕ) (g : Game) → moved true (pulse (suc b) ∷ 0x30 ∷ rest) g ≡ moved true rest (raised 1 g)
unfolding moved pulse raised rises with_pads indexed p15_high bit_of
moved-one b rest g = refl

moved-bits : (bs rest : List ℕ) (g : Game) → moved true (sent bs ++ rest) g ≡ moved true rest (raised (ones bs) g)
unfolding sent ones
moved-bits [] rest g = unfold raised rises with_pads in refl
moved-bits (zero ∷ bs) rest g = moved-zero (sent bs ++ rest) g ∙ moved-bits bs rest g
moved-bits (suc b ∷ bs) rest g =
    let e : 1 + ones bs ≡ suc (ones bs) = omega arith in
    moved-one b (sent bs ++ rest) g ∙ moved-bits bs rest (raised 1 g)
    ∙ ap (moved true rest) (raised-more 1 (ones bs) g ∙ ap (λ (k : ℕ). raised k g) e)

moved-unstopped : (was : Bool) (q rest : List ℕ) (g : Game) → moved was (unstopped q ++ rest) g ≡ moved true rest (raised (1 + ones (bits_in q)) g)
moved-unstopped was q rest g =
    moved-start was (sent (bits_in q) ++ rest) g ∙ moved-bits (bits_in q) rest (raised 1 g) ∙ ap (moved true rest) (raised-more 1 (ones (bits_in q)) g)

-- ---- the ones of a command are those of its packets

ones-append : (a b : List ℕ) → ones (a ++ b) ≡ ones a + ones b
unfolding ones
ones-append [] b = omega arith
ones-append (zero ∷ a) b = ones-append a b
ones-append (suc x ∷ a) b = ap suc (ones-append a b) ∙ omega arith

ones-bits : (a b : List ℕ) → ones (bits_in (a ++ b)) ≡ ones (bits_in a) + ones (bits_in b)
unfolding bits_in
ones-bits [] b = unfold ones in omega arith
ones-bits (x ∷ a) b =
    ones-append (bits_of 8 x) (bits_in (a ++ b)) ∙ omega (arith, ones-bits a b, ones-append (bits_of 8 x) (bits_in a))

moved-command : (k : ℕ) (was : Bool) (c : List ℕ) (g : Game) → length c ≡ 16 * suc k → moved was (up_to_stop k c) g ≡ raised (suc k + ones (bits_in c)) g
unfolding up_to_stop moved
moved-command zero was c g l =
    ap (λ (ws : List ℕ). moved was ws g) (sym (append-nil (unstopped (take 16 c))))
    ∙ moved-unstopped was (take 16 c) [] g
    ∙ ap (λ (q : List ℕ). raised (1 + ones (bits_in q)) g) (take_all 16 c (omega arith))
moved-command (suc k) was c g l =
    let q : List ℕ = take 16 c in
    let r : List ℕ = drop 16 c in
    let s : ones (bits_in c) ≡ ones (bits_in q) + ones (bits_in r) = ap (λ (x : List ℕ). ones (bits_in x)) (sym (take-append-drop 16 c)) ∙ ones-bits q r in
    let n : 1 + ones (bits_in q) + (suc k + ones (bits_in r)) ≡ suc (suc k) + ones (bits_in c) = omega arith in
    ap (λ (ws : List ℕ). moved was ws g) (packet-stop q (up_to_stop k r))
    ∙ moved-unstopped was q (stop (up_to_stop k r)) g
    ∙ moved-stop (up_to_stop k r) (raised (1 + ones (bits_in q)) g)
    ∙ moved-command k true r (raised (1 + ones (bits_in q)) g) (length-drop 16 c ∙ omega arith)
    ∙ raised-more (1 + ones (bits_in q)) (suc k + ones (bits_in r)) g
    ∙ ap (λ (j : ℕ). raised j g) n

-- ---- the stop pulse and its release

advanced-high : (p : Port) (g : Game) → p.p15 ≡ true → advanced p 0x20 g ≡ g
unfolding advanced with_pads indexed p15_high bit_of
advanced-high p g e = ap (λ (t : Bool). with_pads (indexed g.index g.pads t 0x20) g.pads g) e

release-run : (g : Game) (s : Snes)
    → run (record { port = at_stop; game = g; snes = s }) (write 0x30 ∷ [])
    ≡ record { last = record { port = resting; game = g; snes = s }; answers = none ∷ []; sights = [] }
unfolding run after_write answer written carries carried stepped advanced with_pads indexed p15_high bit_of
release-run g s =
    ap₂
    (λ (o : Option (List ℕ)) (q : Port).
    after_write o (run (carried (meant o) (record { port = q; game = g; snes = s })) []))
    release-last.0 release-last.1
    ∙ (unfold meant carried_game carried_snes plainly in refl)

stop-run : (w : Sgb) (c : List ℕ) → w.port.p15 ≡ true → answered w.port 0x20 ≡ some c → wrote w.port 0x20 ≡ at_stop
    → run w (write 0x20 ∷ write 0x30 ∷ [])
    ≡ record { last = carried (decode c) (record { port = resting; game = w.game; snes = w.snes }); answers = some c ∷ none ∷ []; sights = [] }
unfolding run after_write answer written carries carried meant stepped
stop-run w c h a s =
    let g : Game = carried_game (decode c) w.snes w.game in
    let n : Snes = carried_snes (decode c) w.snes in
    let e : written w 0x20 ≡ record { port = at_stop; game = g; snes = n } =
    λ t. carried (meant (a t)) (record { port = s t; game = advanced-high w.port w.game h t; snes = w.snes })
    in
    ap₂ (λ (o : Option (List ℕ)) (x : Sgb). after_write o (run x (write 0x30 ∷ []))) a e ∙ ap (after_write (some c)) (release-run g n)

-- ---- a command sent to a unit

module _ (u : Sgb) (c : List ℕ) where
  -- what is run of n packets
  unfoldable sentBy : ℕ → Outcome
  sentBy n = record {
    last = carried (decode c) (record { port = resting; game = raised (n + ones (bits_in c)) u.game; snes = u.snes });
    answers = replicate (260 * n - 2) none ++ (some c ∷ none ∷ []);
    sights = [];
  }

  sent-packets : (k : ℕ) → length c ≡ 16 * suc k → Brought u.port (up_to_stop k c) c → run u (map write (pulses_of (suc k) c)) ≡ sentBy (suc k)
  unfolding sentBy heard quietly unanswered
  sent-packets k l b =
      let ws : List ℕ = up_to_stop k c in
      let s : heard u.port ws ≡ record { port = b.port; commands = [] } = ap (heard u.port) (sym (append-nil ws)) ∙ b.silent [] in
      let e : pulses_of (suc k) c ≡ ws ++ stop [] = sym (append-nil (pulses_of (suc k) c)) ∙ pulses-stop k c [] in
      let n : length ws ≡ 260 * suc k - 2 = omega (arith, length_pulses (suc k) c (omega arith), ap length e, length-append ws (stop [])) in
      let w : Sgb = record { port = b.port; game = raised (suc k + ones (bits_in c)) u.game; snes = u.snes } in
      let q : quietly u ws ≡ w = λ t. record { port = (s t).port; game = moved-command k u.port.p15 c u.game l t; snes = u.snes } in
      ap (λ (x : List ℕ). run u (map write x)) e
      ∙ ap (run u) (map-append write ws (stop []))
      ∙ quiet-run u ws (write 0x20 ∷ write 0x30 ∷ []) (ap (λ (h : Heard). h.commands) s)
      ∙ ap₂ (λ (j : ℕ) (x : Sgb). unanswered j (run x (write 0x20 ∷ write 0x30 ∷ []))) n q
      ∙ ap (unanswered (260 * suc k - 2)) (stop-run w c b.high b.answers b.stops)

  -- which write answers, and the unit at the end, by the rules
  pub unit-round-trip : malformed c ≡ false → Bytes c → length u.port.store ≡ store_bytes → NoneHeld u.port.rx
      → run u (map write (pulses_of (packets_in c) c))
      ≡ record { last = sent_to u c; answers = replicate (260 * packets_in c - 2) none ++ (some c ∷ none ∷ []); sights = [] }
  unfolding arrived sent_to rises_in sentBy raised
  unit-round-trip t h m f = let w = formed c t in go (packets_in c) refl w.some w.few w.whole
    where
      go : (n : ℕ) → packets_in c ≡ n → 0 < n → n ≤ 7 → length c ≡ 16 * n → run u (map write (pulses_of n c)) ≡ sentBy n
      go zero e z g l = absurd (omega arith)
      go (suc k) e z g l = sent-packets k l (brought u.port c h m f k e g l)

-- ---- .. by the public calls

module _ (c buffer : List ℕ) where
  replies-sent : (n : ℕ)
      → replies_of (replicate n none ++ (some c ∷ none ∷ [])) buffer
      ≡ replicate n (record { answer = given none; buffer = buffer })
      ++ (record { answer = given (some (length c / 16)); buffer = c ++ drop (length c) buffer }
      ∷ record { answer = given none; buffer = c ++ drop (length c) buffer }
      ∷ [])
  unfolding replies_of packets_answered packets_told handed
  replies-sent zero = refl
  replies-sent (suc n) = ap (λ (l : List Reply). record { answer = given none; buffer = buffer } ∷ l) (replies-sent n)

  buffer-sent : (n : ℕ) → buffer_after (replicate n none ++ (some c ∷ none ∷ [])) buffer ≡ c ++ drop (length c) buffer
  unfolding buffer_after handed
  buffer-sent zero = refl
  buffer-sent (suc n) = buffer-sent n

-- A command c that the encoder takes, its pulses handed to `write_joypad` one by one, from a valid block that holds no earlier packet and with
-- room for a command: what each call answers and leaves.
module _ (b buffer c : List ℕ) (k : valid b ≡ true) (room : store_bytes ≤ length buffer) (bytes : Bytes c) (free : NoneHeld (load b).port.rx) where
  pub calls-round-trip : malformed c ≡ false → performed b buffer (map write (pulses_of (packets_in c) c)) ≡ returned b buffer c
  unfolding returned performed_by saved
  calls-round-trip t =
      let n : length c / 16 ≡ packets_in c = omega (arith, (formed c t).whole) in
      let m : ℕ = 260 * packets_in c - 2 in
      performed-calls b buffer (map write (pulses_of (packets_in c) c)) k room
      ∙ ap (performed_by buffer) (calls-saved b k (map write (pulses_of (packets_in c) c)))
      ∙ ap (λ (o : Outcome). performed_by buffer (saved o)) (unit-round-trip (load b) c t bytes (valid-good b k).port.store free)
      ∙ (λ i. record { block = save (sent_to (load b) c); buffer = buffer-sent c buffer m i; replies = replies-sent c buffer m i; sights = [] })
      ∙ ap
      (λ (j : ℕ).
      record {
        block = save (sent_to (load b) c);
        buffer = c ++ drop (length c) buffer;
        replies =
            replicate m (record { answer = given none; buffer = buffer })
            ++ (record { answer = given (some j); buffer = c ++ drop (length c) buffer } ∷ record { answer = given none; buffer = c ++ drop (length c) buffer } ∷ []);
        sights = [];
      })
      n

  -- the command that the caller holds after each: exactly one write answers, and it answers c
  pub trip-commands : malformed c ≡ false → map command_held (returned b buffer c).replies ≡ map given (replicate (260 * packets_in c - 2) none ++ (some c ∷ none ∷ []))
  unfolding saved
  trip-commands t =
      let l : List Act = map write (pulses_of (packets_in c) c) in
      ap (λ (o : Performed). map command_held o.replies) (sym (calls-round-trip t))
      ∙ replies-commands b buffer l k room
      ∙ ap (λ (o : Called). map given o.answers) (calls-saved b k l)
      ∙ ap (λ (o : Outcome). map given o.answers) (unit-round-trip (load b) c t bytes (valid-good b k).port.store free)

  -- the block at the end is valid and holds that unit, whose port is at rest
  sent-good : malformed c ≡ false → Good (sent_to (load b) c)
  sent-good t =
      subst (λ (o : Outcome). Good o.last) (unit-round-trip (load b) c t bytes (valid-good b k).port.store free)
      (run-good (load b) (valid-good b k) (map write (pulses_of (packets_in c) c)))

  pub sent-valid : malformed c ≡ false → valid (returned b buffer c).block ≡ true
  unfolding returned
  sent-valid t = good-valid (sent_to (load b) c) (sent-good t)

  pub sent-loads : malformed c ≡ false → load (returned b buffer c).block ≡ sent_to (load b) c
  unfolding returned
  sent-loads t = good-back (sent_to (load b) c) (sent-good t)

  pub at_rest : malformed c ≡ false → (load (returned b buffer c).block).port ≡ resting
  unfolding arrived sent_to carried
  at_rest t = ap (λ (u : Sgb). u.port) (sent-loads t)

  -- by the contracts alone: the writes that `encode` answered, at the front of its output, and any calls that `write_joypad` allows
  pub contracts-round-trip : (out after : List ℕ) (n : ℕ) → Encodes c out (Ok n) after
      → (o : Performed) → Allowed b buffer (map write (take n after)) o → o ≡ returned b buffer c
  contracts-round-trip out after n e o h =
      let z = encoded_pulses c out after n e in
      allowed-performed (map write (take n after)) b buffer o h
      ∙ ap (λ (ws : List ℕ). performed b buffer (map write ws)) z.1
      ∙ calls-round-trip z.0
