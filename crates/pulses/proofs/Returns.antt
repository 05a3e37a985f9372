-- A command turned into pulses and received with no earlier packet held comes back unchanged. By the packets: each stop but the last
-- leaves the bytes so far at the front of the store and the receiver awaiting the rest; the last answers them.
use mathlib.Core.Path.{◌≡◌, refl, sym, ap, ap₂, ◌∙◌, subst}
use mathlib.Core.List.{List, [], ◌∷◌, ◌++◌, append_assoc, append-nil}
use mathlib.Core.Option.{Option, some}
use mathlib.Core.Bool.{true, false}
use Prim.Native.Nat.{ℕ, zero, suc, ◌+◌, ◌*◌, ◌%◌, ◌<◌, ◌≤◌}
use native.Mathlib.Omega.{arith}
use lib.ListN.{length, get_or, take, drop, length-append, length-drop, take-append-drop}
use lib.Seq.{length-take-le, get_or-take, take_at, take_all}
use Rattle.parts.specs.Parts.{store_bytes}
use Rattle.receiver.specs.Count.{count_of}
use Rattle.receiver.specs.Store.{bytes_of, appended}
use Rattle.receiver.specs.Port.{Port, answered, wrote, told, heard}
use Rattle.receiver.proofs.Sound.{length-appended}
use Rattle.pulses.specs.Bytes.{Bytes, packets_in, malformed}
use Rattle.pulses.specs.Encode.{bits_in, packet_pulses, pulses_of}
use Rattle.pulses.specs.Trip.{NoneHeld, resting}
use Rattle.pulses.proofs.Commands.{formed}
use Rattle.pulses.proofs.Round.{value, value-bytes, value-first, live, awaiting, unstopped, stop, packet-stop, next-sent, expects, first-sent, by_count, as_told, stop-more, at_stop, stop-last, release-last}

-- ---- bytes

bytes_take : (n : ℕ) (c : List ℕ) → Bytes c → Bytes (take n c)
bytes_take zero c h = tt
bytes_take (suc n) [] h = tt
bytes_take (suc n) (x ∷ c) h = (h.0, bytes_take n c h.1)

bytes_drop : (n : ℕ) (c : List ℕ) → Bytes c → Bytes (drop n c)
bytes_drop zero c h = h
bytes_drop (suc n) [] h = tt
bytes_drop (suc n) (x ∷ c) h = bytes_drop n c h.1

-- ---- the store after a packet q: the bytes before it, and it

-- the number that the packet's bits make
abbrev number : List ℕ → ℕ
number q = value (bits_in q)

packet-bytes : (q : List ℕ) → length q ≡ 16 → Bytes q → bytes_of 16 (number q) ≡ q
packet-bytes q l h = subst (λ (k : ℕ). bytes_of k (number q) ≡ q) l (value-bytes q h)

so_far : (s q : List ℕ) (n : ℕ) → length q ≡ 16 → Bytes q → 16 * n ≤ length s
    → take (16 * (n + 1)) (appended s (number q) n) ≡ take (16 * n) s ++ q
unfolding appended
so_far s q n l h k =
    let t : length (take (16 * n) s) ≡ 16 * n = length-take-le (16 * n) s k in
    ap (λ (b : List ℕ). take (16 * (n + 1)) (take (16 * n) s ++ (b ++ drop 16 (drop (16 * n) s)))) (packet-bytes q l h)
    ∙ ap (take (16 * (n + 1))) (sym (append_assoc (take (16 * n) s) q (drop 16 (drop (16 * n) s))))
    ∙ take_at (take (16 * n) s ++ q) (drop 16 (drop (16 * n) s)) (16 * (n + 1)) (length-append (take (16 * n) s) q ∙ omega arith)

-- ---- the pulses of a command up to its last stop

-- of suc k packets
unfoldable pub up_to_stop : ℕ → List ℕ → List ℕ
up_to_stop zero c = unstopped (take 16 c)
up_to_stop (suc k) c = packet_pulses (take 16 c) ++ up_to_stop k (drop 16 c)

pub pulses-stop : (k : ℕ) (c rest : List ℕ) → pulses_of (suc k) c ++ rest ≡ up_to_stop k c ++ stop rest
unfolding pulses_of up_to_stop
pulses-stop zero c rest = append_assoc (packet_pulses (take 16 c)) [] rest ∙ packet-stop (take 16 c) rest
pulses-stop (suc k) c rest =
    append_assoc (packet_pulses (take 16 c)) (pulses_of (suc k) (drop 16 c)) rest
    ∙ ap (λ (l : List ℕ). packet_pulses (take 16 c) ++ l) (pulses-stop k (drop 16 c) rest)
    ∙ sym (append_assoc (packet_pulses (take 16 c)) (up_to_stop k (drop 16 c)) (stop rest))

-- a packet with its stop, and what is written behind it
apart : (c ws rest : List ℕ) → (packet_pulses (take 16 c) ++ ws) ++ rest ≡ unstopped (take 16 c) ++ stop (ws ++ rest)
apart c ws rest = append_assoc (packet_pulses (take 16 c)) ws rest ∙ packet-stop (take 16 c) (ws ++ rest)

-- by the writes ws the command c is in but for its last stop, and none of them has answered; the stop pulse then answers c
pub record Brought (u : Port) (ws c : List ℕ) : Type 0 where
  pub port : Port
  pub silent : (rest : List ℕ) → heard u (ws ++ rest) ≡ heard port rest
  pub high : port.p15 ≡ true
  pub answers : answered port 0x20 ≡ some c
  pub stops : wrote port 0x20 ≡ at_stop

-- ---- the packets behind the first

later : (k e n : ℕ) (c s : List ℕ) → Bytes c → length c ≡ 16 * suc k → length s ≡ store_bytes → 0 < n → e ≡ n + suc k → e ≤ 7
    → Brought (awaiting e n s) (up_to_stop k c) (take (16 * n) s ++ c)
unfolding up_to_stop
later zero e n c s h l m z d f =
    let q : take 16 c ≡ c = take_all 16 c (omega arith) in
    let t : length (take 16 c) ≡ 16 = length-take-le 16 c (omega arith) in
    let p : ℕ = number (take 16 c) in
    let w = stop-last e n p e s (as_told z refl) (omega arith) in
    record {
      port = live e n 128 p s;
      silent = λ rest. next-sent (take 16 c) e n s rest t;
      high = refl;
      answers = w.0 ∙ ap some (so_far s (take 16 c) n t (bytes_take 16 c h) (omega arith) ∙ ap (λ (x : List ℕ). take (16 * n) s ++ x) q);
      stops = w.1;
    }
later (suc k) e n c s h l m z d f =
    let t : length (take 16 c) ≡ 16 = length-take-le 16 c (omega arith) in
    let p : ℕ = number (take 16 c) in
    let ws : List ℕ = up_to_stop k (drop 16 c) in
    let r =
    later k e (n + 1) (drop 16 c) (appended s p n) (bytes_drop 16 c h) (length-drop 16 c ∙ omega arith) (length-appended s p n (omega arith) m)
    (omega arith) (omega arith) f
    in
    record {
      port = r.port;
      silent =
          λ rest.
          ap (heard (awaiting e n s)) (apart c ws rest)
          ∙ next-sent (take 16 c) e n s (stop (ws ++ rest)) t
          ∙ stop-more e n p e s (ws ++ rest) (as_told z refl) (omega arith)
          ∙ r.silent rest;
      high = r.high;
      answers =
          r.answers
          ∙ ap some
          (ap (λ (x : List ℕ). x ++ drop 16 c) (so_far s (take 16 c) n t (bytes_take 16 c h) (omega arith))
          ∙ append_assoc (take (16 * n) s) (take 16 c) (drop 16 c)
          ∙ ap (λ (x : List ℕ). take (16 * n) s ++ x) (take-append-drop 16 c));
      stops = r.stops;
    }

-- ---- the whole command

module _ (u : Port) (c : List ℕ) (h : Bytes c) (m : length u.store ≡ store_bytes) (f : NoneHeld u.rx) where
  counts : length (take 16 c) ≡ 16 → number (take 16 c) % 256 ≡ get_or c 0 0
  counts t = value-first (take 16 c) (bytes_take 16 c h) (omega arith) ∙ get_or-take 16 c 0 0 (omega arith)

  pub brought : (k : ℕ) → packets_in c ≡ suc k → suc k ≤ 7 → length c ≡ 16 * suc k → Brought u (up_to_stop k c) c
  unfolding up_to_stop packets_in
  brought zero e g l =
      let t : length (take 16 c) ≡ 16 = length-take-le 16 c (omega arith) in
      let p : ℕ = number (take 16 c) in
      let x : ℕ = expects u.rx.stage u.rx.expected in
      let w = stop-last x 0 p 1 u.store (by_count refl (ap count_of (counts t) ∙ e) (omega arith)) (omega arith) in
      record {
        port = live x 0 128 p u.store;
        silent = λ rest. first-sent u (take 16 c) rest f t;
        high = refl;
        answers = w.0 ∙ ap some (so_far u.store (take 16 c) 0 t (bytes_take 16 c h) (omega arith) ∙ take_all 16 c (omega arith));
        stops = w.1;
      }
  brought (suc k) e g l =
      let t : length (take 16 c) ≡ 16 = length-take-le 16 c (omega arith) in
      let p : ℕ = number (take 16 c) in
      let x : ℕ = expects u.rx.stage u.rx.expected in
      let ws : List ℕ = up_to_stop k (drop 16 c) in
      let r =
      later k (suc (suc k)) 1 (drop 16 c) (appended u.store p 0) (bytes_drop 16 c h) (length-drop 16 c ∙ omega arith)
      (length-appended u.store p 0 (omega arith) m) (omega arith) (omega arith) g
      in
      record {
        port = r.port;
        silent =
            λ rest.
            ap (heard u) (apart c ws rest)
            ∙ first-sent u (take 16 c) (stop (ws ++ rest)) f t
            ∙ stop-more x 0 p (suc (suc k)) u.store (ws ++ rest) (by_count refl (ap count_of (counts t) ∙ e) (omega arith)) (omega arith)
            ∙ r.silent rest;
        high = r.high;
        answers =
            r.answers
            ∙ ap some
            (ap (λ (y : List ℕ). y ++ drop 16 c) (so_far u.store (take 16 c) 0 t (bytes_take 16 c h) (omega arith)) ∙ take-append-drop 16 c);
        stops = r.stops;
      }

-- ---- the theorem

stop-heard : (p : Port) (c rest : List ℕ) → answered p 0x20 ≡ some c → wrote p 0x20 ≡ at_stop → heard p (stop rest) ≡ told (some c) (heard resting rest)
unfolding heard told
stop-heard p c rest a w =
    ap₂ (λ (o : Option (List ℕ)) (q : Port). told o (heard q (0x30 ∷ rest))) a w
    ∙ ap₂ (λ (o : Option (List ℕ)) (q : Port). told (some c) (told o (heard q rest))) release-last.0 release-last.1

-- A command c that the encoder takes, turned into pulses and received with no earlier packet held: whatever follows, exactly c is
-- answered, and what follows is heard by a port at rest.
pub round_trip-then : (u : Port) (c rest : List ℕ) → malformed c ≡ false → Bytes c → length u.store ≡ store_bytes → NoneHeld u.rx
    → heard u (pulses_of (packets_in c) c ++ rest) ≡ told (some c) (heard resting rest)
round_trip-then u c rest t h m f = let w = formed c t in go (packets_in c) refl w.some w.few w.whole
  where
    go : (n : ℕ) → packets_in c ≡ n → 0 < n → n ≤ 7 → length c ≡ 16 * n → heard u (pulses_of n c ++ rest) ≡ told (some c) (heard resting rest)
    go zero e z g l = absurd (omega arith)
    go (suc k) e z g l =
        let b = brought u c h m f k e g l in
        ap (heard u) (pulses-stop k c rest) ∙ b.silent (stop rest) ∙ stop-heard b.port c rest b.answers b.stops

-- The same alone: exactly one write answers, with exactly that command, and the receiver is idle after.
pub round_trip : (u : Port) (c : List ℕ) → malformed c ≡ false → Bytes c → length u.store ≡ store_bytes → NoneHeld u.rx
    → heard u (pulses_of (packets_in c) c) ≡ record { port = resting; commands = c ∷ [] }
unfolding told heard
round_trip u c t h m f = ap (heard u) (sym (append-nil (pulses_of (packets_in c) c))) ∙ round_trip-then u c [] t h m f
