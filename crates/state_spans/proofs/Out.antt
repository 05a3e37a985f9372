-- A block that goes out and comes in again is the same block, and a state that is taken gives a valid one. Each part of the block comes back from
-- the span that it went out as; of the header bytes 12 to 15, which are no fields, are the frozen capture's presence and zeros.
use mathlib.Core.Path.{◌≡◌, refl, sym, ap, ◌∙◌}
use mathlib.Core.Bool.{Bool, true, false, ◌&&◌, ◌||◌, cond, false≢true}
use mathlib.Core.List.{List, [], ◌∷◌, ◌++◌}
use mathlib.Core.Logic.{⊎_elim}
use mathlib.Core.Option.{Option, none, some}
use Prim.Native.Nat.{ℕ, zero, suc, ◌+◌, ◌-◌, ◌*◌, ◌%◌, ◌≤◌, ◌<◌}
use native.Mathlib.Nat.{zero-add}
use native.Mathlib.Omega.{arith}
use borrow.Author.Tests.{eq-eqb, ne_eqb, le-leb, eqb-true, leb-true}
use lib.Dec.{lit<, lit≤, eqb, leb}
use lib.ListN.{length, take, drop, get_or, replicate, length-drop, take-append-drop}
use lib.Seq.{take-take}
use Rattle.bits.specs.Over.{part}
use Rattle.bits.specs.Zero.{zeros}
use Rattle.bits.proofs.Overs.{length_part, get_or-part}
use Rattle.bits.proofs.Tests.{and_left, and_right, and-true, or-either}
use Rattle.bits.proofs.Zeros.{zeros-replicate, replicate-zeros, zeros_at}
use Rattle.broken.specs.Broken.{broken, broken_number}
use Rattle.broken.specs.Told.{rule_holds}
use Rattle.broken.proofs.Numbers.{number-valid, number_read}
use Rattle.layout.specs.Block.{byte, is_set, is_held, held, flat}
use Rattle.layout.specs.Valid.{v4, v5, v6, mask_allows, valid, valid_parts, Valid}
use Rattle.layout.proofs.Cut.{flat-cut, heads-eq}
use Rattle.layout.proofs.Saved.{Clauses, clauses, two, long-part}
use Rattle.parts.specs.Parts.{block_bytes, mask_at, index_at, pads_at, p15_at, both_at, stage_at, expected_at, received_at, bits_at, preset_on_at, countdown_at, kind_at, frozen_on_at, spare_at, spare_bytes, header_bytes, packet_at, packet_bytes, store_at, store_bytes, preset_at, preset_bytes, palettes_at, palettes_bytes, map_at, map_bytes, system_at, system_bytes, files_at, files_bytes, live_at, capture_bytes, frozen_at, tiles_at, tiles_bytes, border_map_at, border_map_bytes, border_palettes_at, border_palettes_bytes, sizes}
use Rattle.state_cells.specs.Cells.{pack_cells, unpack_cells}
use Rattle.state_cells.proofs.Celling.{length-unpack_cells, pack-unpack, numbers_unpacked}
use Rattle.state_spans.specs.State.{State, field_bytes, map_cells, capture_pixels, is_there, bytes_in}
use Rattle.state_spans.specs.Coming.{has, may_have, packets_fit, preset_fits, front_fits, tables_fit, captures_fit, whole_border, border_fits, fits, cells_fit, kind_taken, header_from, store_from, preset_from, front_from, frozen_from, border_from, parts_from, block_from, from_answer, from_block}
use Rattle.state_spans.specs.Going.{state_of}
use Rattle.state_spans.proofs.Blocks.{flat_nested, block_long, thirteen-part}
use Rattle.state_spans.proofs.Stored.{stored_in}

-- ---- what is taken is valid

pub taken-fits : (b : List ℕ) (s : State) → from_answer b s ≡ 0 → (fits s ≡ true) × (broken_number (broken (block_from s)) ≡ 0)
unfolding from_answer
taken-fits b s e = go (eqb (length b) block_bytes) (fits s) (cells_fit s) e refl
  where
    go : (p q r : Bool) → cond p (cond q (cond r (broken_number (broken (block_from s))) 9) 8) 1 ≡ 0 → fits s ≡ q → (fits s ≡ true) × (broken_number (broken (block_from s)) ≡ 0)
    go true true true z f = (f, z)
    go true true false z f = absurd (omega (arith, z))
    go true false r z f = absurd (omega (arith, z))
    go false q r z f = absurd (omega (arith, z))

pub taken-valid : (b : List ℕ) (s : State) → from_answer b s ≡ 0 → Valid (block_from s)
unfolding valid
taken-valid b s e =
    let t = taken-fits b s e in
    let long = block_long s t.0 in
    record { long = long; tested = and-true (eqb (length (block_from s)) block_bytes) _ (eq-eqb (length (block_from s)) block_bytes long) (holds (valid_parts (block_from s)) refl t.1) }
  where
    holds : (v : Bool) → valid_parts (block_from s) ≡ v → broken_number (broken (block_from s)) ≡ 0 → valid_parts (block_from s) ≡ true
    holds true p z = p
    holds false p z = let k = (number_read (block_from s) p).low in absurd (omega (arith, z, k))

-- ---- V5 is never told: a preset without its flag comes in as zeros

zeros_unless : (on : ℕ) (o : Option (List ℕ)) → cond (eqb on 0) (zeros (preset_from on o)) true ≡ true
unfolding preset_from
zeros_unless zero o = replicate-zeros preset_bytes
zeros_unless (suc n) o = rw (ne_eqb (suc n) 0 (λ z. omega (arith, z)))

preset-holds : (s : State) → fits s ≡ true → v5 (block_from s) ≡ true
unfolding v5
preset-holds s h =
    (λ t. cond (eqb (preset-byte s t) 0) (zeros (thirteen-part s h 3 (lit< tt) t)) true) ∙ zeros_unless (get_or s.fields preset_on_at 0) s.preset
  where
    preset-byte : (u : State) → byte preset_on_at (block_from u) ≡ get_or u.fields preset_on_at 0
    preset-byte u = unfold block_from front_from in refl

not-v5 : (b : List ℕ) → v5 b ≡ true → (n : ℕ) → n ≡ broken_number (broken b) → n % 256 ≡ 25 → ⊥
not-v5 b h n e k = go (valid_parts b) refl
  where
    go : (t : Bool) → valid_parts b ≡ t → ⊥
    go true p = let z : n ≡ 0 = e ∙ number-valid b p in omega (arith, z, k)
    go false p =
        let m = ap (λ (x : ℕ). x % 256 - 20) (sym e) ∙ ap (λ (x : ℕ). x - 20) k in
        false≢true (sym (sym (ap (λ (r : ℕ). rule_holds r b) m) ∙ (number_read b p).first.breaks) ∙ h)

pub never_25 : (b : List ℕ) (s : State) → from_answer b s % 256 ≡ 25 → ⊥
unfolding from_answer
never_25 b s e = go (eqb (length b) block_bytes) (fits s) (cells_fit s) refl e
  where
    go : (p q r : Bool) → fits s ≡ q → cond p (cond q (cond r (broken_number (broken (block_from s))) 9) 8) 1 % 256 ≡ 25 → ⊥
    go true true true f z = not-v5 (block_from s) (preset-holds s f) (broken_number (broken (block_from s))) refl z
    go true true false f z = omega (arith, z)
    go true false r f z = omega (arith, z)
    go false q r f z = omega (arith, z)

-- ---- there and back

module _ (b : List ℕ) (v : Valid b) (bytes : (i : ℕ) → get_or b i 0 < 256) where
  c : Clauses b
  c = clauses b v.tested

  cells-back : (at n : ℕ) → at + n ≤ block_bytes → pack_cells n (unpack_cells n (part at n b)) ≡ part at n b
  cells-back at n h =
      pack-unpack n (part at n b) (long-part b v.long at n h) (λ i lt. rw (get_or-part at n b i lt) (bytes (at + i)))

  -- the header: twelve fields, and four bytes more
  spare-at : (k : ℕ) → k < spare_bytes → 0 ≡ byte (spare_at + k) b
  spare-at k h = sym (zeros_at (part spare_at spare_bytes b) (two b c).spare k) ∙ get_or-part spare_at spare_bytes b k h

  field_back : (at : ℕ) → at < field_bytes → get_or (part 0 field_bytes b) at 0 ≡ byte at b
  field_back at h = get_or-part 0 field_bytes b at h ∙ ap (λ (k : ℕ). get_or b k 0) (zero-add at)

  timed : ((eqb (byte countdown_at b) 0 && eqb (byte kind_at b) 0) || (leb 1 (byte countdown_at b) && (leb (byte countdown_at b) 3 && leb (byte kind_at b) 4))) ≡ true
  timed = unfold v4 in c.four

  kind-back : kind_taken (byte countdown_at b) (byte kind_at b) ≡ byte kind_at b
  unfolding kind_taken
  kind-back =
      ⊎_elim
      (λ z.
      let n : byte countdown_at b ≡ 0 = eqb-true (byte countdown_at b) 0 (and_left (eqb (byte countdown_at b) 0) _ z) in
      let k : byte kind_at b ≡ 0 = eqb-true (byte kind_at b) 0 (and_right (eqb (byte countdown_at b) 0) _ z) in
      rw (n, k))
      (λ t.
      let h : 1 ≤ byte countdown_at b = leb-true 1 (byte countdown_at b) (and_left (leb 1 (byte countdown_at b)) _ t) in
      rw (ne_eqb (byte countdown_at b) 0 (λ z. omega (arith, z, h))))
      (or-either (eqb (byte countdown_at b) 0 && eqb (byte kind_at b) 0) _ timed)

  frozen-number : (on : ℕ) (l : List ℕ) → leb on 1 ≡ true → is_held (cond (is_set on) (some l) none) ≡ on
  unfolding is_held
  frozen-number zero l e = refl
  frozen-number (suc zero) l e = refl
  frozen-number (suc (suc n)) l e = absurd (omega (arith, leb-true (suc (suc n)) 1 e))

  abbrev frozenCells : List ℕ
  frozenCells = unpack_cells capture_bytes (part frozen_at capture_bytes b)

  header-back : header_from (part 0 field_bytes b) (is_held (cond (is_set (byte frozen_on_at b)) (some frozenCells) none)) ≡ part 0 header_bytes b
  header-back =
      (λ t.
      field_back mask_at (lit< tt) t ∷ field_back index_at (lit< tt) t ∷ field_back pads_at (lit< tt) t ∷ field_back p15_at (lit< tt) t ∷ field_back both_at (lit< tt) t
      ∷ field_back stage_at (lit< tt) t ∷ field_back expected_at (lit< tt) t ∷ field_back received_at (lit< tt) t ∷ field_back bits_at (lit< tt) t
      ∷ field_back preset_on_at (lit< tt) t ∷ field_back countdown_at (lit< tt) t
      ∷ ((λ i. kind_taken (field_back countdown_at (lit< tt) i) (field_back kind_at (lit< tt) i)) ∙ kind-back) t
      ∷ frozen-number (byte frozen_on_at b) frozenCells (two b c).frozen t
      ∷ spare-at 0 (lit< tt) t ∷ spare-at 1 (lit< tt) t ∷ spare-at 2 (lit< tt) t ∷ [])
      ∙ ap (take 16) (heads-eq 16 0 b (omega (arith, v.long)))

  -- the packets that are in, and zeros behind them
  abbrev received : ℕ
  received = byte received_at b

  packets-long : length (part store_at (16 * received) b) ≡ 16 * received
  packets-long = length_part store_at (16 * received) b (omega (arith, v.long, (stored_in b v).few))

  store-back : store_from (some (part store_at (16 * received) b)) ≡ part store_at store_bytes b
  unfolding store_from bytes_in
  store-back =
      let s = stored_in b v in
      let whole = part store_at store_bytes b in
      let long : length whole ≡ store_bytes = long-part b v.long store_at store_bytes (lit≤ tt) in
      let few : 16 * received ≤ store_bytes = omega (arith, s.few) in
      let rest : length (drop (16 * received) whole) ≡ store_bytes - length (part store_at (16 * received) b) = simp length-drop (omega (arith, long, packets-long)) in
      (λ t. sym (take-take (16 * received) store_bytes (drop store_at b) few) t ++ replicate (sym rest t) 0)
      ∙ ap (λ (z : List ℕ). take (16 * received) whole ++ z) (zeros-replicate (drop (16 * received) whole) s.rest)
      ∙ take-append-drop (16 * received) whole

  -- what may be missing
  preset_again : (on : ℕ) (p : List ℕ) → length p ≡ preset_bytes → leb on 1 ≡ true → cond (eqb on 0) (zeros p) true ≡ true → preset_from on (held on p) ≡ p
  unfolding preset_from held bytes_in
  preset_again zero p l e z = ap (λ (k : ℕ). replicate k 0) (sym l) ∙ zeros-replicate p z
  preset_again (suc zero) p l e z = refl
  preset_again (suc (suc n)) p l e z = absurd (omega (arith, leb-true (suc (suc n)) 1 e))

  frozen-again : (on : ℕ) (p : List ℕ) → length p ≡ capture_bytes → pack_cells capture_bytes (unpack_cells capture_bytes p) ≡ p → leb on 1 ≡ true
      → cond (eqb on 0) (zeros p) true ≡ true → frozen_from (cond (is_set on) (some (unpack_cells capture_bytes p)) none) ≡ p
  unfolding frozen_from
  frozen-again zero p l w e z = ap (λ (k : ℕ). replicate k 0) (sym l) ∙ zeros-replicate p z
  frozen-again (suc zero) p l w e z = w
  frozen-again (suc (suc n)) p l w e z = absurd (omega (arith, leb-true (suc (suc n)) 1 e))

  preset-back : preset_from (get_or (part 0 field_bytes b) preset_on_at 0) (held (byte preset_on_at b) (part preset_at preset_bytes b)) ≡ part preset_at preset_bytes b
  preset-back =
      ap (λ (n : ℕ). preset_from n (held (byte preset_on_at b) (part preset_at preset_bytes b))) (field_back preset_on_at (lit< tt))
      ∙ preset_again (byte preset_on_at b) (part preset_at preset_bytes b) (long-part b v.long preset_at preset_bytes (lit≤ tt)) (two b c).preset (unfold v5 in c.five)

  frozen-back : frozen_from (cond (is_set (byte frozen_on_at b)) (some frozenCells) none) ≡ part frozen_at capture_bytes b
  frozen-back =
      frozen-again (byte frozen_on_at b) (part frozen_at capture_bytes b) (long-part b v.long frozen_at capture_bytes (lit≤ tt)) (cells-back frozen_at capture_bytes (lit≤ tt)) (two b c).frozen
      (unfold v6 in and_right (mask_allows (byte mask_at b) (byte frozen_on_at b)) _ c.six)

  pub block-again : block_from (state_of b) ≡ b
  unfolding block_from state_of front_from whole_border is_there border_from bytes_in
  block-again =
      flat_nested
      (header_from (part 0 field_bytes b) (is_held (cond (is_set (byte frozen_on_at b)) (some frozenCells) none)) ∷ part packet_at packet_bytes b
      ∷ store_from (some (part store_at (16 * received) b)) ∷ preset_from (get_or (part 0 field_bytes b) preset_on_at 0) (held (byte preset_on_at b) (part preset_at preset_bytes b)) ∷ [])
      (drop 1 (parts_from (state_of b)))
      ∙ (λ t.
      flat
      (header-back t ∷ part packet_at packet_bytes b ∷ store-back t ∷ preset-back t ∷ part palettes_at palettes_bytes b ∷ cells-back map_at map_bytes (lit≤ tt) t
      ∷ part system_at system_bytes b ∷ cells-back files_at files_bytes (lit≤ tt) t ∷ cells-back live_at capture_bytes (lit≤ tt) t ∷ frozen-back t ∷ part tiles_at tiles_bytes b
      ∷ part border_map_at border_map_bytes b ∷ part border_palettes_at border_palettes_bytes b ∷ []))
      ∙ flat-cut 0 sizes b (sym v.long)

  -- its lengths are those that are asked
  long-eqb : (at n : ℕ) → at + n ≤ block_bytes → eqb (length (part at n b)) n ≡ true
  long-eqb at n h = eq-eqb (length (part at n b)) n (long-part b v.long at n h)

  cells-eqb : (n : ℕ) (l : List ℕ) → eqb (length (unpack_cells n l)) (4 * n) ≡ true
  cells-eqb n l = eq-eqb (length (unpack_cells n l)) (4 * n) (length-unpack_cells n l)

  front_fits_true : front_fits (part 0 field_bytes b) (some (part packet_at packet_bytes b)) (some (part store_at (16 * received) b)) (held (byte preset_on_at b) (part preset_at preset_bytes b)) ≡ true
  unfolding front_fits packets_fit has
  front_fits_true =
      rw (
        long-eqb 0 field_bytes (lit≤ tt),
        long-eqb packet_at packet_bytes (lit≤ tt),
        field_back received_at (lit< tt),
        field_back preset_on_at (lit< tt),
        le-leb received 7 (stored_in b v).few,
        eq-eqb (length (part store_at (16 * received) b)) (16 * received) packets-long,
      )
      (preset-fit (byte preset_on_at b))
    where
      preset-fit : (on : ℕ) → preset_fits on (held on (part preset_at preset_bytes b)) ≡ true
      preset-fit on = unfold preset_fits held has in go (is_set on)
        where
          go : (t : Bool) → cond t (has preset_bytes (cond t (some (part preset_at preset_bytes b)) none)) true ≡ true
          go true = unfold has in long-eqb preset_at preset_bytes (lit≤ tt)
          go false = refl

  captures-fit : captures_fit (some (unpack_cells capture_bytes (part live_at capture_bytes b))) (cond (is_set (byte frozen_on_at b)) (some frozenCells) none) ≡ true
  unfolding captures_fit has
  captures-fit = rw (cells-eqb capture_bytes (part live_at capture_bytes b)) (go (is_set (byte frozen_on_at b)))
    where
      go : (t : Bool) → may_have capture_pixels (cond t (some frozenCells) none) ≡ true
      go true = unfold may_have in cells-eqb capture_bytes (part frozen_at capture_bytes b)
      go false = unfold may_have in refl

  abbrev mapSpan : List ℕ
  mapSpan = unpack_cells map_bytes (part map_at map_bytes b)

  abbrev filesSpan : List ℕ
  filesSpan = unpack_cells files_bytes (part files_at files_bytes b)

  tables-fit : tables_fit (some (part palettes_at palettes_bytes b)) (some mapSpan) (some (part system_at system_bytes b)) (some filesSpan) ≡ true
  unfolding tables_fit has
  tables-fit =
      and-true (eqb (length (part palettes_at palettes_bytes b)) palettes_bytes) _ (long-eqb palettes_at palettes_bytes (lit≤ tt))
      (and-true (eqb (length mapSpan) map_cells) _ (cells-eqb map_bytes (part map_at map_bytes b))
      (and-true (eqb (length (part system_at system_bytes b)) system_bytes) _ (long-eqb system_at system_bytes (lit≤ tt)) (cells-eqb files_bytes (part files_at files_bytes b))))

  border-fits : border_fits (some (part tiles_at tiles_bytes b)) (some (part border_map_at border_map_bytes b)) (some (part border_palettes_at border_palettes_bytes b)) ≡ true
  unfolding border_fits whole_border is_there has
  border-fits =
      and-true (eqb (length (part tiles_at tiles_bytes b)) tiles_bytes) _ (long-eqb tiles_at tiles_bytes (lit≤ tt))
      (and-true (eqb (length (part border_map_at border_map_bytes b)) border_map_bytes) _ (long-eqb border_map_at border_map_bytes (lit≤ tt))
      (long-eqb border_palettes_at border_palettes_bytes (lit≤ tt)))

  state-fits : fits (state_of b) ≡ true
  unfolding fits state_of
  state-fits =
      and-true (front_fits (state_of b).fields (state_of b).packet (state_of b).packets (state_of b).preset) _ front_fits_true
      (and-true (tables_fit (state_of b).palettes (state_of b).attribute_map (state_of b).system_palettes (state_of b).attribute_files) _ tables-fit
      (and-true (captures_fit (state_of b).capture (state_of b).frozen_capture) _ captures-fit border-fits))

  state-cells : cells_fit (state_of b) ≡ true
  unfolding cells_fit state_of bytes_in
  state-cells = rw (numbers_unpacked map_bytes (part map_at map_bytes b), numbers_unpacked files_bytes (part files_at files_bytes b))

  -- out and in again, into any block
  module _ (into : List ℕ) (long : length into ≡ block_bytes) where
    answer-none : from_answer into (state_of b) ≡ 0
    unfolding from_answer
    answer-none =
        rw (eq-eqb (length into) block_bytes long, state-fits, state-cells, block-again)
        (number-valid b (unfold valid in and_right (eqb (length b) block_bytes) (valid_parts b) v.tested))

    pub out-in : (from_answer into (state_of b) ≡ 0) × (from_block into (state_of b) ≡ b)
    unfolding from_block
    out-in = (answer-none, rw answer-none block-again)
