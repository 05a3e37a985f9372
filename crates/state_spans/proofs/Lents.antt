-- What a caller holds after a block went out, read as a state, is the state that the block says: each span stands at the front of what was lent, and
-- the number tells which of them are there.
use mathlib.Core.Path.{◌≡◌, refl, sym, ap, ◌∙◌}
use mathlib.Core.Bool.{Bool, true, false, cond, false≢true}
use mathlib.Core.List.{List, [], ◌∷◌}
use mathlib.Core.Option.{none, some}
use Prim.Native.Nat.{ℕ, zero, suc, ◌+◌, ◌*◌, ◌/◌, ◌%◌, ◌^◌, ◌≤◌}
use native.Mathlib.Nat.{div-one, zero-div, div-div-eq-div-mul, pow-succ'}
use native.Mathlib.Omega.{arith}
use lib.Dec.{lit<, lit≤, eqb}
use lib.ListN.{length, take, drop, get_or, get_or-append}
use lib.Seq.{take_at}
use Rattle.bits.specs.Bit.{bit_of}
use Rattle.bits.specs.Over.{part}
use Rattle.bits.proofs.Overs.{length_part, get_or-part}
use Rattle.layout.specs.Block.{byte, is_set, held}
use Rattle.layout.specs.Valid.{Valid}
use Rattle.layout.proofs.Saved.{long-part}
use Rattle.parts.specs.Parts.{block_bytes, received_at, preset_on_at, frozen_on_at, packet_at, packet_bytes, store_at, preset_at, preset_bytes, palettes_at, palettes_bytes, map_at, map_bytes, system_at, system_bytes, files_at, files_bytes, live_at, capture_bytes, frozen_at, tiles_at, tiles_bytes, border_map_at, border_map_bytes, border_palettes_at, border_palettes_bytes}
use Rattle.state_cells.specs.Cells.{unpack_cells}
use Rattle.state_cells.proofs.Celling.{length-unpack_cells}
use Rattle.state_spans.specs.State.{field_bytes, map_cells, files_cells, capture_pixels, is_there, presence, present_in}
use Rattle.state_spans.specs.Going.{Lent, state_of, laid, laid_all, read_back}
use Rattle.state_spans.proofs.Stored.{stored_in}

-- ---- the number of the spans that are there, bit by bit

half : (t : Bool) (m : ℕ) → (cond t 1 0 + 2 * m) / 2 ≡ m
half true m = omega arith
half false m = omega arith

low : (t : Bool) (m : ℕ) → eqb ((cond t 1 0 + 2 * m) % 2) 1 ≡ t
low true m = let e : (1 + 2 * m) % 2 ≡ 1 = omega arith in ap (λ (k : ℕ). eqb k 1) e
low false m = let e : (0 + 2 * m) % 2 ≡ 0 = omega arith in ap (λ (k : ℕ). eqb k 1) e

pub bit-presence : (k : ℕ) (ts : List Bool) → bit_of k (presence ts) ≡ get_or ts k false
unfolding bit_of presence
bit-presence k [] = ap (λ (n : ℕ). eqb (n % 2) 1) (zero-div (2 ^ k))
bit-presence zero (t ∷ ts) = ap (λ (n : ℕ). eqb (n % 2) 1) (div-one (cond t 1 0 + 2 * presence ts)) ∙ low t (presence ts)
bit-presence (suc k) (t ∷ ts) =
    ap (λ (n : ℕ). eqb ((cond t 1 0 + 2 * presence ts) / n % 2) 1) (pow-succ' 2 k)
    ∙ ap (λ (n : ℕ). eqb (n % 2) 1) (sym (div-div-eq-div-mul (cond t 1 0 + 2 * presence ts) 2 (2 ^ k)) ∙ ap (λ (n : ℕ). n / 2 ^ k) (half t (presence ts)))
    ∙ bit-presence k ts

-- ---- a span at the front of what was lent

at_front : (ys l : List ℕ) (n : ℕ) → length ys ≡ n → take n (laid (some ys) l) ≡ ys
unfolding laid
at_front ys l n e = take_at ys (drop (length ys) l) n e

always : (t : Bool) (ys l : List ℕ) (n : ℕ) → t ≡ true → length ys ≡ n → cond t (some (take n (laid (some ys) l))) none ≡ some ys
always true ys l n e h = ap some (at_front ys l n h)
always false ys l n e h = absurd (false≢true e)

perhaps : (t f : Bool) (ys l : List ℕ) (n : ℕ) → t ≡ f → length ys ≡ n → cond t (some (take n (laid (cond f (some ys) none) l))) none ≡ cond f (some ys) none
perhaps true true ys l n e h = ap some (at_front ys l n h)
perhaps false false ys l n e h = refl
perhaps true false ys l n e h = absurd (false≢true (sym e))
perhaps false true ys l n e h = absurd (false≢true e)

-- ---- all of them

module _ (b : List ℕ) (v : Valid b) (l : Lent) where
  abbrev frozen : Bool
  frozen = is_set (byte frozen_on_at b)

  abbrev preset : Bool
  preset = is_set (byte preset_on_at b)

  there-if : (t : Bool) (x : List ℕ) → is_there (cond t (some x) none) ≡ t
  unfolding is_there
  there-if true x = refl
  there-if false x = refl

  abbrev present : ℕ
  present = presence (true ∷ true ∷ true ∷ true ∷ true ∷ true ∷ true ∷ frozen ∷ preset ∷ true ∷ true ∷ true ∷ [])

  present-is : present_in (state_of b) ≡ present
  unfolding state_of held is_there
  present-is =
      λ t.
      presence
      (true ∷ true ∷ true ∷ true ∷ true ∷ true ∷ true ∷ there-if frozen (unpack_cells capture_bytes (part frozen_at capture_bytes b)) t
      ∷ there-if preset (part preset_at preset_bytes b) t ∷ true ∷ true ∷ true ∷ [])

  bit : (k : ℕ) → bit_of k present ≡ get_or (true ∷ true ∷ true ∷ true ∷ true ∷ true ∷ true ∷ frozen ∷ preset ∷ true ∷ true ∷ true ∷ []) k false
  bit k = bit-presence k _

  long : (at n : ℕ) → at + n ≤ block_bytes → length (part at n b) ≡ n
  long at n h = long-part b v.long at n h

  abbrev fields : List ℕ
  fields = part 0 field_bytes b

  received_is : get_or (laid (some fields) l.fields) received_at 0 ≡ byte received_at b
  unfolding laid
  received_is =
      get_or-append fields (drop (length fields) l.fields) 0 received_at (omega (arith, long 0 field_bytes (lit≤ tt)))
      ∙ get_or-part 0 field_bytes b received_at (lit< tt)

  packets-is : length (part store_at (16 * byte received_at b) b) ≡ 16 * get_or (laid (some fields) l.fields) received_at 0
  packets-is =
      length_part store_at (16 * byte received_at b) b (omega (arith, v.long, (stored_in b v).few)) ∙ ap (λ (n : ℕ). 16 * n) (sym received_is)

  pub read_back-laid : read_back (present_in (state_of b)) (laid_all (state_of b) l) ≡ state_of b
  unfolding state_of laid_all held
  read_back-laid =
      ap (λ (n : ℕ). read_back n (laid_all (state_of b) l)) present-is
      ∙ (λ t.
      record {
        fields = at_front fields l.fields field_bytes (long 0 field_bytes (lit≤ tt)) t;
        palettes = always (bit_of 0 present) (part palettes_at palettes_bytes b) l.palettes palettes_bytes (bit 0) (long palettes_at palettes_bytes (lit≤ tt)) t;
        attribute_map = always (bit_of 1 present) (unpack_cells map_bytes (part map_at map_bytes b)) l.attribute_map map_cells (bit 1) (length-unpack_cells map_bytes (part map_at map_bytes b)) t;
        system_palettes = always (bit_of 2 present) (part system_at system_bytes b) l.system_palettes system_bytes (bit 2) (long system_at system_bytes (lit≤ tt)) t;
        attribute_files = always (bit_of 3 present) (unpack_cells files_bytes (part files_at files_bytes b)) l.attribute_files files_cells (bit 3) (length-unpack_cells files_bytes (part files_at files_bytes b)) t;
        packet = always (bit_of 4 present) (part packet_at packet_bytes b) l.packet packet_bytes (bit 4) (long packet_at packet_bytes (lit≤ tt)) t;
        packets = always (bit_of 5 present) (part store_at (16 * byte received_at b) b) l.packets (16 * get_or (laid (some fields) l.fields) received_at 0) (bit 5) packets-is t;
        capture = always (bit_of 6 present) (unpack_cells capture_bytes (part live_at capture_bytes b)) l.capture capture_pixels (bit 6) (length-unpack_cells capture_bytes (part live_at capture_bytes b)) t;
        frozen_capture = perhaps (bit_of 7 present) frozen (unpack_cells capture_bytes (part frozen_at capture_bytes b)) l.frozen_capture capture_pixels (bit 7) (length-unpack_cells capture_bytes (part frozen_at capture_bytes b)) t;
        preset = perhaps (bit_of 8 present) preset (part preset_at preset_bytes b) l.preset preset_bytes (bit 8) (long preset_at preset_bytes (lit≤ tt)) t;
        border_tiles = always (bit_of 9 present) (part tiles_at tiles_bytes b) l.border_tiles tiles_bytes (bit 9) (long tiles_at tiles_bytes (lit≤ tt)) t;
        border_map = always (bit_of 10 present) (part border_map_at border_map_bytes b) l.border_map border_map_bytes (bit 10) (long border_map_at border_map_bytes (lit≤ tt)) t;
        border_palettes = always (bit_of 11 present) (part border_palettes_at border_palettes_bytes b) l.border_palettes border_palettes_bytes (bit 11) (long border_palettes_at border_palettes_bytes (lit≤ tt)) t;
      })
