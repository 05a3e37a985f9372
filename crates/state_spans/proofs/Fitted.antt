-- What the tests of a state's lengths tell of spans as they are lent, group by group: each is there and as long as it must be, and what is taken
-- of it is the span itself.
use mathlib.Core.Path.{◌≡◌, refl, sym, ◌∙◌}
use mathlib.Core.Bool.{Bool, true, false, ◌&&◌, cond, false≢true}
use mathlib.Core.List.{List, [], ◌∷◌}
use mathlib.Core.Option.{some}
use Prim.Native.Nat.{ℕ, ◌*◌, ◌≤◌}
use borrow.Author.Tests.{eqb-true, leb-true}
use lib.Dec.{eqb, leb}
use lib.ListN.{length, get_or, replicate}
use Rattle.bits.proofs.Tests.{and_left, and_right}
use Rattle.layout.specs.Block.{is_set, flat}
use Rattle.parts.specs.Parts.{received_at, preset_on_at, packet_bytes, preset_bytes, palettes_bytes, system_bytes, tiles_bytes, border_map_bytes, border_palettes_bytes}
use Rattle.state_spans.specs.State.{field_bytes, map_cells, files_cells, capture_pixels, bytes_in}
use Rattle.state_spans.specs.Coming.{has, may_have, packets_fit, preset_fits, front_fits, tables_fit, captures_fit, whole_border, border_fits, header_from, store_from, preset_from, front_from, border_from}
use Rattle.state_spans.proofs.Lending.{lent_if, has_there, has-long, has-bytes, some_bytes, may-long, whole-bits, border-lengths}

-- ---- what stands before the palettes

pub record Front (f x y z : List ℕ) (p q r : Bool) : Type 0 where
  pub fields : length f ≡ field_bytes
  pub packet : length x ≡ packet_bytes
  pub packet_there : p ≡ true
  pub received : get_or f received_at 0 ≤ 7
  pub packets : length y ≡ 16 * get_or f received_at 0
  pub packets_there : q ≡ true
  pub preset : is_set (get_or f preset_on_at 0) ≡ true → length z ≡ preset_bytes
  pub preset_there : is_set (get_or f preset_on_at 0) ≡ true → r ≡ true
  pub taken : (on : ℕ) → front_from f on (lent_if p x) (lent_if q y) (lent_if r z) ≡ front_from f on (some x) (some y) (some z)

pub front_fitted : (f x y z : List ℕ) (p q r : Bool) → front_fits f (lent_if p x) (lent_if q y) (lent_if r z) ≡ true → Front f x y z p q r
unfolding front_fits packets_fit preset_fits front_from preset_from
front_fitted f x y z p q r h =
    let a = and_right (eqb (length f) field_bytes) _ h in
    let hasPacket = and_left (has packet_bytes (lent_if p x)) _ a in
    let b = and_right (has packet_bytes (lent_if p x)) _ a in
    let fit = and_left (leb (get_or f received_at 0) 7 && has (16 * get_or f received_at 0) (lent_if q y)) _ b in
    let pre = and_right (leb (get_or f received_at 0) 7 && has (16 * get_or f received_at 0) (lent_if q y)) _ b in
    let hasPackets = and_right (leb (get_or f received_at 0) 7) _ fit in
    record {
      fields = eqb-true (length f) field_bytes (and_left (eqb (length f) field_bytes) _ h);
      packet = has-long packet_bytes p x hasPacket;
      packet_there = has_there packet_bytes p x hasPacket;
      received = leb-true (get_or f received_at 0) 7 (and_left (leb (get_or f received_at 0) 7) _ fit);
      packets = has-long (16 * get_or f received_at 0) q y hasPackets;
      packets_there = has_there (16 * get_or f received_at 0) q y hasPackets;
      preset = preset-long (is_set (get_or f preset_on_at 0)) pre;
      preset_there = preset-is (is_set (get_or f preset_on_at 0)) pre;
      taken =
          λ on t.
          flat
          (header_from f on ∷ bytes_in (lent_if (has_there packet_bytes p x hasPacket t) x) ∷ store_from (lent_if (has_there (16 * get_or f received_at 0) q y hasPackets t) y)
          ∷ preset-taken (is_set (get_or f preset_on_at 0)) r pre t ∷ []);
    }
  where
    preset-taken : (t u : Bool) → cond t (has preset_bytes (lent_if u z)) true ≡ true
        → cond t (bytes_in (lent_if u z)) (replicate preset_bytes 0) ≡ cond t (bytes_in (some z)) (replicate preset_bytes 0)
    preset-taken true u g = has-bytes preset_bytes u z g ∙ sym (some_bytes z)
    preset-taken false u g = refl

    preset-is : (t : Bool) → cond t (has preset_bytes (lent_if r z)) true ≡ true → t ≡ true → r ≡ true
    preset-is true g e = has_there preset_bytes r z g
    preset-is false g e = absurd (false≢true e)

    preset-long : (t : Bool) → cond t (has preset_bytes (lent_if r z)) true ≡ true → t ≡ true → length z ≡ preset_bytes
    preset-long true g e = has-long preset_bytes r z g
    preset-long false g e = absurd (false≢true e)

-- ---- palettes and maps

pub record Tables (x y z w : List ℕ) (p q r s : Bool) : Type 0 where
  pub palettes : length x ≡ palettes_bytes
  pub attribute_map : length y ≡ map_cells
  pub system_palettes : length z ≡ system_bytes
  pub attribute_files : length w ≡ files_cells
  pub palettes_there : p ≡ true
  pub attribute_map_there : q ≡ true
  pub system_palettes_there : r ≡ true
  pub attribute_files_there : s ≡ true
  pub palettes_in : bytes_in (lent_if p x) ≡ x
  pub attribute_map_in : bytes_in (lent_if q y) ≡ y
  pub system_palettes_in : bytes_in (lent_if r z) ≡ z
  pub attribute_files_in : bytes_in (lent_if s w) ≡ w

pub tables_fitted : (x y z w : List ℕ) (p q r s : Bool) → tables_fit (lent_if p x) (lent_if q y) (lent_if r z) (lent_if s w) ≡ true → Tables x y z w p q r s
unfolding tables_fit
tables_fitted x y z w p q r s h =
    let a = and_left (has palettes_bytes (lent_if p x)) _ h in
    let h2 = and_right (has palettes_bytes (lent_if p x)) _ h in
    let b = and_left (has map_cells (lent_if q y)) _ h2 in
    let h3 = and_right (has map_cells (lent_if q y)) _ h2 in
    let c = and_left (has system_bytes (lent_if r z)) _ h3 in
    let d = and_right (has system_bytes (lent_if r z)) _ h3 in
    record {
      palettes = has-long palettes_bytes p x a;
      attribute_map = has-long map_cells q y b;
      system_palettes = has-long system_bytes r z c;
      attribute_files = has-long files_cells s w d;
      palettes_there = has_there palettes_bytes p x a;
      attribute_map_there = has_there map_cells q y b;
      system_palettes_there = has_there system_bytes r z c;
      attribute_files_there = has_there files_cells s w d;
      palettes_in = has-bytes palettes_bytes p x a;
      attribute_map_in = has-bytes map_cells q y b;
      system_palettes_in = has-bytes system_bytes r z c;
      attribute_files_in = has-bytes files_cells s w d;
    }

-- ---- captures

pub record Captures (x y : List ℕ) (p q : Bool) : Type 0 where
  pub capture : length x ≡ capture_pixels
  pub capture_there : p ≡ true
  pub capture_in : bytes_in (lent_if p x) ≡ x
  pub frozen_capture : q ≡ true → length y ≡ capture_pixels

pub captures_fitted : (x y : List ℕ) (p q : Bool) → captures_fit (lent_if p x) (lent_if q y) ≡ true → Captures x y p q
unfolding captures_fit
captures_fitted x y p q h =
    record {
      capture = has-long capture_pixels p x (and_left (has capture_pixels (lent_if p x)) _ h);
      capture_there = has_there capture_pixels p x (and_left (has capture_pixels (lent_if p x)) _ h);
      capture_in = has-bytes capture_pixels p x (and_left (has capture_pixels (lent_if p x)) _ h);
      frozen_capture = frozen q (and_right (has capture_pixels (lent_if p x)) _ h);
    }
  where
    frozen : (t : Bool) → may_have capture_pixels (lent_if t y) ≡ true → t ≡ true → length y ≡ capture_pixels
    frozen true g e = may-long capture_pixels y g
    frozen false g e = absurd (false≢true e)

-- ---- the border

module _ (p q r : Bool) (x y z : List ℕ) where
  abbrev whole : Bool
  whole = p && (q && r)

  pub record Border : Type 0 where
    pub tiles : whole ≡ true → length x ≡ tiles_bytes
    pub map : whole ≡ true → length y ≡ border_map_bytes
    pub palettes : whole ≡ true → length z ≡ border_palettes_bytes
    pub bits : whole_border (lent_if p x) (lent_if q y) (lent_if r z) ≡ whole
    pub tiles-in : (n : ℕ) → border_from whole n (lent_if p x) ≡ border_from whole n (some x)
    pub map-in : (n : ℕ) → border_from whole n (lent_if q y) ≡ border_from whole n (some y)
    pub palettes_in : (n : ℕ) → border_from whole n (lent_if r z) ≡ border_from whole n (some z)

pub border_fitted : (p q r : Bool) (x y z : List ℕ) → border_fits (lent_if p x) (lent_if q y) (lent_if r z) ≡ true → Border p q r x y z
unfolding border_from bytes_in
border_fitted p q r x y z h =
    record {
      tiles = λ e. eqb-true (length x) tiles_bytes (and_left (eqb (length x) tiles_bytes) _ (lengths e));
      map = λ e. eqb-true (length y) border_map_bytes (and_left (eqb (length y) border_map_bytes) _ (and_right (eqb (length x) tiles_bytes) _ (lengths e)));
      palettes = λ e. eqb-true (length z) border_palettes_bytes (and_right (eqb (length y) border_map_bytes) _ (and_right (eqb (length x) tiles_bytes) _ (lengths e)));
      bits = whole-bits p q r x y z;
      tiles-in = λ n. first p q r n;
      map-in = λ n. second p q r n;
      palettes_in = λ n. third p q r n;
    }
  where
    lengths : (p && (q && r)) ≡ true → (eqb (length x) tiles_bytes && (eqb (length y) border_map_bytes && eqb (length z) border_palettes_bytes)) ≡ true
    lengths e = border-lengths p q r x y z e ∙ h

    first : (a b c : Bool) (n : ℕ) → border_from (a && (b && c)) n (lent_if a x) ≡ border_from (a && (b && c)) n (some x)
    first true b c n = refl
    first false b c n = refl

    second : (a b c : Bool) (n : ℕ) → border_from (a && (b && c)) n (lent_if b y) ≡ border_from (a && (b && c)) n (some y)
    second true true c n = refl
    second true false c n = unfold border_from in refl
    second false b c n = unfold border_from in refl

    third : (a b c : Bool) (n : ℕ) → border_from (a && (b && c)) n (lent_if c z) ≡ border_from (a && (b && c)) n (some z)
    third true true true n = refl
    third true true false n = unfold border_from in refl
    third true false c n = unfold border_from in refl
    third false b c n = unfold border_from in refl
