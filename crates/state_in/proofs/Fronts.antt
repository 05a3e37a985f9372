-- The front of a block that a state gives, as it is written step by step, and the number that its rules give.
use mathlib.Core.Path.{◌≡◌, refl, sym, ap, ◌∙◌}
use mathlib.Core.Bool.{Bool, true, false, false≢true}
use mathlib.Core.List.{List, [], ◌∷◌, ◌++◌, map}
use Prim.Native.Nat.{ℕ, zero, suc, ◌+◌, ◌-◌, ◌≤◌}
use native.Mathlib.Nat.{sub-zero, zero-sub, suc-sub-suc}
use native.Mathlib.Omega.{arith}
use lib.ListN.{length, get_or, set, replicate, drop, drop_of_length-le}
use lib.Dec.{lit<}
use Rattle.bits.specs.Over.{over, part}
use Rattle.layout.specs.Block.{flat}
use Rattle.layout.proofs.Cut.{heads, heads-eq, get-part, put-part, length-flat}
use Rattle.bits.proofs.Overs.{over-within}
use Rattle.broken.specs.Broken.{asked, byte_of, lower, lowest, broken_or, first_of, broken_number}
use Rattle.parts.specs.Parts.{mask_at, index_at, pads_at, p15_at, both_at, stage_at, expected_at, received_at, bits_at, preset_on_at, countdown_at, kind_at, frozen_on_at, header_bytes, packet_at, packet_bytes, store_at, store_bytes, preset_at, preset_bytes, palettes_at, sum}
use Rattle.state_spans.specs.State.{field_bytes}

-- ---- the mask mode against byte 12, behind V1 to V5

pub mask-told : (t : Bool) → t ≡ false → 26 ≡ broken_number (first_of 6 ((asked mask_at t ∷ []) ∷ []))
unfolding byte_of lower lowest broken_or first_of broken_number
mask-told true e = absurd (false≢true (sym e))
mask-told false e = refl

pub mask-clear : (t : Bool) → t ≡ true → 0 ≡ broken_number (first_of 6 ((asked mask_at t ∷ []) ∷ []))
unfolding byte_of lower lowest broken_or first_of broken_number
mask-clear true e = refl
mask-clear false e = absurd (false≢true e)

-- ---- the header

-- twelve fields, two of them replaced, and zeros
pub header_made : (fields : List ℕ) (k on : ℕ) → length fields ≡ field_bytes
    → set (set (over 0 field_bytes fields (replicate palettes_at 0)) kind_at k) frozen_on_at on
    ≡ flat ((get_or fields mask_at 0 ∷ get_or fields index_at 0 ∷ get_or fields pads_at 0 ∷ get_or fields p15_at 0 ∷ get_or fields both_at 0 ∷ get_or fields stage_at 0
    ∷ get_or fields expected_at 0 ∷ get_or fields received_at 0 ∷ get_or fields bits_at 0 ∷ get_or fields preset_on_at 0 ∷ get_or fields countdown_at 0 ∷ k ∷ on
    ∷ 0 ∷ 0 ∷ 0 ∷ []) ∷ replicate packet_bytes 0 ∷ replicate store_bytes 0 ∷ replicate preset_bytes 0 ∷ [])
header_made fields k on e =
    let le : length fields ≤ field_bytes = omega arith in
    let twelve : fields ≡ heads field_bytes 0 fields [] =
    sym (ap (heads field_bytes 0 fields) (sym (drop_of_length-le fields le)) ∙ heads-eq field_bytes 0 fields (omega arith)) in
    ap (λ (l : List ℕ). set (set (over 0 field_bytes l (replicate palettes_at 0)) kind_at k) frozen_on_at on) twelve

-- ---- what stands behind it

drop-zeros : (n m : ℕ) → drop {A = ℕ} n (replicate m 0) ≡ replicate (m - n) 0
drop-zeros zero m = ap (λ (k : ℕ). replicate k 0) (sym (sub-zero m))
drop-zeros (suc n) zero = ap (λ (k : ℕ). replicate k 0) (sym (zero-sub (suc n)))
drop-zeros (suc n) (suc m) = rw (suc-sub-suc) (drop-zeros n m)

abbrev front_sizes : List ℕ
front_sizes = header_bytes ∷ packet_bytes ∷ store_bytes ∷ preset_bytes ∷ []

-- the packet, and the packets from the store's start on
pub front_made : (h packet packets : List ℕ) → length h ≡ header_bytes → length packet ≡ packet_bytes → length packets ≤ store_bytes
    → over store_at (length packets) packets (over packet_at packet_bytes packet (flat (h ∷ replicate packet_bytes 0 ∷ replicate store_bytes 0 ∷ replicate preset_bytes 0 ∷ [])))
    ≡ flat (h ∷ packet ∷ (packets ++ replicate (store_bytes - length packets) 0) ∷ replicate preset_bytes 0 ∷ [])
front_made h packet packets eh ep le =
    let ps : List (List ℕ) = h ∷ replicate packet_bytes 0 ∷ replicate store_bytes 0 ∷ replicate preset_bytes 0 ∷ [] in
    let qs : List (List ℕ) = h ∷ packet ∷ replicate store_bytes 0 ∷ replicate preset_bytes 0 ∷ [] in
    let fit : map length ps ≡ front_sizes = λ t. eh t ∷ packet_bytes ∷ store_bytes ∷ preset_bytes ∷ [] in
    let fits : map length qs ≡ front_sizes = λ t. eh t ∷ ep t ∷ store_bytes ∷ preset_bytes ∷ [] in
    let long : length (flat qs) ≡ palettes_at = length-flat qs ∙ ap sum fits in
    let inside : store_at + store_bytes ≤ length (flat qs) = omega arith in
    let held : over 0 (length packets) packets (part store_at store_bytes (flat qs)) ≡ packets ++ replicate (store_bytes - length packets) 0 =
    ap (over 0 (length packets) packets) (get-part front_sizes qs fits 2 (lit< tt)) ∙ ap (λ (z : List ℕ). packets ++ z) (drop-zeros (length packets) store_bytes) in
    ap (over store_at (length packets) packets) (put-part front_sizes ps fit 1 (lit< tt) packet)
    ∙ over-within store_at store_bytes 0 (length packets) packets (flat qs) (omega arith) inside
    ∙ ap (λ (z : List ℕ). over store_at store_bytes z (flat qs)) held
    ∙ put-part front_sizes qs fits 2 (lit< tt) (packets ++ replicate (store_bytes - length packets) 0)

-- the preset
pub preset_made : (h packet store preset : List ℕ) → length h ≡ header_bytes → length packet ≡ packet_bytes → length store ≡ store_bytes → length preset ≡ preset_bytes
    → over preset_at preset_bytes preset (flat (h ∷ packet ∷ store ∷ replicate preset_bytes 0 ∷ [])) ≡ flat (h ∷ packet ∷ store ∷ preset ∷ [])
preset_made h packet store preset eh ep es er =
    put-part front_sizes (h ∷ packet ∷ store ∷ replicate preset_bytes 0 ∷ []) (λ t. eh t ∷ ep t ∷ es t ∷ preset_bytes ∷ []) 3 (lit< tt) preset
