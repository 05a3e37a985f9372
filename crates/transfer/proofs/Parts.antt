-- A part that is copied over from its front to its end holds what was copied, and nothing of what it held: so a landing leaves what the page has.
use mathlib.Core.Path.{◌≡◌, sym, ap, ap₂, ◌∙◌}
use mathlib.Core.List.{List, ◌++◌}
use Prim.Native.Nat.{ℕ, ◌/◌, ◌%◌}
use native.Mathlib.Omega.{arith}
use lib.ListN.{length, take, drop, length-append, length-take, length-drop}
use Rattle.parts.specs.Parts.{files_bytes, border_map_bytes, border_palettes_bytes, border_bytes}
use Rattle.bits.specs.Over.{over}
use Rattle.bits.proofs.Overs.{over_all, over-rest}
use Rattle.bits.proofs.Tabs.{length-tab}
use Rattle.transfer.specs.Page.{plane_byte, page_bytes, page_of}
use Rattle.transfer.specs.Landing.{files_landed, map_landed}

pub page-long : (s : List ℕ) → length (page_of s) ≡ page_bytes
unfolding page_of
page-long s = length-tab page_bytes (λ k. plane_byte s (k / 16) (k % 16 / 2) (k % 2))

-- the map and its palettes
pub border_long : (s : List ℕ) → length (map_landed s) ≡ border_bytes
unfolding map_landed
border_long s = let e : length (page_of s) ≡ page_bytes = page-long s in simp (length-append, length-take, length-drop) (omega arith)

-- the attribute files, and the map with its palettes: parts of the page, one after the other
pub files_are : (s page part out : List ℕ) → page ≡ page_of s → length part ≡ files_bytes
    → out ≡ over 0 (length (take files_bytes page)) (take files_bytes page) part → out ≡ files_landed s
unfolding files_landed
files_are s page part out e h q =
    let long : length page ≡ page_bytes = ap length e ∙ page-long s in
    let n : length (take files_bytes page) ≡ files_bytes = simp length-take (omega arith) in
    q ∙ over_all (length (take files_bytes page)) (take files_bytes page) part (h ∙ sym n) ∙ ap (take files_bytes) e

pub map_is : (s page part mid out : List ℕ) → page ≡ page_of s → length part ≡ border_bytes
    → mid ≡ over 0 (length (take border_map_bytes page)) (take border_map_bytes page) part
    → out ≡ over border_map_bytes (length (take border_palettes_bytes (drop 0x800 page))) (take border_palettes_bytes (drop 0x800 page)) mid → out ≡ map_landed s
unfolding map_landed
map_is s page part mid out e h q r =
    let long : length page ≡ page_bytes = ap length e ∙ page-long s in
    let n : length (take border_map_bytes page) ≡ border_map_bytes = simp length-take (omega arith) in
    let m : length (take border_palettes_bytes (drop 0x800 page)) ≡ border_palettes_bytes = simp (length-take, length-drop) (omega arith) in
    r
    ∙ ap₂ (λ (k : ℕ) (b : List ℕ). over border_map_bytes k (take border_palettes_bytes (drop 0x800 page)) b) m (q ∙ ap (λ (k : ℕ). over 0 k (take border_map_bytes page) part) n)
    ∙ over-rest border_map_bytes border_palettes_bytes (take border_map_bytes page) (take border_palettes_bytes (drop 0x800 page)) part n h
    ∙ ap (λ (p : List ℕ). take border_map_bytes p ++ take border_palettes_bytes (drop 0x800 p)) e
