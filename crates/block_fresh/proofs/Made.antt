-- A block of zeros is its parts, each of zeros; the palettes take their places in it as parts, and the flags as bytes of the header.
use mathlib.Core.Bool.{false}
use mathlib.Core.List.{List, [], ◌∷◌, ◌++◌, map, append_assoc, append-nil}
use mathlib.Core.Path.{◌≡◌, refl, sym, ap, ◌∙◌}
use Prim.Native.Nat.{ℕ, zero, suc, ◌+◌, ◌*◌}
use native.Mathlib.Numerals.{add-one}
use native.Mathlib.Omega.{arith}
use lib.Dec.{lit<}
use lib.ListN.{get_or, length, drop, set, replicate, length-replicate, replicate-append-replicate}
use lib.Seq.{drop-drop, take_at, drop_at}
use Rattle.bits.specs.Over.{over}
use Rattle.receiver.specs.Receive.{idle, stage_number}
use Rattle.receiver.specs.Store.{bytes_of}
use Rattle.layout.proofs.Freshes.{fresh-good, length-times}
use Rattle.layout.proofs.Goods.{length-save}
use Rattle.layout.proofs.Made.{Made, made_put, made-set, made-save}
use Rattle.layout.specs.Block.{flat, is_held, held_bytes, save}
use Rattle.layout.specs.Fresh.{word_bytes, times, fresh, new, post_boot}
use Rattle.parts.specs.Parts.{block_bytes, p15_at, both_at, preset_on_at, preset_at, preset_bytes, system_at, system_bytes, sizes, sum}
use Rattle.transfer.specs.Pending.{countdown_of, kind_of}

abbrev zero-parts : List ℕ → List (List ℕ)
zero-parts ns = map (λ (n : ℕ). replicate n 0) ns

flat-zeros : (ns : List ℕ) → replicate (sum ns) 0 ≡ flat (zero-parts ns)
flat-zeros [] = refl
flat-zeros (n ∷ ns) = sym (replicate-append-replicate n (sum ns) 0) ∙ ap (λ (l : List ℕ). replicate n 0 ++ l) (flat-zeros ns)

sized-zeros : (ns : List ℕ) → map length (zero-parts ns) ≡ ns
sized-zeros [] = refl
sized-zeros (n ∷ ns) = λ t. length-replicate {A = ℕ} n 0 t ∷ sized-zeros ns t

-- ---- the system palettes

-- a list of four is its elements
pub four_words : (l : List ℕ) → length l ≡ 4 → l ≡ get_or l 0 0 ∷ get_or l 1 0 ∷ get_or l 2 0 ∷ get_or l 3 0 ∷ []
four_words [] h = absurd (omega arith)
four_words (a ∷ []) h = absurd (omega arith)
four_words (a ∷ b ∷ []) h = absurd (omega arith)
four_words (a ∷ b ∷ c ∷ []) h = absurd (omega arith)
four_words (a ∷ b ∷ c ∷ d ∷ []) h = refl
four_words (a ∷ b ∷ c ∷ d ∷ e ∷ l) h = absurd (omega arith)

times_more : (n : ℕ) (p : List ℕ) → times n p ++ p ≡ times (suc n) p
unfolding times
times_more zero p = sym (append-nil p)
times_more (suc n) p = append_assoc p (times n p) p ∙ ap (λ (l : List ℕ). p ++ l) (times_more n p)

-- none, and a turn: one palette more
pub fill_none : (p d : List ℕ) → d ≡ times 0 p ++ drop (8 * 0) d
unfolding times
fill_none p d = refl

pub fill_turn : (n : ℕ) (p d : List ℕ) → length p ≡ 8 → over (8 * n) 8 p (times n p ++ drop (8 * n) d) ≡ times (n + 1) p ++ drop (8 * (n + 1)) d
fill_turn n p d h =
    let eights : n * length p ≡ n * 8 = ap (λ (k : ℕ). n * k) h in
    let l : length (times n p) ≡ 8 * n = omega (arith, length-times n p) in
    let e : 8 * n + 8 ≡ 8 * (n + 1) = omega arith in
    (λ t. take_at (times n p) (drop (8 * n) d) (8 * n) l t ++ (p ++ drop 8 (drop_at (times n p) (drop (8 * n) d) (8 * n) l t)))
    ∙ sym (append_assoc (times n p) p (drop 8 (drop (8 * n) d)))
    ∙ (λ t. times_more n p t ++ drop-drop 8 (8 * n) d t)
    ∙ (λ t. times (sym (add-one n) t) p ++ drop (e t) d)

-- ---- the blocks

pub new_made : set (over system_at system_bytes (times 512 (word_bytes (0x7FFF ∷ 0x56B5 ∷ 0x294A ∷ 0x0000 ∷ [])))
    (over preset_at preset_bytes (word_bytes (0x67BF ∷ 0x265B ∷ 0x10B5 ∷ 0x2866 ∷ [])) (replicate block_bytes 0))) preset_on_at 1 ≡ new
unfolding new fresh idle word_bytes bytes_of stage_number is_held held_bytes countdown_of kind_of
new_made =
    let m0 : Made (replicate block_bytes 0) (zero-parts sizes) = record { eq = flat-zeros sizes; fit = sized-zeros sizes } in
    let m1 = made_put m0 3 (lit< tt) (word_bytes (0x67BF ∷ 0x265B ∷ 0x10B5 ∷ 0x2866 ∷ [])) refl in
    let m2 = made_put m1 6 (lit< tt) (times 512 (word_bytes (0x7FFF ∷ 0x56B5 ∷ 0x294A ∷ 0x0000 ∷ []))) (length-times 512 _) in
    made-save (fresh false) (made-set m2 preset_on_at 1 (lit< tt))

pub post_boot_made : set (set new p15_at 1) both_at 1 ≡ post_boot
unfolding new post_boot fresh save
post_boot_made = refl

pub new-long : length new ≡ block_bytes
unfolding new
new-long = length-save (fresh false) (fresh-good false)
