-- The line of RULES 8.5, the edges of the form (RULES 8.1 and 8.2), and steps of `split`, each computed.
use mathlib.Core.Path.{◌≡◌, refl}
use mathlib.Core.List.{List, [], ◌∷◌, ◌++◌}
use Prim.Native.Nat.{ℕ, ◌-◌}
use lib.ListN.{take, drop}
use Rattle.log_line.specs.Find.{index_of, index_after}
use Rattle.hex_digits.specs.Hex.{nibble, before, paired, bytes_of}
use Rattle.log_line.specs.Line.{line_digits, writes, refused, by_kind, by_bytes, meaning_of}
use Rattle.log_line.specs.Lines.{last_line, lines_from, lines_of}
use Rattle.log_line.specs.Split.{nothing, too_long, up_to_lf, lf_at, took_held, took_line, taken}
use Rattle.log_line.specs.declared.lines.Held.{Held}
use Rattle.log_line.specs.declared.lines.Held.TheVariants as H

-- `01003020`: the writes 00 30 20
three-writes : meaning_of (48 ∷ 49 ∷ 48 ∷ 48 ∷ 51 ∷ 48 ∷ 50 ∷ 48 ∷ []) ≡ writes (0x00 ∷ 0x30 ∷ 0x20 ∷ [])
unfolding meaning_of by_bytes by_kind bytes_of paired before nibble
three-writes = refl

-- `01aF`: either case
either_case : meaning_of (48 ∷ 49 ∷ 97 ∷ 70 ∷ []) ≡ writes (0xAF ∷ [])
unfolding meaning_of by_bytes by_kind bytes_of paired before nibble
either_case = refl

-- `01`: no writes, and taken
no_writes : meaning_of (48 ∷ 49 ∷ []) ≡ writes []
unfolding meaning_of by_bytes by_kind bytes_of paired before nibble
no_writes = refl

-- an empty line, `010` and `01` with CR are refused
empty-refused : meaning_of [] ≡ refused
unfolding meaning_of by_bytes by_kind bytes_of
empty-refused = refl

odd_refused : meaning_of (48 ∷ 49 ∷ 48 ∷ []) ≡ refused
unfolding meaning_of by_bytes by_kind bytes_of paired before nibble
odd_refused = refl

cr-refused : meaning_of (48 ∷ 49 ∷ 48 ∷ 13 ∷ []) ≡ refused
unfolding meaning_of by_bytes by_kind bytes_of paired before nibble
cr-refused = refl

-- an empty input has no line, an LF alone is one empty line, and the last line may lack its LF
no_line : lines_of [] ≡ []
unfolding lines_of lines_from last_line
no_line = refl

one_line : lines_of (10 ∷ []) ≡ [] ∷ []
unfolding lines_of lines_from last_line
one_line = refl

last_lacks-lf : lines_of (48 ∷ 10 ∷ 49 ∷ []) ≡ (48 ∷ []) ∷ ((49 ∷ []) ∷ [])
unfolding lines_of lines_from last_line
last_lacks-lf = refl

-- ---- a step of `split` over the chunk `0`, LF, `12`, whatever the line's buffer holds

abbrev chunk : List ℕ
chunk = 48 ∷ 10 ∷ 49 ∷ 50 ∷ []

-- so many bytes are held
abbrev keeping : ℕ → Held
keeping n = H.Bytes n

-- from its start: the `0`, and not the LF, at which it stops
up-to-lf : (line : List ℕ) → (taken nothing chunk 0 ≡ record { held = keeping 1; at = 1 }) × (took_line nothing (up_to_lf (drop 0 chunk)) line ≡ 48 ∷ drop 1 line)
unfolding taken took_held took_line up_to_lf lf_at index_of index_after
up-to-lf line = (refl, refl)

-- from the LF: nothing, and what is held stays
nothing-before-lf : (line : List ℕ) → (taken (keeping 3) chunk 1 ≡ record { held = keeping 3; at = 1 })
    × (took_line (keeping 3) (up_to_lf (drop 1 chunk)) line ≡ take 3 line ++ drop 3 line)
unfolding taken took_held took_line up_to_lf lf_at index_of index_after
nothing-before-lf line = (refl, refl)

-- from behind it: no LF, so the chunk's end, behind the three bytes that are held
to_the_end : (line : List ℕ) → (taken (keeping 3) chunk 2 ≡ record { held = keeping 5; at = 4 })
    × (took_line (keeping 3) (up_to_lf (drop 2 chunk)) line ≡ take 3 line ++ (49 ∷ 50 ∷ drop 2 (drop 3 line)))
unfolding taken took_held took_line up_to_lf lf_at index_of index_after
to_the_end line = (refl, refl)

-- a line as long as any that means something is held; one more byte marks it, and changes no byte of the buffer; and marked it stays
grows_too-long : (line : List ℕ) → (taken (keeping (line_digits - 2)) chunk 2 ≡ record { held = keeping line_digits; at = 4 })
    × (taken (keeping (line_digits - 1)) chunk 2 ≡ record { held = too_long; at = 4 })
    × (took_line (keeping (line_digits - 1)) (up_to_lf (drop 2 chunk)) line ≡ line)
    × (taken too_long chunk 0 ≡ record { held = too_long; at = 1 })
unfolding taken took_held took_line up_to_lf lf_at index_of index_after
grows_too-long line = (refl, refl, refl, refl)
