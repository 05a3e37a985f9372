-- A file below 45 is put over the whole map; another leaves it.
use Rattle.std.proofs.Common.{◌≡◌, ◌+◌, ◌-◌, ◌*◌, ◌%◌, ◌<◌, ◌≤◌, length, ◌∙◌, arith, rules, le-ltb, lt-ltb}
use lib.Bits.{and_mask}
use Rattle.parts.specs.Parts.{map_bytes}
use Rattle.bits.specs.Over.{part}
use Rattle.bits.proofs.Overs.{length_part}
use Rattle.commands.specs.Files.{file_count, file_of, attr_set_map}
use Rattle.bits.proofs.Overs.{over_all}
use Rattle.commands.proofs.files.attr_set_map.Goals as goal

pub returns-then-n-lt45 : goal.returns-then-n-lt45
unfolding attr_set_map file_of
returns-then-n-lt45 c =
    let put = c in
    let n = put.from-n.result in
    let s = put.args in
    let k : map_bytes * n + map_bytes - map_bytes * n ≡ map_bytes = omega arith in
    let l : length (part (map_bytes * n) map_bytes s.files.now) ≡ map_bytes = length_part (map_bytes * n) map_bytes s.files.now (omega arith) in
    let e : n ≡ s.flags % 64 = put.from-n.ensures ∙ and_mask s.flags 6 in
    let lt : s.flags % 64 < file_count = omega arith in
    put.put.ensures ∙ rw (k, l) (over_all map_bytes (part (map_bytes * n) map_bytes s.files.now) s.map.now (search rules) ∙ rw (e, lt-ltb _ _ lt))

pub returns-else-n-lt45 : goal.returns-else-n-lt45
unfolding attr_set_map file_of
returns-else-n-lt45 c =
    let s = c.args in
    let e : c.from-n.result ≡ s.flags % 64 = c.from-n.ensures ∙ and_mask s.flags 6 in
    let le : file_count ≤ s.flags % 64 = omega arith in
    rw (le-ltb _ _ le)
