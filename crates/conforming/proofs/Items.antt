-- The rules carry out as many items as are announced, or as many as end inside the command. Of a command that conforms these are all, and of one
-- whose packets don't hold what it announces they are fewer.
use Prim.Native.Nat.{ℕ, ◌*◌, ◌<◌, min}
use native.Mathlib.Omega.{arith}
use mathlib.Core.Path.{◌≡◌, refl, sym, ap, ◌∙◌}
use mathlib.Core.Bool.{true, false, ◌&&◌}
use mathlib.Core.List.{List, [], ◌∷◌}
use lib.Dec.{eqb, ltb, leb}
use lib.ListN.{length, get_or}
use borrow.Author.Tests.{eq-eqb, eqb-true, lt-ltb, ltb-true, le-leb, leb-true}
use Rattle.bits.proofs.Tests.{and_both, same_test, same-ltb, same-leb}
use Rattle.bits.specs.Word.{word, word_at, low_byte, high_byte}
use Rattle.receiver.specs.Count.{code_of}
use Rattle.pulses.specs.Bytes.{packets_in, malformed}
use Rattle.pulses.specs.Fewest.{announcing, bare}
use Rattle.pulses.specs.Verdict.{attr_blk, attr_lin, attr_chr, announces, announced, most_items, bytes_for, one_to, brings, most_packets, conforms}
use Rattle.pulses.proofs.Commands.{formed}
use Rattle.pulses.proofs.Held.{each_of-three, conforms_items}
use Rattle.attribute_blocks.specs.Blk.{blk_map}
use Rattle.attributes.specs.Lin.{lin_map}
use Rattle.attribute_cells.specs.Chr.{chr_map}
use Rattle.commands.specs.Command.{find, decode}
use Rattle.commands.specs.Maps as maps
use Rattle.layout.specs.Sgb.{Sgb}
use Rattle.rules.specs.Carry.{plainly, carried_game, carried_snes, carried}
use Rattle.conforming.specs.Items.{item, item_end, items_inside, items_carried, items_done, after_items}

-- what the rules do with a command of one of the three codes
pub carried_items : (code : ℕ) → announces code ≡ true → (c : List ℕ) → code_of (get_or c 0 0) ≡ code → (u : Sgb)
    → carried (decode c) u ≡ after_items code c (items_carried code c) u
unfolding carried carried_game carried_snes plainly decode find maps.attr_blk maps.attr_lin maps.attr_chr blk_map lin_map chr_map announced item items_inside items_carried items_done after_items
carried_items =
    each_of-three (λ (k : ℕ). (c : List ℕ) → code_of (get_or c 0 0) ≡ k → (u : Sgb) → carried (decode c) u ≡ after_items k c (items_carried k c) u)
    (λ c e u. rw e) (λ c e u. rw e) (λ c e u. rw e)

-- ---- how many end inside

-- so many items are held by the packets exactly if so many end inside the command
inside_exactly : (code : ℕ) → announces code ≡ true → (c : List ℕ) (n p : ℕ) → length c ≡ 16 * p → 0 < p
    → leb (bytes_for code n) (16 * p) ≡ leb n (items_inside code c)
unfolding bytes_for items_inside
inside_exactly code h c n p l z =
    each_of-three (λ (k : ℕ). leb (bytes_for k n) (16 * p) ≡ leb n (items_inside k c))
    (same-leb (bytes_for attr_blk n) (16 * p) n (items_inside attr_blk c) (λ j. omega arith) (λ j. omega arith))
    (same-leb (bytes_for attr_lin n) (16 * p) n (items_inside attr_lin c) (λ j. omega arith) (λ j. omega arith))
    (same-leb (bytes_for attr_chr n) (16 * p) n (items_inside attr_chr c) (λ j. omega arith) (λ j. omega arith))
    code h

pub inside-ends : (code : ℕ) → announces code ≡ true → (c : List ℕ) (i : ℕ) → ltb i (items_inside code c) ≡ ltb (item_end code i) (length c)
unfolding item_end items_inside
inside-ends code h c i =
    each_of-three (λ (k : ℕ). ltb i (items_inside k c) ≡ ltb (item_end k i) (length c))
    (same-ltb i (items_inside attr_blk c) (item_end attr_blk i) (length c) (λ j. omega arith) (λ j. omega arith))
    (same-ltb i (items_inside attr_lin c) (item_end attr_lin i) (length c) (λ j. omega arith) (λ j. omega arith))
    (same-ltb i (items_inside attr_chr c) (item_end attr_chr i) (length c) (λ j. omega arith) (λ j. omega arith))
    code h

-- ---- a command that conforms

module _ (c : List ℕ) (code : ℕ) (t : malformed c ≡ false) (h : announces code ≡ true) (e : code_of (get_or c 0 0) ≡ code) where
  -- the verdict by what the rules do: the numbers of packets and of items are allowed, and as many items are carried out as are announced
  pub conforms-as-carried :
      conforms c
      ≡ (leb (packets_in c) (most_packets code) && (one_to (most_items code) (announced code c) && eqb (items_carried code c) (announced code c)))
  unfolding brings items_carried
  conforms-as-carried =
      let f = formed c t in
      let m : ℕ = announced code c in
      let q : leb m (items_inside code c) ≡ eqb (min m (items_inside code c)) m =
      same_test _ _ (λ k. let y = leb-true m (items_inside code c) k in eq-eqb _ m (omega arith)) (λ k. let y = eqb-true _ m k in le-leb m (items_inside code c) (omega arith))
      in
      conforms_items c code h e ∙ rw (inside_exactly code h c m (packets_in c) f.whole f.some, q)

  pub all-counted : conforms c ≡ true → items_carried code c ≡ announced code c
  all-counted k =
      let r = and_both (leb (packets_in c) (most_packets code)) _ (sym conforms-as-carried ∙ k) in
      eqb-true (items_carried code c) (announced code c) (and_both (one_to (most_items code) (announced code c)) _ r.1).1

  -- no byte of an item that it announces is wanting
  pub items-inside : conforms c ≡ true → (i : ℕ) → i < announced code c → item_end code i < length c
  unfolding items_carried
  items-inside k i j =
      let l : i < items_inside code c = omega (arith, all-counted k) in
      ltb-true (item_end code i) (length c) (sym (inside-ends code h c i) ∙ lt-ltb i (items_inside code c) l)

  -- and all of them are carried out, in order
  pub all-carried : conforms c ≡ true → (u : Sgb) → carried (decode c) u ≡ after_items code c (announced code c) u
  all-carried k u = carried_items code h c e u ∙ ap (λ (j : ℕ). after_items code c j u) (all-counted k)

-- ---- worked: eighteen sets in one packet and in seven, fifteen lines and forty-one cells in one

-- n announced in p packets, all other bytes zero
abbrev counted : ℕ → ℕ → ℕ → ℕ
counted code p n = items_carried code (bare code p n)

pub carried-worked : (counted attr_blk 1 18 ∷ counted attr_blk 7 18 ∷ counted attr_lin 1 15 ∷ counted attr_chr 1 41 ∷ []) ≡ (2 ∷ 18 ∷ 14 ∷ 40 ∷ [])
unfolding items_carried items_inside announced bare announcing word_at word low_byte high_byte
carried-worked = refl
