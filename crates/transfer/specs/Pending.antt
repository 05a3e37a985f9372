-- The pending transfer: two bytes of the block, the countdown and the kind, and what a screen does to it.
-- RULES 1.4, 4.12 and 5.2.
use Rattle.std.specs.Prelude.{◌≡◌, ℕ, ◌-◌, ◌<◌, true, false, cond, eqb, leb, Some, None, Result, Ok, Err}
use Rattle.std.specs.Prelude as code
use Rattle.std.proofs.Math.Option.{Option, none, some}
use Rattle.transfer.specs.declared.pending.Transfer.{Transfer}
use Rattle.transfer.specs.declared.pending.Transfer.TheVariants.{Palettes, Attributes, BorderTiles, BorderMap}
use Rattle.transfer.specs.declared.pending.UnknownKind.{UnknownKind}
use Rattle.transfer.specs.declared.pending.Pending.{Pending}
use Rattle.transfer.specs.declared.pending.Pending.TheVariants.{Nothing, In}

-- the number of each kind (RULES 4.12); border tiles hold which half they are
unfoldable pub number_of : Transfer → ℕ
number_of Palettes = 0
number_of Attributes = 1
number_of (BorderTiles false) = 2
number_of (BorderTiles true) = 3
number_of BorderMap = 4

-- the kind that a number names, or the number itself, which names none above 4
abbrev pub NamedBy : ℕ → Result Transfer UnknownKind → Type 0
NamedBy n (Ok t) = n ≡ number_of t
NamedBy n (Err e) = (e.0 ≡ n) × (4 < n)

-- byte 10, the countdown, and byte 11, the kind: both 0 where nothing is pending
unfoldable pub countdown_of : Pending → ℕ
countdown_of Nothing = 0
countdown_of (In n t) = n

unfoldable pub kind_of : Pending → ℕ
kind_of Nothing = 0
kind_of (In n t) = number_of t

-- what a countdown and the number of a kind stand for
abbrev pub named : ℕ → ℕ → Pending
named n kind =
    cond (eqb kind 0) (In n Palettes)
    (cond (eqb kind 1) (In n Attributes)
    (cond (eqb kind 2) (In n (BorderTiles false))
    (cond (eqb kind 3) (In n (BorderTiles true))
    (cond (eqb kind 4) (In n BorderMap) Nothing))))

-- what the two bytes stand for
unfoldable pub pending_of : ℕ → ℕ → Pending
pending_of n kind = cond (eqb n 0) Nothing (named n kind)

-- a screen brings it nearer, and the last one ends it (a countdown of 0 is in no valid block; the Rust lands it too)
unfoldable pub fallen : Pending → Pending
fallen Nothing = Nothing
fallen (In n t) = cond (leb n 1) Nothing (In (n - 1) t)

-- the answer: the kind landed, or none
unfoldable pub lands : Pending → code.Option Transfer
lands Nothing = None
lands (In n t) = cond (leb n 1) (Some t) None

-- the same by its number
unfoldable pub landed_of : code.Option Transfer → Option ℕ
landed_of None = none
landed_of (Some t) = some (number_of t)
