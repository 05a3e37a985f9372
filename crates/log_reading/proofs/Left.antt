-- Whether there is more to do, by the tests that the code makes.
use mathlib.Core.Path.{◌≡◌, refl, sym, ◌∙◌}
use mathlib.Core.Bool.{Bool, true, false}
use Prim.Native.Nat.{ℕ, ◌≤◌, ◌<◌}
use native.Mathlib.Omega.{arith}
use borrow.Author.Tests.{ltb-true, ltb-false, lt-ltb, le-ltb}
use lib.Dec.{ltb}
use Rattle.log_reading.specs.Point.{left}
use Rattle.log_reading.specs.declared.Reading.{Reading}

-- at the chunk's end only the present line's writes are left
pub is-pending : (r : Reading) (size at : ℕ) → size ≤ at → ltb r.from r.upto ≡ ltb 0 (left r size at)
is-pending r size at h = go (ltb r.from r.upto) refl
  where
    go : (t : Bool) → ltb r.from r.upto ≡ t → ltb r.from r.upto ≡ ltb 0 (left r size at)
    go true e = let m : r.from < r.upto = ltb-true r.from r.upto e in e ∙ sym (lt-ltb 0 (left r size at) (unfold left in omega arith))
    go false e = let m : r.upto ≤ r.from = ltb-false r.from r.upto e in e ∙ sym (le-ltb 0 (left r size at) (unfold left in omega arith))

pub is-chunk : (r : Reading) (size at : ℕ) → at < size → ltb at size ≡ ltb 0 (left r size at)
is-chunk r size at h = lt-ltb at size h ∙ sym (lt-ltb 0 (left r size at) (unfold left in omega arith))
