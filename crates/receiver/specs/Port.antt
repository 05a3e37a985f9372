-- A write, whole, up to the command that it completes: the two lines, the receiver and its packet store.
-- RULES 3.2: the new lines are noted, a write is released if both were high before it, and then the receiver has its turn. The index is
-- `Lines`' `indexed`, by the port's old P15.
use Rattle.std.specs.Prelude.{ℕ, Bool, List, [], ◌∷◌}
use Rattle.std.proofs.Math.Option.{Option, none, some}
use Rattle.receiver.specs.Lines.{p15_high, both_high, pulse_of}
use Rattle.receiver.specs.Receive.{Rx, Step, after_pulse}
use Rattle.receiver.specs.Store.{filed, answer_of, emptied}

pub record Port : Type 0 where
  pub p15 : Bool
  pub both : Bool
  pub rx : Rx
  pub store : List ℕ

-- what a write of v does to the receiver: the old "both high" is `released`
abbrev pub step_at : Port → ℕ → Step
step_at u v = after_pulse u.rx (pulse_of v) u.both

-- the store with what the write completed
abbrev pub filed_at : Port → ℕ → List ℕ
filed_at u v = filed (step_at u v).done u.rx.packet u.store

-- the command that a write completes
unfoldable pub answered : Port → ℕ → Option (List ℕ)
answered u v = answer_of (step_at u v).done (filed_at u v)

-- the port after a write
unfoldable pub wrote : Port → ℕ → Port
wrote u v =
    record {
      p15 = p15_high v;
      both = both_high v;
      rx = (step_at u v).next;
      store = emptied (step_at u v).done (filed_at u v);
    }

-- ---- writes in a row

-- the port after them, and the commands that they completed
pub record Heard : Type 0 where
  pub port : Port
  pub commands : List (List ℕ)

-- a write's answer, and then what is heard after it
unfoldable pub told : Option (List ℕ) → Heard → Heard
told none h = h
told (some c) h = record { port = h.port; commands = c ∷ h.commands }

unfoldable pub heard : Port → List ℕ → Heard
heard u [] = record { port = u; commands = [] }
heard u (v ∷ vs) = told (answered u v) (heard (wrote u v) vs)
