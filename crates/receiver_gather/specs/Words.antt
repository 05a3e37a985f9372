-- Serves the loops of `run_fast`; nobody need believe it: what the call promises is `runs` of `receiver_run`, as the plain run does.
-- Many data pulses at once: what the fast run claims of the plain one, and nothing of its own.
-- Pan Docs, Command packet transfers: a data pulse is one line low, and after it both go high.
use Rattle.std.specs.Prelude.{ℕ, ◌+◌, ◌*◌, ◌^◌, ◌<◌, ◌≤◌, ◌≡◌, true, List, length, drop}
use Rattle.receiver.specs.declared.Stage.TheVariants.{Receiving}
use Rattle.receiver.specs.Rises.{rises}
use Rattle.receiver.specs.Port.{Port}
use Rattle.receiver_run.specs.Run.{runs}
use Rattle.receiver_gather.specs.declared.Gathered.{Gathered}

-- a packet is coming in, and both lines are high
abbrev pub receiving_port : ℕ → ℕ → ℕ → ℕ → List ℕ → Port
receiving_port e r b p s =
    record {
      p15 = true;
      both = true;
      rx = record { stage = Receiving; expected = e; received = r; bits = b; packet = p };
      store = s;
    }

-- the writes ws begin with n data pulses, each with its release, of the value v with o ones, and go on as rest:
-- for whatever run meets them
unfoldable pub Feeds : List ℕ → List ℕ → ℕ → ℕ → ℕ → Type 0
Feeds ws rest n v o =
    (mask i x e r b p : ℕ) (s : List ℕ) → b + n ≤ 128
    → runs mask i x (receiving_port e r b p s) ws ≡ runs mask (i + 2 * n) (rises o x mask) (receiving_port e r (b + n) (p + v * 2 ^ b) s) rest

-- the pulses that `gather` took, from a place
pub record Gave (ws : List ℕ) (from : ℕ) (g : Gathered) : Type 0 where
  pub place : g.at ≡ from + 2 * g.count
  pub within : g.at ≤ length ws
  pub few : g.count ≤ 64
  pub small : g.word < 2 ^ g.count
  pub feeds : Feeds (drop from ws) (drop g.at ws) g.count g.word g.ones
