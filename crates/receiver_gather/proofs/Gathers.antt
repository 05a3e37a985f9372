-- The loop of `gather`, what it gave, and how a word goes on.
use mathlib.Core.Path.{◌≡◌, ◌∙◌}
use mathlib.Core.List.{List}
use Prim.Native.Nat.{ℕ, suc, ◌+◌, ◌*◌, ◌%◌, ◌^◌, ◌<◌, ◌≤◌}
use native.Mathlib.Nat.{mul_comm, suc-mul, mul-le-mul_right}
use native.Mathlib.Omega.{arith}
use lib.ListN.{length, drop}
use lib.Pow.{pow-add}
use Rattle.receiver_gather.specs.declared.Gathered.{Gathered}
use Rattle.receiver_gather.specs.Words.{Feeds, Gave}

-- the loop of `gather`
pub record Gathering (ws : List ℕ) (from word n ones i : ℕ) : Type 0 where
  pub place : i ≡ from + 2 * n
  pub room : from + 128 ≤ length ws
  pub few : n ≤ 64
  pub fours : n % 4 ≡ 0
  pub small : word < 2 ^ n
  pub ones_few : ones ≤ n
  pub feeds : Feeds (drop from ws) (drop i ws) n word ones

pub gave : (ws : List ℕ) (from : ℕ) (g : Gathered) → Gathering ws from g.word g.count g.ones g.at → Gave ws from g
gave ws from g G =
    record {
      place = G.place;
      within = omega (arith, G.place, G.room, G.few);
      few = G.few;
      small = G.small;
      feeds = G.feeds;
    }

-- two parts of a number
pub stack : (p w b n : ℕ) → p < 2 ^ b → w < 2 ^ n → p + w * 2 ^ b < 2 ^ (b + n)
stack p w b n h k =
    let e : 2 ^ (b + n) ≡ 2 ^ n * 2 ^ b = pow-add 2 b n ∙ mul_comm (2 ^ b) (2 ^ n) in
    let m : suc w * 2 ^ b ≤ 2 ^ n * 2 ^ b = mul-le-mul_right (2 ^ b) k in
    let d : suc w * 2 ^ b ≡ w * 2 ^ b + 2 ^ b = suc-mul w (2 ^ b) in
    omega arith
