-- What is cleared is a run of nothing (`blanked`).
use Prim.Native.Nat.{ℕ, ◌+◌, ◌-◌}
use mathlib.Core.Path.{◌≡◌, ap, ◌∙◌}
use native.Mathlib.Omega.{arith}
use lib.ListN.{length, take, drop, replicate, length-take, length-drop}
use Rattle.bits.specs.Over.{over}
use Rattle.pages.proofs.Passes.{blanked}
use Rattle.pages.proofs.blank.Goals as goal

pub returns : goal.returns
returns c =
    let a = c.args in
    let k : a.at + a.n - a.at ≡ a.n = omega arith in
    let long : length (take (a.at + a.n - a.at) (drop a.at a.screen.now)) ≡ a.n = simp (length-take, length-drop) (omega arith) in
    let e : c.clear.new.s ≡ replicate a.n 0 = c.clear.ensures ∙ ap (λ (n : ℕ). replicate n 0) long in
    record { is = (λ t. over a.at (k t) (e t) a.screen.now) ∙ blanked a.screen.now a.at a.n c.requires }
