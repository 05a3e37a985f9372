-- Over the calls: what `to_state` answers and leaves, handed to `from_state`, gives the same block. So does a state that was taken, but for what is
-- forgotten (`Again` of the crate `state_spans`); and from the block that comes in all that is said of valid blocks reads on.
use mathlib.Core.Path.{◌≡◌, sym, ap, ◌∙◌}
use mathlib.Core.Bool.{true, Bool, cond}
use mathlib.Core.List.{List}
use Prim.Native.Nat.{ℕ, ◌<◌}
use lib.ListN.{length, get_or}
use Rattle.layout.specs.Valid.{Valid}
use Rattle.parts.specs.Parts.{block_bytes}
use Rattle.pulses.specs.Answer.{Answer, refused, given}
use Rattle.state_spans.specs.State.{State, present_in}
use Rattle.state_spans.specs.Coming.{from_answer, from_block}
use Rattle.state_spans.specs.Going.{Lent, state_of, roomy, laid_all, leaves_lent, read_back, to_answer, to_lent}
use Rattle.state_spans.proofs.Lents.{read_back-laid}
use Rattle.state_spans.proofs.Out.{out-in, taken-valid}
use Rattle.view.proofs.Refusals.{answers}

module _ (b : List ℕ) (v : Valid b) (l : Lent) (room : roomy l ≡ true) where
  pub goes-out : to_answer b l ≡ given (present_in (state_of b))
  unfolding to_answer
  goes-out = sym (answers b (cond (roomy l) (given (present_in (state_of b))) (refused 6)) v) ∙ ap (λ (t : Bool). cond t (given (present_in (state_of b))) (refused 6)) room

  pub leaves_all : to_lent b l ≡ laid_all (state_of b) l
  unfolding to_lent leaves_lent
  leaves_all = ap (λ (a : Answer ℕ). leaves_lent a (laid_all (state_of b) l) l) goes-out

  -- what the caller then holds, as a state
  pub holds : read_back (present_in (state_of b)) (to_lent b l) ≡ state_of b
  holds = ap (read_back (present_in (state_of b))) leaves_all ∙ read_back-laid b v l

  -- of a lent block each element is a byte
  pub calls-out-in : ((i : ℕ) → get_or b i 0 < 256) → (into : List ℕ) → length into ≡ block_bytes
      → (from_answer into (read_back (present_in (state_of b)) (to_lent b l)) ≡ 0) × (from_block into (read_back (present_in (state_of b)) (to_lent b l)) ≡ b)
  calls-out-in bytes into long =
      let back = out-in b v bytes into long in
      (ap (from_answer into) holds ∙ back.0, ap (from_block into) holds ∙ back.1)

-- and the block that comes in is valid
pub comes-valid : (b : List ℕ) (s : State) → from_answer b s ≡ 0 → Valid (from_block b s)
unfolding from_block
comes-valid b s e = rw e (taken-valid b s e)
