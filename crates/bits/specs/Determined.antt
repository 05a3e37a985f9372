-- When a contract leaves one outcome. RULES 9.2. The law is proofs/Determined.
-- An outcome is the answer, and what the call leaves in every lent byte. What a contract tells of it is the call's own `Learnt k a r e`, read by the
-- compiler off the `ensures` lines: a is the arguments and e the parameters after the call, each in order, r the answer, k the lifetimes.
use Rattle.std.specs.Prelude.{◌≡◌}

-- what is told of one is told of no other
abbrev pub Once : {R A : Type 0} → (R → A) → Type 0
Once {R} told = (r s : R) → told r ≡ told s → r ≡ s

-- of the answers r and exits e that a contract allows for the arguments a, any two are the same outcome
abbrev pub Determined : (O : Type 0) {A R E : Type 0} → (A → R → E → Type 0) → (R → E → O) → Type 0
Determined O {A} {R} {E} allows outcome = (a : A) (r s : R) (e f : E) → allows a r e → allows a s f → outcome r e ≡ outcome s f
