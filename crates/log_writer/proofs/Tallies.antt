-- Laws of the tally: texts one after the other are tallied as one text.
use Rattle.std.proofs.Common.{◌≡◌, ℕ, ◌+◌, ◌-◌, ◌%◌, ◌^◌, ◌<◌, ◌≤◌, Bool, true, false, List, [], ◌∷◌, ◌++◌, length, get_or, take, drop, sym, refl, ap, ◌∙◌, subst, append-nil, add-one, arith, length-append, length-drop, drop_of_length-le, length-take, take_all, drop-cons, take-take, take-add}
use lib.Seq.{take-append-le, take-append-add}
use Rattle.log_writer.specs.Tally.{tallied, Sent}

pub tallied-append : (t : ℕ) (a b : List ℕ) → tallied t (a ++ b) ≡ tallied (tallied t a) b
unfolding tallied
tallied-append t [] b = refl
tallied-append t (x ∷ a) b = tallied-append ((t + (4294967296 + x)) % 2 ^ 64) a b

-- a byte more
pub tallied_turn : (t : ℕ) (text : List ℕ) (i : ℕ) → i < length text → tallied ((t + (4294967296 + get_or text i 0)) % 2 ^ 64) (drop (i + 1) text) ≡ tallied t (drop i text)
unfolding tallied
tallied_turn t text i h = rw (add-one, drop-cons text i 0 h)

-- nothing is left
pub tallied_end : (t : ℕ) (text : List ℕ) (i u : ℕ) → length text ≤ i → tallied t (drop i text) ≡ u → t ≡ u
unfolding tallied
tallied_end t text i u h e = sym (ap (tallied t) (drop_of_length-le text h)) ∙ e

-- ---- a text that goes out in parts: each is taken from what is left

module _ (t t₁ : ℕ) (text : List ℕ) (done : ℕ) (so_far : t₁ ≡ tallied t (take done text)) where
  abbrev rest : List ℕ
  rest = take (length text - done) (drop done text)

  pub rest-most : (n : ℕ) → n ≤ length rest → n ≤ length text - done
  rest-most n h = omega (arith, h, length-take (length text - done) (drop done text), length-drop done text)

  pub tallied-more : (t₂ n : ℕ) → n ≤ length rest → t₂ ≡ tallied t₁ (take n rest) → t₂ ≡ tallied t (take (done + n) text)
  tallied-more t₂ n h e =
      e ∙ ap (tallied t₁) (take-take n (length text - done) (drop done text) (rest-most n h)) ∙ ap (λ (x : ℕ). tallied x (take n (drop done text))) so_far
      ∙ sym (tallied-append t (take done text) (take n (drop done text)))
      ∙ ap (tallied t) (sym (take-add done n text))

  pub sent_all : length text ≤ done → Sent true t text t₁
  unfolding Sent
  sent_all h = so_far ∙ ap (tallied t) (take_all done text h)

  -- where a write fails, which takes nothing
  pub sent-none : (t₂ : ℕ) → done < length text → t₂ ≡ t₁ → Sent false t text t₂
  unfolding Sent
  sent-none t₂ more e = (done, (more, e ∙ so_far))

  -- and where it takes nothing
  pub sent-some : (t₂ n : ℕ) → n ≡ 0 → n ≤ length rest → done < length text → t₂ ≡ tallied t₁ (take n rest) → Sent false t text t₂
  unfolding Sent
  sent-some t₂ n z h more e = (done + n, (omega (arith, z), tallied-more t₂ n h e))

-- ---- a text behind what went out

module _ (t u : ℕ) (done : List ℕ) (so_far : u ≡ tallied t done) where
  pub sent-more : (text : List ℕ) (v : ℕ) → Sent true u text v → v ≡ tallied t (done ++ text)
  unfolding Sent
  sent-more text v e = e ∙ ap (λ (x : ℕ). tallied x text) so_far ∙ sym (tallied-append t done text)

  -- a part of it went out, and nothing of what would come behind
  pub sent-cut : (text rest : List ℕ) (v : ℕ) → Sent false u text v → Sent false t (done ++ (text ++ rest)) v
  unfolding Sent
  sent-cut text rest v k =
      let n : ℕ = k.0 in
      let short : n ≤ length text = omega (arith, k.1.0) in (
        length done + n,
        (
          simp (length-append) (omega (arith, k.1.0)),
          k.1.1 ∙ ap (λ (x : ℕ). tallied x (take n text)) so_far ∙ sym (tallied-append t done (take n text))
              ∙ ap (λ (l : List ℕ). tallied t (done ++ l)) (sym (take-append-le n text rest short))
              ∙ ap (tallied t) (sym (take-append-add done (text ++ rest) n)),
        ),
      )

  pub sent-last : (text : List ℕ) (v : ℕ) (whole : Bool) → Sent whole u text v → Sent whole t (done ++ text) v
  sent-last text v true k = unfold Sent in sent-more text v k
  sent-last text v false k = subst (λ (l : List ℕ). Sent false t (done ++ l) v) (append-nil text) (sent-cut text [] v k)
