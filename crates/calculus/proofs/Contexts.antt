-- Sets of formulas along a run: true at a position, and the last position where a context is true. Assumes nothing.
use Rattle.std.proofs.Common.{◌≡◌, ℕ, ◌+◌, ◌<◌, ◌≤◌, ◌⊎◌, List, [], ◌∷◌, sym, refl, subst, inl, inr, ⊎_elim, arith}
use native.Mathlib.Decide.{ℕ_discrete}
use Rattle.pltl.specs.Formulas.{Formula, opposite, same-formula}
use Rattle.pltl.specs.Formulas as f
use Rattle.pltl.specs.Truth.{Holds}
use Rattle.pltl.specs.Runs.{Run, endless}
use Rattle.pltl.proofs.Positions.{last_before, Last}
use Rattle.pltl.proofs.Carried.{suffixes}
use Rattle.pltl.proofs.Decisions.{decided, opposite_is_not}
use Rattle.calculus.specs.Sequents.{◌∈◌, SatisfiesAll, NoRun}
use Rattle.calculus.specs.Rules.{Without, Alternative, whole, on_left, on_right, IsAlways, Covers}

-- a set without a run is true at no position of any run
pub true_nowhere : (Δ : List Formula) → NoRun Δ → (r : Run) (k : ℕ) → ((g : Formula) → g ∈ Δ → Holds (endless r) g k) → ⊥
true_nowhere Δ empty r k here =
    let s = suffixes r k in
    let same : k ≡ k + 0 = omega arith in
    empty s.0 (λ g i. (s.1 g 0).0 (subst (Holds (endless r) g) same (here g i)))

module _ (Q : Formula → Type 0) (dec : (g : Formula) → Q g ⊎ (Q g → ⊥)) where
  pub all_or_one_not : (Γ : List Formula) → ((g : Formula) → g ∈ Γ → Q g) ⊎ ((g : Formula) × (g ∈ Γ) × (Q g → ⊥))
  all_or_one_not [] = inl (λ g i. absurd i)
  all_or_one_not (h ∷ Γ) =
      ⊎_elim
      (λ q. ⊎_elim
      (λ all. inl (λ g. ⊎_elim (λ e. subst Q (sym e) q) (all g)))
      (λ one. inr (one.0, inr one.1, one.2))
      (all_or_one_not Γ))
      (λ not-q. inr (h, inl refl, not-q))
      (dec h)

either_decided : {A B : Type 0} → A ⊎ (A → ⊥) → B ⊎ (B → ⊥) → (A ⊎ B) ⊎ (A ⊎ B → ⊥)
either_decided (inl a) d = inl (inl a)
either_decided (inr not_a) (inl b) = inl (inr b)
either_decided (inr not_a) (inr not-b) = inr (⊎_elim not_a not-b)

formulas_decided : (g h : Formula) → (g ≡ h) ⊎ (g ≡ h → ⊥)
formulas_decided g h = elim (same-formula ℕ_discrete g h) [ yes e ↦ inl e | no differ ↦ inr differ ]

module _ (r : Run) where
  pub alternative_holds : (a n : Formula) (i : ℕ) → Alternative a n → Holds (endless r) a i → Holds (endless r) n i
  alternative_holds a n i whole h = h
  alternative_holds a n i (on_left {n = b} s) h = inl (alternative_holds a b i s h)
  alternative_holds a n i (on_right {m = b} s) h = inr (alternative_holds a b i s h)

  always_stays : (g : Formula) (k : ℕ) → IsAlways g → Holds (endless r) g 0 → Holds (endless r) g k
  always_stays g k a h =
      let every : Holds (endless r) (f.Always a.0) 0 = subst (λ g. Holds (endless r) g 0) a.1 h in
      let later : Holds (endless r) (f.Always a.0) k = λ j le. every j (omega arith) in
      subst (λ g. Holds (endless r) g k) (sym a.1) later

  module _ (Γ : List Formula) (m : Formula) (all : SatisfiesAll r Γ) where
    -- the set without m is true at k
    abbrev Context : ℕ → Type 0
    Context k = (g : Formula) → g ∈ Γ → (g ≡ m) ⊎ Holds (endless r) g k

    context_or_one_not : (k : ℕ) → Context k ⊎ ((g : Formula) × (g ∈ Γ) × ((g ≡ m) ⊎ Holds (endless r) g k → ⊥))
    context_or_one_not k =
        all_or_one_not (λ g. (g ≡ m) ⊎ Holds (endless r) g k) (λ g. either_decided (formulas_decided g m) (decided r g k)) Γ

    -- what fails is no always-formula, as those stay true
    cover_holds : (n : Formula) → Covers n (Without Γ m) → (i : ℕ) → (Context i → ⊥) → Holds (endless r) n i
    cover_holds n covers i broken =
        ⊎_elim
        (λ c. absurd (broken c))
        (λ one.
        alternative_holds (opposite one.0) n i
        (covers one.0 (one.1, λ e. one.2 (inl e)) (λ a. one.2 (inr (always_stays one.0 i a (all one.0 one.1)))))
        ((opposite_is_not r one.0 i).1 (λ h. one.2 (inr h))))
        (context_or_one_not i)

    -- up to j there is a last position with the context, and after it all that covers the context is true
    pub last_with_context : (j : ℕ) →
        (k : ℕ) × (k ≤ j) × ((g : Formula) → Without Γ m g → Holds (endless r) g k)
        × ((n : Formula) → Covers n (Without Γ m) → (i : ℕ) → k < i → i ≤ j → Holds (endless r) n i)
    last_with_context j =
        let l : Last Context 0 j = last_before Context decide 0 j (omega arith) (λ g i. inr (all g i)) in (
          l.0,
          l.2,
          λ g d. ⊎_elim (λ e. absurd (d.1 e)) (λ h. h) (l.3 g d.0),
          λ n covers i after upto. cover_holds n covers i (l.4 i after upto),
        )
      where
        decide : (k : ℕ) → Context k ⊎ (Context k → ⊥)
        decide k = ⊎_elim inl (λ one. inr (λ c. one.2 (c one.0 one.1))) (context_or_one_not k)
