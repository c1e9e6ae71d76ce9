-- A sequent rule whose premises have no run has a conclusion without a run. Assumes nothing.
use Rattle.std.proofs.Common.{◌≡◌, ℕ, ◌<◌, ◌≤◌, List, sym, subst, ⊎_elim, arith}
use Rattle.std.proofs.lemmas.Bool.{cases_lt}
use Rattle.pltl.specs.Formulas.{Formula, opposite}
use Rattle.pltl.specs.Formulas as f
use Rattle.pltl.specs.Truth.{Holds}
use Rattle.pltl.specs.Runs.{Run, endless}
use Rattle.pltl.proofs.Decisions.{opposite_is_not}
use Rattle.pltl.proofs.Unfoldings.{always_unfolds, eventually_unfolds, until_unfolds, release_unfolds}
use Rattle.calculus.specs.Sequents.{◌∈◌, SatisfiesAll, NoRun}
use Rattle.calculus.specs.Rules.{Set, Without, With, With2, Fits, Covers, SomeAgain, UntilAgain}
use Rattle.calculus.specs.Rules as rule
use Rattle.calculus.specs.Laws.{RulesLaw}
use Rattle.calculus.proofs.Contexts.{true_nowhere, last_with_context}

-- the set is true at position k
abbrev All : Run → ℕ → Set → Type 0
All r k D = (g : Formula) → D g → Holds (endless r) g k

module _ (r : Run) (k : ℕ) where
  moved : {a b : Formula} → a ≡ b → Holds (endless r) a k → Holds (endless r) b k
  moved e h = subst (λ g. Holds (endless r) g k) e h

  with_holds : (D : Set) (a : Formula) → All r k D → Holds (endless r) a k → All r k (With D a)
  with_holds D a all h g = ⊎_elim (all g) (λ e. moved (sym e) h)

  with2_holds : (D : Set) (a b : Formula) → All r k D → Holds (endless r) a k → Holds (endless r) b k → All r k (With2 D a b)
  with2_holds D a b all h l g = ⊎_elim (all g) (⊎_elim (λ e. moved (sym e) h) (λ e. moved (sym e) l))

  unmet : (Δ : List Formula) (D : Set) → NoRun Δ → Fits Δ D → All r k D → ⊥
  unmet Δ D empty fits all = true_nowhere Δ empty r k (λ g i. all g (fits g i))

module _ (Γ Δ Ε : List Formula) (m : Formula) (empty : NoRun Δ) (empty-too : NoRun Ε) (r : Run) (all : SatisfiesAll r Γ) where
  -- b is true at j; at the last position with the context up to j, either b is true or all of Again is
  context_law : (b : Formula) (Again : Set) (j : ℕ) → Holds (endless r) b j → Fits Δ (With (Without Γ m) b) → Fits Ε Again →
      ((k : ℕ) → k < j → All r k (Without Γ m) →
      ((n : Formula) → Covers n (Without Γ m) → (i : ℕ) → k < i → i ≤ j → Holds (endless r) n i) → All r k Again) → ⊥
  context_law b Again j h fits fits-too again =
      let l = last_with_context r Γ m all j in
      let k = l.0 in
      let low : k ≤ j = l.1 in
      ⊎_elim
      (λ before. unmet r k Ε Again empty-too fits-too (again k before l.2 l.3))
      (λ after.
      let same : j ≡ k = omega arith in
      unmet r k Δ (With (Without Γ m) b) empty fits
      (with_holds r k (Without Γ m) b l.2 (subst (Holds (endless r) b) same h)))
      (cases_lt k j)

module _ (Γ : List Formula) (m : Formula) (r : Run) (all : SatisfiesAll r Γ) where
  abbrev D : Set
  D = Without Γ m

  rest : All r 0 D
  rest g d = all g d.0

  one : (Δ : List Formula) (a : Formula) → NoRun Δ → Fits Δ (With D a) → Holds (endless r) a 0 → ⊥
  one Δ a empty fits h = unmet r 0 Δ (With D a) empty fits (with_holds r 0 D a rest h)

  two : (Δ : List Formula) (a b : Formula) → NoRun Δ → Fits Δ (With2 D a b) → Holds (endless r) a 0 → Holds (endless r) b 0 → ⊥
  two Δ a b empty fits h l = unmet r 0 Δ (With2 D a b) empty fits (with2_holds r 0 D a b rest h l)

pub rules_law : RulesLaw
rules_law Γ m n Δs (rule.contra i o) empty r all = (opposite_is_not r m 0).0 (all (opposite m) o) (all m i)
rules_law Γ m n Δs (rule.false i e) empty r all = moved r 0 e (all m i)
rules_law Γ m n Δs (rule.and {a = a} {b = b} {Δ = Δ} i e fits) empty r all =
    let h : Holds (endless r) (f.And a b) 0 = moved r 0 e (all m i) in
    two Γ m r all Δ a b empty.0 fits h.0 h.1
rules_law Γ m n Δs (rule.or {a = a} {b = b} {Δ = Δ} {Ε = Ε} i e fits fits-too) empty r all =
    let h : Holds (endless r) (f.Or a b) 0 = moved r 0 e (all m i) in
    ⊎_elim (one Γ m r all Δ a empty.0 fits) (one Γ m r all Ε b empty.1.0 fits-too) h
rules_law Γ m n Δs (rule.always {a = a} {Δ = Δ} i e fits) empty r all =
    let h = (always_unfolds r a 0).0 (moved r 0 e (all m i)) in
    two Γ m r all Δ a (f.Next m) empty.0 fits h.0 (moved r 1 (sym e) h.1)
rules_law Γ m n Δs (rule.some {a = a} {Δ = Δ} {Ε = Ε} i e fits fits-too) empty r all =
    ⊎_elim
    (one Γ m r all Δ a empty.0 fits)
    (λ later. one Γ m r all Ε (f.Next m) empty.1.0 fits-too (moved r 1 (sym e) later))
    ((eventually_unfolds r a 0).0 (moved r 0 e (all m i)))
rules_law Γ m n Δs (rule.until {a = a} {b = b} {Δ = Δ} {Ε = Ε} i e fits fits-too) empty r all =
    ⊎_elim
    (one Γ m r all Δ b empty.0 fits)
    (λ later. two Γ m r all Ε a (f.Next m) empty.1.0 fits-too later.0 (moved r 1 (sym e) later.1))
    ((until_unfolds r a b 0).0 (moved r 0 e (all m i)))
rules_law Γ m n Δs (rule.release {a = a} {b = b} {Δ = Δ} {Ε = Ε} i e fits fits-too) empty r all =
    let h = (release_unfolds r a b 0).0 (moved r 0 e (all m i)) in
    ⊎_elim
    (λ now. two Γ m r all Δ a b empty.0 fits now h.0)
    (λ later. two Γ m r all Ε b (f.Next m) empty.1.0 fits-too h.0 (moved r 1 (sym e) later))
    h.1
rules_law Γ m n Δs (rule.some+ {a = a} {Δ = Δ} {Ε = Ε} i e fits fits-too) empty r all =
    let s : Holds (endless r) (f.Eventually a) 0 = moved r 0 e (all m i) in
    let j = s.0 in
    context_law Γ Δ Ε m empty.0 empty.1.0 r all a (SomeAgain (Without Γ m) a) j s.2 fits fits-too
    (λ k before rest cover g. ⊎_elim (rest g) (λ c.
    let u : Holds (endless r) (f.Next (f.Until c.0 a)) k =
    (j, omega arith, s.2, λ i ki ij. cover c.0 c.2 i (omega arith) (omega arith)) in
    moved r k (sym c.1) u))
rules_law Γ m n Δs (rule.until+ {a = a} {b = b} {Δ = Δ} {Ε = Ε} i e fits fits-too) empty r all =
    let s : Holds (endless r) (f.Until a b) 0 = moved r 0 e (all m i) in
    let j = s.0 in
    context_law Γ Δ Ε m empty.0 empty.1.0 r all b (UntilAgain (Without Γ m) a b) j s.2 fits fits-too
    (λ k before rest cover g. ⊎_elim (rest g) (⊎_elim
    (λ c. moved r k (sym c) (s.3 k (omega arith) before))
    (λ c.
    let u : Holds (endless r) (f.Next (f.Until (f.And a c.0) b)) k =
    (j, omega arith, s.2, λ i ki ij. (s.3 i (omega arith) ij, cover c.0 c.2 i (omega arith) (omega arith))) in
    moved r k (sym c.1) u)))
rules_law Γ m n Δs (rule.next {Δ = Δ} fits) empty r all =
    unmet r 1 Δ (λ g. f.Next g ∈ Γ) empty.0 fits (λ g i. all (f.Next g) i)
