-- Decisions: of sums, implications, membership, of all or some members of a set, and of the shape of a formula. Assumes nothing.
use Rattle.std.proofs.Common.{◌≡◌, ◌⊎◌, List, [], ◌∷◌, sym, refl, ap, ◌∙◌, subst, inl, inr, ⊎_elim}
use mathlib.Core.Logic.Dec
use native.Mathlib.Decide.{ℕ_discrete}
use Rattle.pltl.specs.Formulas.{Formula, same-formula}
use Rattle.pltl.specs.Formulas as f
use Rattle.calculus.specs.Sequents.{◌∈◌}
use Rattle.calculus.specs.Rules.{Set, Fits}

unfoldable pub iff_decided : {A B : Type 0} → (A → B) → (B → A) → Dec A → Dec B
iff_decided to from (yes a) = yes (to a)
iff_decided to from (no n) = no (λ b. n (from b))

unfoldable pub or_decided : {A B : Type 0} → Dec A → Dec B → Dec (A ⊎ B)
or_decided (yes a) d = yes (inl a)
or_decided (no n) (yes b) = yes (inr b)
or_decided (no n) (no m) = no (⊎_elim n m)

unfoldable pub implies_decided : {A B : Type 0} → Dec A → Dec B → Dec (A → B)
implies_decided (yes a) (yes b) = yes (λ _. b)
implies_decided (yes a) (no m) = no (λ h. m (h a))
implies_decided (no n) d = yes (λ a. absurd (n a))

unfoldable pub equal_decided : (g h : Formula) → Dec (g ≡ h)
unfolding ℕ_discrete
equal_decided g h = same-formula ℕ_discrete g h

unfoldable pub member_decided : (g : Formula) (Γ : List Formula) → Dec (g ∈ Γ)
unfolding equal_decided or_decided
member_decided g [] = no (λ i. i)
member_decided g (h ∷ Γ) = or_decided (equal_decided g h) (member_decided g Γ)

module _ (P : Set) (dec : (g : Formula) → Dec (P g)) where
  unfoldable pub all_decided : (Γ : List Formula) → Dec (Fits Γ P)
  unfolding iff_decided Dec.and
  all_decided [] = yes (λ g i. absurd i)
  all_decided (h ∷ Γ) =
      iff_decided
      (λ p g. ⊎_elim (λ e. subst P (sym e) p.0) (p.1 g))
      (λ all. (all h (inl refl), λ g i. all g (inr i)))
      (Dec.and (dec h) (all_decided Γ))

  unfoldable pub some_decided : (Γ : List Formula) → Dec ((g : Formula) × (g ∈ Γ) × P g)
  unfolding iff_decided or_decided
  some_decided [] = no (λ s. s.1)
  some_decided (h ∷ Γ) =
      iff_decided
      (⊎_elim (λ p. (h, inl refl, p)) (λ s. (s.0, inr s.1, s.2)))
      (λ s. ⊎_elim (λ e. inl (subst P e s.2)) (λ i. inr (s.0, i, s.2)) s.1)
      (or_decided (dec h) (some_decided Γ))

-- The two parts of a formula; one part stands for both, and a formula without parts for itself.
abbrev pub parts : Formula → Formula × Formula
parts f.True = (f.True, f.True)
parts f.False = (f.False, f.False)
parts (f.Is p) = (f.Is p, f.Is p)
parts (f.Isn't p) = (f.Isn't p, f.Isn't p)
parts (f.Next a) = (a, a)
parts (f.Always a) = (a, a)
parts (f.Eventually a) = (a, a)
parts (f.Until a b) = (a, b)
parts (f.Release a b) = (a, b)
parts (f.And a b) = (a, b)
parts (f.Or a b) = (a, b)

-- A formula made by C, whose argument can be read off the result again.
module _ {A : Type 0} (C : A → Formula) (back : Formula → A) (reads : (a : A) → back (C a) ≡ a) where
  unfoldable pub made_decided : (P : A → Type 0) → ((a : A) → Dec (P a)) → (m : Formula) → Dec ((a : A) × (m ≡ C a) × P a)
  unfolding iff_decided equal_decided Dec.and
  made_decided P dec m =
      iff_decided
      (λ p. (back m, p.0, p.1))
      (λ s. let same : s.0 ≡ back m = sym (ap back s.1 ∙ reads s.0) in (s.1 ∙ ap C same, subst P same s.2))
      (Dec.and (equal_decided m (C (back m))) (dec (back m)))
