-- The opposite of the opposite. Assumes nothing.
use Rattle.std.proofs.Common.{◌≡◌, refl, ap, ap₂}
use Rattle.pltl.specs.Formulas.{Formula, opposite}
use Rattle.pltl.specs.Formulas as formula

pub opposite_opposite : (f : Formula) → opposite (opposite f) ≡ f
opposite_opposite formula.True = refl
opposite_opposite formula.False = refl
opposite_opposite (formula.Is p) = refl
opposite_opposite (formula.Isn't p) = refl
opposite_opposite (formula.Next a) = ap formula.Next (opposite_opposite a)
opposite_opposite (formula.Always a) = ap formula.Always (opposite_opposite a)
opposite_opposite (formula.Eventually a) = ap formula.Eventually (opposite_opposite a)
opposite_opposite (formula.Until a b) = ap₂ formula.Until (opposite_opposite a) (opposite_opposite b)
opposite_opposite (formula.Release a b) = ap₂ formula.Release (opposite_opposite a) (opposite_opposite b)
opposite_opposite (formula.And a b) = ap₂ formula.And (opposite_opposite a) (opposite_opposite b)
opposite_opposite (formula.Or a b) = ap₂ formula.Or (opposite_opposite a) (opposite_opposite b)

abbrev positive : Formula → Type 0
positive formula.True = Unit {0}
positive formula.False = ⊥
positive (formula.Is p) = Unit {0}
positive (formula.Isn't p) = ⊥
positive (formula.Next a) = positive a
positive (formula.Always a) = Unit {0}
positive (formula.Eventually a) = ⊥
positive (formula.Until a b) = Unit {0}
positive (formula.Release a b) = ⊥
positive (formula.And a b) = Unit {0}
positive (formula.Or a b) = ⊥

switched : (f : Formula) → (positive f → positive (opposite f) → ⊥) × ((positive f → ⊥) → positive (opposite f))
switched formula.True = (λ _ n. n, λ n. n tt)
switched formula.False = (λ p _. p, λ _. tt)
switched (formula.Is p) = (λ _ n. n, λ n. n tt)
switched (formula.Isn't p) = (λ q _. q, λ _. tt)
switched (formula.Next a) = switched a
switched (formula.Always a) = (λ _ n. n, λ n. n tt)
switched (formula.Eventually a) = (λ q _. q, λ _. tt)
switched (formula.Until a b) = (λ _ n. n, λ n. n tt)
switched (formula.Release a b) = (λ q _. q, λ _. tt)
switched (formula.And a b) = (λ _ n. n, λ n. n tt)
switched (formula.Or a b) = (λ q _. q, λ _. tt)

-- no formula is its own opposite
pub opposite_differs : (f : Formula) → opposite f ≡ f → ⊥
opposite_differs f e =
    let s = switched f in
    let not-positive : positive f → ⊥ = λ p. s.0 p (mathlib.Core.Path.subst positive (mathlib.Core.Path.sym e) p) in
    not-positive (mathlib.Core.Path.subst positive e (s.1 not-positive))
