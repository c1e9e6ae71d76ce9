-- What unit closure brings is true where the set is. Assumes nothing.
use Rattle.std.proofs.Common.{List, inl, inr, ⊎_elim, arith}
use Rattle.pltl.specs.Formulas.{Formula, opposite}
use Rattle.pltl.specs.Formulas as f
use Rattle.pltl.specs.Runs.{Run, Satisfies}
use Rattle.pltl.proofs.Decisions.{opposite_is_not}
use Rattle.calculus.specs.Sequents.{SatisfiesAll}
use Rattle.calculus.specs.Units.{Closure, given, and_left, and_right, always, or_left, or_right}
use Rattle.calculus.specs.Laws.{UnitsLaw}

pub closure_holds : (Γ : List Formula) (r : Run) → SatisfiesAll r Γ → (g : Formula) → Closure Γ g → Satisfies r g
closure_holds Γ r all g (given i) = all g i
closure_holds Γ r all g (and_left {a = a} {b = b} c) = (closure_holds Γ r all (f.And a b) c).0
closure_holds Γ r all g (and_right {a = a} {b = b} c) = (closure_holds Γ r all (f.And a b) c).1
closure_holds Γ r all g (always {a = a} c) = closure_holds Γ r all (f.Always a) c 0 (omega arith)
closure_holds Γ r all g (or_left {a = a} {b = b} c o) =
    ⊎_elim (λ h. h) (λ h. absurd ((opposite_is_not r b 0).0 (closure_holds Γ r all (opposite b) o) h)) (closure_holds Γ r all (f.Or a b) c)
closure_holds Γ r all g (or_right {a = a} {b = b} c o) =
    ⊎_elim (λ h. absurd ((opposite_is_not r a 0).0 (closure_holds Γ r all (opposite a) o) h)) (λ h. h) (closure_holds Γ r all (f.Or a b) c)

pub units_law : UnitsLaw
units_law Γ (inl c) r all = closure_holds Γ r all f.False c
units_law Γ (inr c) r all =
    (opposite_is_not r c.0 0).0 (closure_holds Γ r all (opposite c.0) c.2) (closure_holds Γ r all c.0 c.1)
