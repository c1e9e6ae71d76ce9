-- The law, for the rules of both kits. Assumes nothing.
use Rattle.std.specs.Prelude.{ℕ, List, [], ◌∷◌}
use Rattle.pltl.specs.Formulas.{Formula}
use Rattle.calculus.specs.Sequents.{NoRun}
use Rattle.calculus.specs.Rules.{Rule}
use Rattle.calculus.specs.Units.{Contradicts}

-- none of the sets has a run
abbrev pub NoRuns : List (List Formula) → Type 0
NoRuns [] = Unit {0}
NoRuns (Δ ∷ Δs) = NoRun Δ × NoRuns Δs

abbrev pub RulesLaw : Type 0
RulesLaw = (Γ : List Formula) (m : Formula) (n : ℕ) (Δs : List (List Formula)) → Rule Γ m n Δs → NoRuns Δs → NoRun Γ

abbrev pub UnitsLaw : Type 0
UnitsLaw = (Γ : List Formula) → Contradicts Γ → NoRun Γ
