-- One round of unit closure, on sets of formulas. Assumes nothing.
use Rattle.std.specs.Prelude.{◌≡◌, List}
use Rattle.pltl.specs.Formulas.{Formula, opposite}
use Rattle.pltl.specs.Formulas as f
use Rattle.calculus.specs.Sequents.{◌∈◌}
use Rattle.calculus.specs.Units.{Closure}

-- All formulas of a set are in the closure of another.
abbrev pub Within : List Formula → List Formula → Type 0
Within Γ S = (g : Formula) → g ∈ S → Closure Γ g

-- What the formula g brings, where the formulas of S are at hand, is in G.
pub record Brought (S G : List Formula) (g : Formula) : Type 0 where
  pub and : (a b : Formula) → g ≡ f.And a b → (a ∈ G) × (b ∈ G)
  pub always : (a : Formula) → g ≡ f.Always a → a ∈ G
  pub or_left : (a b : Formula) → g ≡ f.Or a b → opposite b ∈ S → a ∈ G
  pub or_right : (a b : Formula) → g ≡ f.Or a b → opposite a ∈ S → b ∈ G
