-- Sets of formulas, as lists in which order and repetition do not count. A reader has to believe this file.
-- Assumes nothing.
use Rattle.std.specs.Prelude.{◌≡◌, ◌⊎◌, List, [], ◌∷◌}
use Rattle.pltl.specs.Formulas.{Formula}
use Rattle.pltl.specs.Runs.{Run, Satisfies}

-- f is in the set
abbrev pub ◌∈◌ : Formula → List Formula → Type 0
f ∈ [] = ⊥
f ∈ (g ∷ gs) = (f ≡ g) ⊎ (f ∈ gs)

infix 50 ◌∈◌
-- A run satisfies all formulas of the set, at its first position.
abbrev pub SatisfiesAll : Run → List Formula → Type 0
SatisfiesAll r Γ = (f : Formula) → f ∈ Γ → Satisfies r f

-- No looping run, of any length, satisfies all formulas of the set.
abbrev pub NoRun : List Formula → Type 0
NoRun Γ = (r : Run) → SatisfiesAll r Γ → ⊥
