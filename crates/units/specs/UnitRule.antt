-- Kit `u`: its one rule, the rule's name, and which steps it allows. A reader has to believe this file. Assumes nothing.
use Rattle.std.specs.Prelude.{ℕ, Bool, true, false, ◌&&◌, List, [], ◌∷◌, codes, ◌==◌}
use Rattle.pltl.specs.Formulas.{Formula}
use Rattle.calculus.proofs.DecidedUnits.{contradiction_decided}
use Rattle.tables.specs.Entering.{decided}
use Rattle.kits.specs.Names.{Name}
use Rattle.kits.specs.Steps.{StepModel}

abbrev pub unit_knows : ℕ → Bool
unit_knows n = n == 1

abbrev pub unit_names : List Name
unit_names =
    record { word = codes "unit"; number = 1 } ∷
    []

abbrev pub none : List (List Formula) → Bool
none [] = true
none (Δ ∷ Δs) = false

-- A step is allowed exactly when it has rule 1, principal number 0 and no premises, and the closure of its conclusion
-- contains false or two opposites.
unfoldable pub unit_allows : StepModel → Bool
unit_allows st = unit_knows st.rule && (st.principal == 0 && (none st.premises && decided (contradiction_decided st.conclusion)))
