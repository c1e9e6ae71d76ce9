-- Kit `s`: which rules it knows, their names, and which steps it allows. A reader has to believe this file.
-- Assumes nothing.
use Rattle.std.specs.Prelude.{ℕ, Bool, cond, ◌&&◌, List, [], ◌∷◌, length, codes, ◌==◌, nat_le, nat_lt}
use Rattle.pltl.specs.Formulas.{Formula}
use Rattle.calculus.proofs.DecidedRules.{rule_decided}
use Rattle.tables.specs.Listing.{numbered}
use Rattle.tables.specs.Entering.{decided}
use Rattle.kits.specs.Names.{Name}
use Rattle.kits.specs.Steps.{StepModel}

-- The rules are numbered 1 to 11.
abbrev pub sequent_knows : ℕ → Bool
sequent_knows n = nat_le 1 n && nat_le n 11

abbrev pub sequent_names : List Name
sequent_names =
    record { word = codes "contra"; number = 1 } ∷
    record { word = codes "false"; number = 2 } ∷
    record { word = codes "and"; number = 3 } ∷
    record { word = codes "or"; number = 4 } ∷
    record { word = codes "always"; number = 5 } ∷
    record { word = codes "some"; number = 6 } ∷
    record { word = codes "until"; number = 7 } ∷
    record { word = codes "release"; number = 8 } ∷
    record { word = codes "some+"; number = 9 } ∷
    record { word = codes "until+"; number = 10 } ∷
    record { word = codes "next"; number = 11 } ∷
    []

-- The principal number: 0 for next, which has no principal formula, and for every other rule the number of a formula.
abbrev pub principal_fits : List Formula → ℕ → ℕ → Bool
principal_fits fs rule p = cond (rule == 11) (p == 0) (nat_lt p (length fs))

-- A step is allowed exactly when its principal number is of that form and it is a step by the rule of its number.
unfoldable pub sequent_allows : List Formula → StepModel → Bool
sequent_allows fs st = principal_fits fs st.rule st.principal && decided (rule_decided st.conclusion (numbered fs st.principal) st.rule st.premises)
