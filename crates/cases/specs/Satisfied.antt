-- Whether a looping run satisfies a formula, as a test: truth on looping runs is decided. Assumes nothing.
use Rattle.std.specs.Prelude.{Bool, true, false, ◌⊎◌}
use Rattle.std.proofs.Common.{inl, inr}
use Rattle.pltl.specs.Formulas.{Formula}
use Rattle.pltl.specs.Runs.{Run}
use Rattle.pltl.proofs.Decisions.{decided}

abbrev pub which : {A B : Type 0} → A ⊎ B → Bool
which (inl a) = true
which (inr b) = false

-- true exactly where the run satisfies the formula
unfoldable pub satisfied : Run → Formula → Bool
satisfied r f = which (decided r f 0)
