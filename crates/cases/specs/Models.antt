-- What a draft and a case hold. Assumes nothing.
use Rattle.std.specs.Prelude.{ℕ, Bool, List, Option}
use Rattle.pltl.specs.Formulas.{Formula}
use Rattle.pltl.specs.Truth.{State}
use Rattle.kits.specs.Steps.{StepModel}

-- A draft: the formulas by number, the numbers of the root formulas in the order in which they came, how many
-- clauses were taken, and whether one of them was a property.
pub record DraftModel : Type 0 where
  pub formulas : List Formula
  pub roots : List ℕ
  pub clauses : ℕ
  pub property : Bool

-- The run that is recorded: the states that are held, and the back position if it is closed.
pub record RunModel : Type 0 where
  pub states : List State
  pub back : Option ℕ

-- A case: the formulas by number, the numbers of the root formulas, and the recorded run.
pub record CaseModel : Type 0 where
  pub formulas : List Formula
  pub roots : List ℕ
  pub run : RunModel

-- A case with its taken steps: the conclusion of each, as a set of numbers.
pub record SteppedModel : Type 0 where
  pub case : CaseModel
  pub steps : List (ℕ → Bool)

-- What a kit means to a case: the rules that it knows, and the steps that it allows, read in a table's formulas.
pub record KitModel : Type 0 where
  pub knows : ℕ → Bool
  pub allows : List Formula → StepModel → Bool
