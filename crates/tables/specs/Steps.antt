-- What the steps of numbering answer. Assumes nothing.
use Rattle.std.specs.Prelude.{◌≡◌, ◌<◌, ◌≤◌, true, List, ◌++◌, length, Some, None, Option}
use Rattle.pltl.specs.Formulas.{Formula}
use Rattle.pltl.specs.declared.Shape.{Shape}
use Rattle.tables.specs.declared.number.Number.{Number}
use Rattle.tables.specs.Listing.{numbered, formula_over, parts_below}
use Rattle.tables.specs.Entering.{place}

-- n is a number of f
abbrev pub Names : List Formula → Number → Formula → Type 0
Names fs n f = (n.0 < length fs) × (numbered fs n.0 ≡ f)

-- one list begins with another
pub record Grown {X : Type 0} (xs ys : List X) : Type 0 where
  pub more : List X
  pub is : ys ≡ xs ++ more

-- the formulas fs become fs' = gs, and an answer holds there; nothing is answered where gs has no room
abbrev pub Reaches : {X : Type 0} → List Formula → List Formula → (X → Type 0) → Option X → Type 0
Reaches gs fs' P (Some x) = (fs' ≡ gs) × P x
Reaches gs fs' P None = 512 < length gs

abbrev pub Finds : List Formula → Formula → Option Number → Type 0
Finds fs f (Some n) = Names fs n f
Finds fs f None = length fs ≤ place fs f

-- a shape of f over numbers that are in use
abbrev pub Shapes : List Formula → Formula → Shape Number → Type 0
Shapes fs f s = (formula_over fs s ≡ f) × (parts_below (length fs) s ≡ true)
