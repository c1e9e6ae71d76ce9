-- What a table means: the list of its formulas, by number. Assumes nothing.
use Rattle.std.specs.Prelude.{◌≡◌, ℕ, ◌+◌, ◌*◌, ◌<◌, Bool, true, List, [], length, nat_lt, slice_index_or}
use Rattle.pltl.specs.Built.{built}
use Rattle.pltl.specs.Formulas.{Formula, opposite}
use Rattle.pltl.specs.Formulas as formula
use Rattle.pltl.specs.Shapes.{formula_of, all_parts}
use Rattle.pltl.specs.declared.Shape.{Shape}
use Rattle.pltl.specs.declared.Shape.TheVariants.{True}
use Rattle.tables.specs.declared.number.Number.{Number}

-- The formula of a number, among formulas by number; where there is none, true.
abbrev pub numbered : List Formula → ℕ → Formula
numbered fs n = slice_index_or fs n formula.True

-- The formula of a shape whose parts are numbers of formulas.
abbrev pub formula_over : List Formula → Shape Number → Formula
formula_over fs s = formula_of (λ n. numbered fs n.0) s

-- The formulas of a list of shapes, each over the formulas before it.
unfoldable pub formulas : List (Shape Number) → List Formula
formulas ss = built formula_over [] ss

-- A shape whose parts have numbers below i.
abbrev pub parts_below : ℕ → Shape Number → Bool
parts_below i s = all_parts (λ n. nat_lt n.0 i) s

-- Parts have smaller numbers.
abbrev pub PartsFirst : List (Shape Number) → Type 0
PartsFirst ss = (i : ℕ) → i < length ss → parts_below i (slice_index_or ss i True) ≡ true

-- The laws of formulas by number.
pub record Lawful (fs : List Formula) : Type 0 where
  -- 0 is true and 1 is false
  pub true_first : numbered fs 0 ≡ formula.True
  pub false_second : numbered fs 1 ≡ formula.False
  -- an even number and its neighbour name opposites
  pub opposites : (k : ℕ) → 2 * k < length fs → numbered fs (2 * k + 1) ≡ opposite (numbered fs (2 * k))
  -- equal formulas have one number
  pub once : (i j : ℕ) → i < length fs → j < length fs → numbered fs i ≡ numbered fs j → i ≡ j

-- Parts have smaller numbers: the formula of each number is over formulas of smaller ones.
abbrev pub PartsSmaller : List Formula → Type 0
PartsSmaller fs = (n : ℕ) → n < length fs → (s : Shape Number) × (formula_over fs s ≡ numbered fs n) × (parts_below n s ≡ true)
