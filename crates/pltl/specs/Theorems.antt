-- What is true of truth on looping runs, each proved for the contract that names it. Assumes nothing.
use Rattle.std.specs.Prelude.{ℕ, ◌+◌, ◌-◌, ◌≤◌, ◌⊎◌, ◌↔◌, length}
use Rattle.pltl.specs.Formulas.{Tree, Formula, opposite, normal}
use Rattle.pltl.specs.Formulas as pltl
use Rattle.pltl.specs.Truth.{Holds, HoldsAsWritten}
use Rattle.pltl.specs.Runs.{Run, endless}

-- At each position exactly one of a formula and its opposite is true.
abbrev pub ExactlyOne : Type 0
ExactlyOne = (r : Run) (f : Formula) (i : ℕ) → (Holds (endless r) f i ⊎ Holds (endless r) (opposite f) i) × (Holds (endless r) f i → Holds (endless r) (opposite f) i → ⊥)

-- The normal form of a tree is true exactly where the tree is.
abbrev pub NormalKeepsTruth : Type 0
NormalKeepsTruth = (r : Run) (t : Tree) (i : ℕ) → HoldsAsWritten (endless r) t i ↔ Holds (endless r) (normal t) i

-- From the back position on, truth comes again with the loop.
abbrev pub Periodic : Type 0
Periodic = (r : Run) (f : Formula) (i : ℕ) → r.back ≤ i → Holds (endless r) f i ↔ Holds (endless r) f (i + (length r.states - r.back))

-- What is true at position i of a run is true at position 0 of another: its suffix from i on.
abbrev pub Suffixes : Type 0
Suffixes = (r : Run) (i : ℕ) → (s : Run) × ((f : Formula) (j : ℕ) → Holds (endless r) f (i + j) ↔ Holds (endless s) f j)

-- A release is true exactly where the until of both opposites is false.
abbrev pub ReleaseByUntil : Type 0
ReleaseByUntil = (r : Run) (a b : Formula) (i : ℕ) → Holds (endless r) (pltl.Release a b) i ↔ (Holds (endless r) (pltl.Until (opposite a) (opposite b)) i → ⊥)
