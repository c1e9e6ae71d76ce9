use Rattle.std.proofs.Common.{◌≡◌, ℕ, ◌<◌, ◌≤◌, true, length}
use Rattle.pltl.specs.Formulas.{Formula, Or}
use Rattle.calculus.specs.Sequents.{◌∈◌}
use Rattle.calculus.specs.Rules.{Alternative}
use Rattle.tables.specs.Listing.{numbered}
use Rattle.tables.specs.Sets.{member}
use Rattle.kits.specs.Steps.{listed, formulas_in}
use Rattle.sequents.proofs.premises.alternatives.Given as goal

-- what the loop began with was found, and alternatives of it alone, with both sides of each disjunction that has a
-- number from `at` on
abbrev pub invariant-loop-k : goal.invariant-loop-k
invariant-loop-k l =
    ((g : Formula) → g ∈ formulas_in (listed l.table) l.initial.found → g ∈ formulas_in (listed l.table) l.found)
    × ((j : ℕ) → j < length (listed l.table) → member l.found j ≡ true → (i : ℕ) × (i < length (listed l.table)) × (member l.initial.found i ≡ true) × Alternative (numbered (listed l.table) j) (numbered (listed l.table) i))
    × ((j : ℕ) → l.at ≤ j → j < length (listed l.table) → member l.found j ≡ true → (a b : Formula) → numbered (listed l.table) j ≡ Or a b → (a ∈ formulas_in (listed l.table) l.found) × (b ∈ formulas_in (listed l.table) l.found))

abbrev pub decreases-loop-k : goal.decreases-loop-k
decreases-loop-k l = l.at
