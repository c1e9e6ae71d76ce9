use Rattle.std.proofs.Common.{◌≡◌, ◌<◌, length}
use Rattle.pltl.specs.Formulas.{Formula, Next}
use Rattle.calculus.specs.Sequents.{◌∈◌}
use Rattle.tables.specs.Listing.{numbered}
use Rattle.tables.proofs.SetLists.{Passing}
use Rattle.kits.specs.Steps.{listed, formulas_in}
use Rattle.sequents.proofs.premises.nexts.Given as goal

-- what was found has its next in the conclusion, and what has its next at a number that was passed was found
abbrev pub invariant-loop-k : goal.invariant-loop-k
invariant-loop-k l =
    ((g : Formula) → g ∈ formulas_in (listed l.table) l.found → Next g ∈ formulas_in (listed l.table) l.conclusion)
    × Passing (λ j. j < length (listed l.table) → (g : Formula) → numbered (listed l.table) j ≡ Next g → g ∈ formulas_in (listed l.table) l.found) l.conclusion l.k-iterator.rest
