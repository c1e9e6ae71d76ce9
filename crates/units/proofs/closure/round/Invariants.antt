use Rattle.std.proofs.Common.{◌<◌, List, length}
use Rattle.pltl.specs.Formulas.{Formula}
use Rattle.tables.specs.Listing.{numbered}
use Rattle.tables.proofs.SetLists.{Passing}
use Rattle.units.specs.Closures.{Within, Brought}
use Rattle.kits.specs.Steps.{listed, formulas_in}
use Rattle.units.proofs.ClosedSets.{Inside}
use Rattle.units.proofs.closure.round.Given as goal

abbrev pub invariant-loop-k : goal.invariant-loop-k
invariant-loop-k l =
    Inside l.fn.set l.grown
    × ((Γ : List Formula) → Within Γ (formulas_in (listed l.table) l.fn.set) → Within Γ (formulas_in (listed l.table) l.grown))
    × Passing (λ j. j < length (listed l.table) → Brought (formulas_in (listed l.table) l.fn.set) (formulas_in (listed l.table) l.grown) (numbered (listed l.table) j)) l.fn.set l.k-iterator.rest
