use Rattle.tables.specs.Sets.{member}
use Rattle.units.specs.Closures.{Within}
use Rattle.kits.specs.Steps.{listed, formulas_in}
use Rattle.units.proofs.ClosedSets.{Inside, missing}
use Rattle.units.proofs.closure.closure.Given as goal

abbrev pub invariant-loop-grown : goal.invariant-loop-grown
invariant-loop-grown l = Inside l.initial.closed l.closed × Within (formulas_in (listed l.table) l.initial.closed) (formulas_in (listed l.table) l.closed)

abbrev pub decreases-loop-grown : goal.decreases-loop-grown
decreases-loop-grown l = missing (member l.closed) 512
