use Rattle.std.proofs.Common.{◌<◌, length, Decides}
use Rattle.pltl.specs.Formulas.{opposite}
use Rattle.calculus.specs.Sequents.{◌∈◌}
use Rattle.calculus.specs.Rules.{IsAlways}
use Rattle.tables.specs.Listing.{numbered}
use Rattle.kits.specs.Steps.{listed, formulas_in}
use Rattle.sequents.proofs.premises.fn.Context.covers.all.Given as goal

abbrev pub ensures : goal.ensures
ensures l r =
    let fs = listed l.self-table.entry.now in
    let k = l.k.0 in
    Decides r (k < length fs → (IsAlways (numbered fs k) → ⊥) → opposite (numbered fs k) ∈ formulas_in fs l.alternatives)
