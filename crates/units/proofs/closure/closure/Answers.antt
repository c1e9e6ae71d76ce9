use Rattle.std.proofs.Common.{sym, ◌∙◌, subst}
use Rattle.calculus.specs.Sequents.{◌∈◌}
use Rattle.calculus.specs.Units.{given}
use Rattle.pltl.specs.Formulas.{Formula}
use Rattle.std.proofs.lemmas.Bool.{false≢true}
use Rattle.units.specs.Closures.{Brought}
use Rattle.kits.specs.Steps.{listed, formulas_in}
use Rattle.units.proofs.ClosedSets.{inside_formulas, brought_more, closed_has_closure, missing_falls}
use Rattle.kits.proofs.InSequents.{number_from_in}
use Rattle.units.proofs.closure.closure.Goals as goal

pub loop-grown-init : goal.loop-grown-init
loop-grown-init c = (λ j m. m, λ g i. given i)

pub returns-then-is_within : goal.returns-then-is_within
returns-then-is_within c =
    let fs = listed c.args.table.now in
    let s = c.args.set in
    let closed = c.loop-grown.closed in
    let grown = c.round-grown.result in
    let back = inside_formulas fs grown closed (c.is_within.ensures.0 c.if-is_within.true) in
    let full : (g : Formula) → g ∈ formulas_in fs closed → Brought (formulas_in fs closed) (formulas_in fs closed) g =
    λ g i.
    let k = number_from_in fs closed g i in
    brought_more (formulas_in fs closed) (formulas_in fs closed) (formulas_in fs grown) (formulas_in fs closed) g (λ x j. j) back
    (subst (Brought (formulas_in fs closed) (formulas_in fs grown)) k.3 (c.round-grown.ensures.brought k.0 k.1 k.2))
    in
    λ g. (
      c.loop-grown.invariant.1 g,
      closed_has_closure (formulas_in fs s) (formulas_in fs closed) (inside_formulas fs s closed c.loop-grown.invariant.0) full g,
    )

pub loop-grown-smaller : goal.loop-grown-smaller
loop-grown-smaller c =
    missing_falls c.loop-grown.closed c.round-grown.result c.round-grown.ensures.kept
    (λ all. false≢true (sym c.if-is_within.false ∙ c.is_within.ensures.1 all))
