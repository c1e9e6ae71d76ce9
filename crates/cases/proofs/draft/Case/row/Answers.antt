use Rattle.std.proofs.Common.{◌<◌, length, vec_items, sym, ap, subst, arith}
use Rattle.tables.specs.Listing.{formulas, numbered}
use Rattle.tables.specs.Rows.{recorded, RowOf, RowsOf}
use Rattle.cases.proofs.draft.Case.row.Goals as goal

pub returns : goal.returns
returns g c =
    let n = c.args.number in
    let b = c.args.back in
    let fs = formulas (vec_items c.args.self.now.table.shapes) in
    let s = c.args.self.now.run.states in
    let inside : n < length fs = omega (arith, c.if-number-len.false, c.len.ensures.value) in
    let held : b < length (recorded s.letters s.len) = omega (arith, c.if-back-len.false, c.len-2.ensures.value, ap (λ x. length (recorded x.letters x.len)) c.states.ensures) in
    let rows = subst (λ x. RowsOf (recorded x.letters x.len) b fs c.rows.result.words) c.states-2.ensures c.rows.ensures in
    (inside, held, λ r same back. subst (RowOf r (numbered fs n)) (sym c.row.ensures) (rows r same back n inside))
