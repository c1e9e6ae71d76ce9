use Rattle.std.proofs.Common.{vec_items, ◌∙◌, subst}
use Rattle.tables.specs.Listing.{formulas}
use Rattle.tables.specs.Rows.{recorded, RowsOf}
use Rattle.cases.specs.Views.{case_model}
use Rattle.cases.proofs.Looped.{false_root_is}
use Rattle.cases.proofs.draft.Case.false_root.Goals as goal

pub returns : goal.returns
returns g c =
    let fs = formulas (vec_items c.args.self.now.table.shapes) in
    let rows = subst (λ x. RowsOf (recorded x.letters x.len) c.args.back fs c.rows-rows.result.words) c.states.ensures c.rows-rows.ensures in
    c.least_false.ensures ∙ false_root_is (case_model c.args.self.now) c.args.back c.rows-rows.result.words c.requires rows c.args.self.now.inside
