use Rattle.std.proofs.Common.{vec_items, ap, ◌∙◌, arith}
use Rattle.texts.specs.Normals.{formula_at}
use Rattle.tables.specs.Entering.{enter}
use Rattle.tables.specs.Listing.{formulas}
use Rattle.tables.proofs.Growth.{grown_on, length_grown, names_grown, enter_more, enter_grown, reaches_entered}
use Rattle.tables.proofs.Listed.{formulas_grown}
use Rattle.tables.proofs.table.Table.+number_number_both_number_parts.Goals as goal

pub number-returns-in_err-shape : goal.number-returns-in_err-shape
number-returns-in_err-shape t c =
    let h = c.in_err-shape.ensures in
    let fs = formulas (vec_items c.args.self.now.shapes) in
    let f = formula_at (vec_items c.args.syntax.now.nodes) c.args.part in
    record { value = rw c.from_residual.ensures (omega (arith, h.value, enter_more fs f)); grown = h.grown }

pub number-returns : goal.number-returns
number-returns t c =
    let h = c.in_ok-shape.ensures in
    record { value = reaches_entered _ _ _ _ _ _ h.value.0 h.value.1.0 c.add.ensures.value; grown = grown_on h.grown c.add.ensures.grown }

pub number_both-returns : goal.number_both-returns
number_both-returns t c =
    let l = c.in_ok-left.ensures in
    let r = c.in_ok-right.ensures in
    record {
      value = (r.value.0 ∙ ap (λ gs. enter gs (formula_at (vec_items c.args.syntax.now.nodes) c.args.right)) l.value.0, (names_grown _ _ (formulas_grown r.grown) l.value.1, r.value.1));
      grown = grown_on l.grown r.grown;
    }

pub number_both-returns-in_err-left : goal.number_both-returns-in_err-left
number_both-returns-in_err-left t c =
    let h = c.in_err-left.ensures in
    let ns = vec_items c.args.syntax.now.nodes in
    let gs = enter (formulas (vec_items c.args.self.now.shapes)) (formula_at ns c.args.left) in
    record { value = rw c.from_residual.ensures (omega (arith, h.value, length_grown (enter_grown gs (formula_at ns c.args.right)))); grown = h.grown }
