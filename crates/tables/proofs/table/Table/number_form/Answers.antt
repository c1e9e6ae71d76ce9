use Rattle.std.proofs.Common.{◌≡◌, ◌<◌, length, vec_items, sym, ap, ◌∙◌, subst, arith}
use Rattle.pltl.specs.Formulas.{normal}
use Rattle.pltl.specs.Formulas as formula
use Rattle.texts.specs.Normals.{formula_at}
use Rattle.texts.specs.Syntax.{tree_at}
use Rattle.tables.specs.Answers.{entry}
use Rattle.tables.specs.Entering.{enter}
use Rattle.tables.specs.Steps.{Names, Reaches}
use Rattle.tables.specs.Listing.{formulas}
use Rattle.tables.proofs.Growth.{grown_on, entry_more, reaches_entered}
use Rattle.tables.proofs.table.Table.number_form.Goals as goal

pub returns-in_err-number : goal.returns-in_err-number
returns-in_err-number c =
    let h = c.in_err-number.ensures in
    let ns = vec_items c.args.syntax.now.nodes in
    let fs = formulas (vec_items c.args.self.now.shapes) in
    let t = tree_at ns c.args.root in
    let full : 512 < length (enter fs (normal t)) = subst (λ p. 512 < length (enter fs (formula_at ns p))) c.plain.ensures h.value in
    record { value = rw c.from_residual.ensures (omega (arith, full, entry_more fs c.args.form t)); grown = h.grown }

pub returns-in-Always : goal.returns-in-Always
returns-in-Always c =
    let h = c.in_ok-number.ensures in
    let ns = vec_items c.args.syntax.now.nodes in
    let fs = formulas (vec_items c.args.self.now.shapes) in
    let gs = formulas (vec_items c.add.new.self.shapes) in
    let t = tree_at ns c.args.root in
    let is : formula_at ns c.plain.result ≡ normal (tree_at ns c.args.root) = ap (formula_at ns) c.plain.ensures in
    record {
      value = subst (λ m. Reaches (enter fs (entry m t)) gs (λ n. Names gs n (entry m t)) c.add.result) (sym c.in-Always.is) (reaches_entered fs _ _ _ _ _ (h.value.0 ∙ ap (enter fs) is) (ap formula.Always (h.value.1.1 ∙ is)) c.add.ensures.value);
      grown = grown_on h.grown c.add.ensures.grown;
    }
