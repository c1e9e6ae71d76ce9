use Rattle.std.proofs.Common.{vec_items, sym, ap, ◌∙◌}
use Rattle.std.proofs.lemmas.Bool.{cond-true}
use Rattle.pltl.specs.Formulas.{opposite}
use Rattle.pltl.proofs.Tests.{each_from_all}
use Rattle.texts.specs.Normals.{formula_at}
use Rattle.texts.proofs.Parts.{formula_at_dual}
use Rattle.texts.proofs.nodes.Syntax.shape.Goals as goal

pub returns-then-part-clause-value : goal.returns-then-part-clause-value
returns-then-part-clause-value c =
    let ns = vec_items c.args.self.now.nodes in
    c.opposite.ensures.value (formula_at ns) (each_from_all _ (formula_at_dual ns) _) ∙ ap opposite c.shape_of-plain.ensures.value ∙ sym (cond-true _ _ _ c.if-part.true)
