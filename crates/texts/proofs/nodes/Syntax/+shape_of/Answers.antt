use Rattle.std.proofs.Common.{◌≡◌, true, ltb, vec_items, sym, ap, ◌∙◌, subst, arith}
use Rattle.std.proofs.lemmas.Bool.{ltb-true, lt-ltb}
use Rattle.pltl.specs.Formulas.{opposite, normal, not}
use Rattle.pltl.proofs.Tests.{all_parts_weaker, each_from_all}
use Rattle.texts.specs.Normals.{formula_at}
use Rattle.texts.specs.Syntax.{tree_at, tree_over, trees, below}
use Rattle.texts.proofs.Parts.{formula_at_dual}
use Rattle.texts.proofs.nodes.Syntax.+shape_of.Goals as goal

pub returns-in-Not : goal.returns-in-Not
returns-in-Not t c =
    let ns = vec_items c.args.self.now.nodes in
    let found = c.in-Some.ensures in
    let a = c.in-Not.a in
    let tree : tree_at ns c.args.node ≡ not (tree_at ns a) = found.0 ∙ ap (tree_over (trees ns)) c.in-Not.is in
    let below-it : ltb a c.args.node ≡ true = subst (λ n. below c.args.node n ≡ true) c.in-Not.is found.1 in
    record {
      value = c.opposite.ensures.value (formula_at ns) (each_from_all _ (formula_at_dual ns) _) ∙ ap opposite c.shape_of.ensures.value ∙ sym (ap normal tree);
      parts = c.opposite.ensures.parts (λ p. ltb p.node c.args.node)
          ∙ all_parts_weaker (λ p. ltb p.node a) (λ p. ltb p.node c.args.node) (λ p h. lt-ltb p.node _ (omega (arith, ltb-true p.node a h, ltb-true a _ below-it))) _ c.shape_of.ensures.parts;
    }
