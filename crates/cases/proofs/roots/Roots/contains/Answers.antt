use Rattle.std.proofs.Common.{eqb, vec_items, ◌∙◌, rules, tests}
use Rattle.std.proofs.lemmas.Iterator.{YieldsList-from_slice}
use Rattle.std.proofs.lemmas.Iterator.Search.{any_from_yields_List}
use Rattle.cases.proofs.Listed.{list_any-map}
use Rattle.cases.proofs.roots.Roots.contains.Goals as goal

pub returns : goal.returns
returns c =
    let ns = vec_items c.args.self.now.numbers in
    any_from_yields_List (λ n. eqb n.0 c.args.number.0) _ _ _ c.any.ensures.ran (YieldsList-from_slice ns (cc)) (λ x b q k. search (rules, tests))
    ∙ list_any-map (λ m. eqb m c.args.number.0) (λ n. n.0) ns
