use Rattle.std.proofs.Common.{ℕ, Bool, get_or, not, map, vec_items, sym, ap, ◌∙◌, rules, tests}
use Rattle.std.proofs.lemmas.Iterator.{YieldsList-from_slice, YieldsList-from_map}
use Rattle.std.proofs.lemmas.Iterator.Adapters.{option_map_id}
use Rattle.std.proofs.lemmas.Iterator.Consumers.{YieldsList-at, YieldsList-from_filter, min_from_yields_List}
use Rattle.std.specs.List.{reduce}
use Rattle.std.specs.Prelude.{min}
use Rattle.tables.specs.Rows.{bit}
use Rattle.cases.proofs.Listed.{least_is, map-filter}
use Rattle.cases.proofs.roots.Roots.least_false.Goals as goal

pub returns : goal.returns
returns c =
    let ns = vec_items c.args.self.now.numbers in
    let first : ℕ → Bool = λ n. bit (get_or c.args.rows.now.words n 0) 0 in
    sym (option_map_id c.min.result)
    ∙ min_from_yields_List _ c.min.result c.min.ensures.ran
    (YieldsList-from_map _ (λ n. n.0)
    (YieldsList-at c.map.ensures.source (YieldsList-from_filter _ (λ n. not (first n.0)) (YieldsList-from_slice ns (cc)) c.filter.ensures.closure (λ x b q k. search (rules, tests))))
    c.map.ensures.closure (λ x r q k. search (rules, tests)))
    ∙ ap (reduce min) (map-filter (λ n. not (first n)) (λ n. n.0) ns)
    ∙ least_is first (map (λ n. n.0) ns)
