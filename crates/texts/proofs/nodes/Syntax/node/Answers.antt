use Rattle.std.proofs.Common.{◌≡◌, ℕ, ◌<◌, ◌≤◌, true, List, length, Bor, Option, Some, None, sym, ap, ◌∙◌, subst, arith}
use Rattle.std.specs.Prelude.{MatchOption}
use Rattle.std.specs.List.{HoldsAt}
use Rattle.std.specs.Option.{option_copied}
use Rattle.std.proofs.lemmas.List.{get_or_past}
use Rattle.pltl.specs.Formulas.{one}
use Rattle.texts.specs.declared.nodes.Node.{Node}
use Rattle.texts.specs.declared.nodes.Node.TheVariants.{One}
use Rattle.texts.specs.Syntax.{Ordered, below, tree_at, tree_over, trees}
use Rattle.texts.proofs.Trees.{tree_of_node, length_trees}
use Rattle.texts.proofs.nodes.Syntax.node.Goals as goal

found : (ns : List Node) (at : ℕ) (r : Option (Bor Node)) → Ordered ns →
    MatchOption r (length ns ≤ at) (λ x. (at < length ns) × HoldsAt (λ y. x.now ≡ y) ns at) →
    MatchOption (option_copied r) (tree_at ns at ≡ one) (λ n. (tree_at ns at ≡ tree_over (trees ns) n) × (below at n ≡ true))
found ns at None o p = get_or_past (trees ns) at one (omega (arith, length_trees ns))
found ns at (Some x) o p =
    let e = p.1 One in
    (tree_of_node ns at o p.0 ∙ ap (tree_over (trees ns)) (sym e), subst (λ n. below at n ≡ true) (sym e) (o at p.0))

pub returns : goal.returns
returns c =
    rw c.copied.ensures (found _ c.args.at c.get.result c.args.self.now.ordered (rw c.deref.ensures.value at c.get.ensures.lookup.3))
