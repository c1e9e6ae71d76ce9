-- How the trees of a list of nodes grow with the list. Assumes nothing.
use Rattle.std.proofs.Common.{◌≡◌, ℕ, ◌<◌, true, List, [], ◌∷◌, ◌++◌, length, get_or, sym, refl, ap, ◌∙◌, subst, ap₂, ⊎_elim, arith}
use Rattle.std.proofs.lemmas.List.{get_or_append_left, get_or_push, length_push}
use Rattle.std.proofs.lemmas.Bool.{cases_lt, ltb-true, and_parts}
use Rattle.pltl.specs.Formulas.{Tree}
use Rattle.pltl.specs.Formulas as pltl
use Rattle.texts.specs.declared.nodes.Node.{Node}
use Rattle.texts.specs.declared.nodes.Node.TheVariants.{One, Zero, Letter, Not, Next, Always, Eventually, Until, Release, And, Or, Implies}
use Rattle.pltl.proofs.Built.{length_built, built_stays, value_push, value_at, value_front}
use Rattle.texts.specs.Syntax.{tree_over, trees, tree_at, below, Ordered}

pub ordered_push : (ns : List Node) (n : Node) → Ordered ns → below (length ns) n ≡ true → Ordered (ns ++ n ∷ [])
ordered_push ns n o b i lt =
    let long = length_push ns n in
    ⊎_elim
    (λ l. subst (λ m. below i m ≡ true) (sym (get_or_append_left ns (n ∷ []) One i l)) (o i l))
    (λ g. let e : length ns ≡ i = omega arith in
    subst (λ m. below i m ≡ true) (sym (get_or_push ns n One i e)) (subst (λ k. below k n ≡ true) e b))
    (cases_lt i (length ns))

pub length_trees : (ns : List Node) → length (trees ns) ≡ length ns
unfolding trees
length_trees ns = omega (arith, length_built tree_over [] ns)

-- more nodes leave the tree of each node as it was
pub tree_stays : (ns ms : List Node) (i : ℕ) → i < length ns → get_or (trees (ns ++ ms)) i pltl.one ≡ get_or (trees ns) i pltl.one
unfolding trees
tree_stays ns ms i lt = built_stays tree_over ns ms i pltl.one lt

-- the tree of the node that is added
pub tree_push : (ns : List Node) (n : Node) → get_or (trees (ns ++ n ∷ [])) (length ns) pltl.one ≡ tree_over (trees ns) n
unfolding trees
tree_push ns n = value_push tree_over ns n pltl.one

-- two lists of trees that agree below i give a node with parts below i one tree
agrees : (ts us : List Tree) (i : ℕ) (n : Node) → ((a : ℕ) → a < i → get_or ts a pltl.one ≡ get_or us a pltl.one) → below i n ≡ true → tree_over ts n ≡ tree_over us n
agrees ts us i One h b = refl
agrees ts us i Zero h b = refl
agrees ts us i (Letter k) h b = refl
agrees ts us i (Not a) h b = ap pltl.not (h a (ltb-true a i b))
agrees ts us i (Next a) h b = ap pltl.next (h a (ltb-true a i b))
agrees ts us i (Always a) h b = ap pltl.always (h a (ltb-true a i b))
agrees ts us i (Eventually a) h b = ap pltl.eventually (h a (ltb-true a i b))
agrees ts us i (Until a c) h b = let p = and_parts _ _ b in ap₂ pltl.until (h a (ltb-true a i p.0)) (h c (ltb-true c i p.1))
agrees ts us i (Release a c) h b = let p = and_parts _ _ b in ap₂ pltl.release (h a (ltb-true a i p.0)) (h c (ltb-true c i p.1))
agrees ts us i (And a c) h b = let p = and_parts _ _ b in ap₂ pltl.and (h a (ltb-true a i p.0)) (h c (ltb-true c i p.1))
agrees ts us i (Or a c) h b = let p = and_parts _ _ b in ap₂ pltl.or (h a (ltb-true a i p.0)) (h c (ltb-true c i p.1))
agrees ts us i (Implies a c) h b = let p = and_parts _ _ b in ap₂ pltl.implies (h a (ltb-true a i p.0)) (h c (ltb-true c i p.1))

-- the tree of each node, over all trees
pub tree_of_node : (ns : List Node) (i : ℕ) → Ordered ns → i < length ns → tree_at ns i ≡ tree_over (trees ns) (get_or ns i One)
unfolding trees
tree_of_node ns i o lt =
    value_at tree_over ns i One pltl.one lt
    ∙ agrees _ _ i (get_or ns i One) (λ a l. value_front tree_over ns i a pltl.one lt l) (o i lt)
