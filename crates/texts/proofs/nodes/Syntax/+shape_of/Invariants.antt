use Rattle.texts.proofs.nodes.Syntax.+shape_of.Given as goal

abbrev pub decreases-shape_of : goal.decreases-shape_of
decreases-shape_of l = l.node
