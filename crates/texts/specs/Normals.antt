-- What a part of the text that was read stands for, in normal form. Assumes nothing.
use Rattle.std.specs.Prelude.{ℕ, Bool, cond, List, nat_lt}
use Rattle.pltl.specs.Formulas.{Formula, opposite, normal}
use Rattle.pltl.specs.declared.Shape.{Shape}
use Rattle.pltl.specs.Shapes.{all_parts}
use Rattle.texts.specs.declared.nodes.Node.{Node}
use Rattle.texts.specs.declared.normal.Part.{Part}
use Rattle.texts.specs.Syntax.{tree_at}

abbrev pub normal_at : List Node → ℕ → Formula
normal_at ns i = normal (tree_at ns i)

abbrev pub formula_at : List Node → Part → Formula
formula_at ns p = cond p.negated (opposite (normal_at ns p.node)) (normal_at ns p.node)

-- all parts have nodes below i
abbrev pub parts_below : ℕ → Shape Part → Bool
parts_below i s = all_parts (λ p. nat_lt p.node i) s
