-- The opposite of a part stands for the opposite of its formula. Assumes nothing.
use Rattle.std.proofs.Common.{◌≡◌, ℕ, Bool, true, false, not, List, sym, refl}
use Rattle.pltl.specs.Formulas.{opposite}
use Rattle.pltl.proofs.Opposites.{opposite_opposite}
use Rattle.texts.specs.declared.nodes.Node.{Node}
use Rattle.texts.specs.declared.normal.Part.{Part}
use Rattle.texts.specs.Normals.{formula_at}

at_not : (ns : List Node) (i : ℕ) (b : Bool) → formula_at ns (record { node = i; negated = not b }) ≡ opposite (formula_at ns (record { node = i; negated = b }))
at_not ns i true = sym (opposite_opposite _)
at_not ns i false = refl

pub formula_at_dual : (ns : List Node) (p : Part) → formula_at ns (record { node = p.node; negated = not p.negated }) ≡ opposite (formula_at ns p)
formula_at_dual ns p = at_not ns p.node p.negated
