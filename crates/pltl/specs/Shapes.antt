-- What a shape stands for: the formula with that outermost sign, over what its parts stand for. Assumes nothing.
use Rattle.std.specs.Prelude.{Bool, true, ◌&&◌}
use Rattle.pltl.specs.Formulas.{Formula}
use Rattle.pltl.specs.Formulas as formula
use Rattle.pltl.specs.declared.Shape.{Shape}
use Rattle.pltl.specs.declared.Shape.TheVariants.{True, False, Letter, NotLetter, Next, Always, Eventually, Until, Release, And, Or}

abbrev pub formula_of : {P : Type 0} → (P → Formula) → Shape P → Formula
formula_of f True = formula.True
formula_of f False = formula.False
formula_of f (Letter p) = formula.Is p
formula_of f (NotLetter p) = formula.Isn't p
formula_of f (Next a) = formula.Next (f a)
formula_of f (Always a) = formula.Always (f a)
formula_of f (Eventually a) = formula.Eventually (f a)
formula_of f (Until a b) = formula.Until (f a) (f b)
formula_of f (Release a b) = formula.Release (f a) (f b)
formula_of f (And a b) = formula.And (f a) (f b)
formula_of f (Or a b) = formula.Or (f a) (f b)

-- A test that holds of each part.
abbrev pub all_parts : {P : Type 0} → (P → Bool) → Shape P → Bool
all_parts q True = true
all_parts q False = true
all_parts q (Letter p) = true
all_parts q (NotLetter p) = true
all_parts q (Next a) = q a
all_parts q (Always a) = q a
all_parts q (Eventually a) = q a
all_parts q (Until a b) = q a && q b
all_parts q (Release a b) = q a && q b
all_parts q (And a b) = q a && q b
all_parts q (Or a b) = q a && q b

-- A fact that holds of each part.
abbrev pub Each : {P : Type 0} → (P → Type 0) → Shape P → Type 0
Each Q True = Unit {0}
Each Q False = Unit {0}
Each Q (Letter p) = Unit {0}
Each Q (NotLetter p) = Unit {0}
Each Q (Next a) = Q a
Each Q (Always a) = Q a
Each Q (Eventually a) = Q a
Each Q (Until a b) = Q a × Q b
Each Q (Release a b) = Q a × Q b
Each Q (And a b) = Q a × Q b
Each Q (Or a b) = Q a × Q b
