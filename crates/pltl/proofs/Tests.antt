-- Tests of the parts of a shape. Assumes nothing.
use Rattle.std.proofs.Common.{◌≡◌, Bool, true, refl, ap, ap₂}
use Rattle.std.proofs.lemmas.Bool.{and_parts, and_from}
use Rattle.pltl.specs.Shapes.{formula_of, all_parts, Each}
use Rattle.pltl.specs.Formulas.{Formula}
use Rattle.pltl.specs.Formulas as formula
use Rattle.pltl.specs.declared.Shape.{Shape}
use Rattle.pltl.specs.declared.Shape.TheVariants.{True, False, Letter, NotLetter, Next, Always, Eventually, Until, Release, And, Or}

module _ {P : Type 0} (q r : P → Bool) (weaker : (p : P) → q p ≡ true → r p ≡ true) where
  both : (a b : P) → all_parts q (And a b) ≡ true → all_parts r (And a b) ≡ true
  both a b h = let p = and_parts (q a) (q b) h in and_from (r a) (r b) (weaker a p.0) (weaker b p.1)

  pub all_parts_weaker : (s : Shape P) → all_parts q s ≡ true → all_parts r s ≡ true
  all_parts_weaker True h = refl
  all_parts_weaker False h = refl
  all_parts_weaker (Letter p) h = refl
  all_parts_weaker (NotLetter p) h = refl
  all_parts_weaker (Next a) h = weaker a h
  all_parts_weaker (Always a) h = weaker a h
  all_parts_weaker (Eventually a) h = weaker a h
  all_parts_weaker (Until a b) h = both a b h
  all_parts_weaker (Release a b) h = both a b h
  all_parts_weaker (And a b) h = both a b h
  all_parts_weaker (Or a b) h = both a b h

module _ {P : Type 0} (q : P → Bool) (Q : P → Type 0) (tells : (p : P) → q p ≡ true → Q p) where
  two : (a b : P) → all_parts q (And a b) ≡ true → Q a × Q b
  two a b h = let p = and_parts (q a) (q b) h in (tells a p.0, tells b p.1)

  pub each_from_test : (s : Shape P) → all_parts q s ≡ true → Each Q s
  each_from_test True h = tt
  each_from_test False h = tt
  each_from_test (Letter p) h = tt
  each_from_test (NotLetter p) h = tt
  each_from_test (Next a) h = tells a h
  each_from_test (Always a) h = tells a h
  each_from_test (Eventually a) h = tells a h
  each_from_test (Until a b) h = two a b h
  each_from_test (Release a b) h = two a b h
  each_from_test (And a b) h = two a b h
  each_from_test (Or a b) h = two a b h

no_test : {P : Type 0} (s : Shape P) → all_parts (λ p. true) s ≡ true
no_test True = refl
no_test False = refl
no_test (Letter p) = refl
no_test (NotLetter p) = refl
no_test (Next a) = refl
no_test (Always a) = refl
no_test (Eventually a) = refl
no_test (Until a b) = refl
no_test (Release a b) = refl
no_test (And a b) = refl
no_test (Or a b) = refl

pub each_from_all : {P : Type 0} (Q : P → Type 0) → ((p : P) → Q p) → (s : Shape P) → Each Q s
each_from_all Q all s = each_from_test (λ _. true) Q (λ p _. all p) s (no_test s)

-- two readings of the parts that agree on each part give one formula
pub formula_agrees : {P : Type 0} (f g : P → Formula) (s : Shape P) → Each (λ p. f p ≡ g p) s → formula_of f s ≡ formula_of g s
formula_agrees f g True h = refl
formula_agrees f g False h = refl
formula_agrees f g (Letter p) h = refl
formula_agrees f g (NotLetter p) h = refl
formula_agrees f g (Next a) h = ap formula.Next h
formula_agrees f g (Always a) h = ap formula.Always h
formula_agrees f g (Eventually a) h = ap formula.Eventually h
formula_agrees f g (Until a b) h = ap₂ formula.Until h.0 h.1
formula_agrees f g (Release a b) h = ap₂ formula.Release h.0 h.1
formula_agrees f g (And a b) h = ap₂ formula.And h.0 h.1
formula_agrees f g (Or a b) h = ap₂ formula.Or h.0 h.1
