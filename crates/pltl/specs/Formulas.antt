-- Formulas of propositional linear temporal logic: syntax trees as they are written, formulas in normal
-- form, and the normal form of a tree. Assumes nothing.
use Rattle.std.specs.Prelude.{ℕ}

-- A syntax tree, as a formula text spells it. A letter is a number: 0 for `a`, 1 for `b`, and so on.
pub data Tree : Type 0 where
  one : Tree
  zero : Tree
  letter : ℕ → Tree
  not : Tree → Tree
  next : Tree → Tree
  always : Tree → Tree
  eventually : Tree → Tree
  until : Tree → Tree → Tree
  release : Tree → Tree → Tree
  and : Tree → Tree → Tree
  or : Tree → Tree → Tree
  implies : Tree → Tree → Tree

-- A formula in negation normal form: not stands before letters alone, and implies is gone.
pub data Formula : Type 0 where
  True : Formula
  False : Formula
  Is : ℕ → Formula
  Isn't : ℕ → Formula
  Next : Formula → Formula
  Always : Formula → Formula
  Eventually : Formula → Formula
  Until : Formula → Formula → Formula
  Release : Formula → Formula → Formula
  And : Formula → Formula → Formula
  Or : Formula → Formula → Formula
  deriving Discrete as same-formula

-- The opposite swaps each sign with its dual and takes the opposite of each part, in the same order.
abbrev pub opposite : Formula → Formula
opposite True = False
opposite False = True
opposite (Is p) = Isn't p
opposite (Isn't p) = Is p
opposite (Next a) = Next (opposite a)
opposite (Always a) = Eventually (opposite a)
opposite (Eventually a) = Always (opposite a)
opposite (Until a b) = Release (opposite a) (opposite b)
opposite (Release a b) = Until (opposite a) (opposite b)
opposite (And a b) = Or (opposite a) (opposite b)
opposite (Or a b) = And (opposite a) (opposite b)

-- The normal form of a tree: not and implies are pushed away, nothing is simplified.
abbrev pub normal : Tree → Formula
normal one = True
normal zero = False
normal (letter p) = Is p
normal (not a) = opposite (normal a)
normal (next a) = Next (normal a)
normal (always a) = Always (normal a)
normal (eventually a) = Eventually (normal a)
normal (until a b) = Until (normal a) (normal b)
normal (release a b) = Release (normal a) (normal b)
normal (and a b) = And (normal a) (normal b)
normal (or a b) = Or (normal a) (normal b)
normal (implies a b) = Or (opposite (normal a)) (normal b)
