-- The grammar of formula texts, as a relation between a level, a syntax tree and a list of bytes.
-- A reader has to believe this file. It assumes nothing.
use Rattle.std.specs.Prelude.{ℕ, ◌+◌, ◌<◌, List, [], ◌∷◌, ◌++◌, codes}
use Rattle.pltl.specs.Formulas.{Tree, one, zero, letter, not, next, always, eventually, until, release, and, or, implies}

-- The five levels, loosest first.
pub data Level : Type 0 where
  implication : Level
  disjunction : Level
  conjunction : Level
  temporal : Level
  unary : Level

-- `Spells l t w`: at level l, the bytes w spell the tree t.
pub data Spells : Level → Tree → List ℕ → Type 0 where
  -- implication: a disjunction, or disjunction -> implication
  disjunction_alone : {t : Tree} {w : List ℕ} → Spells disjunction t w → Spells implication t w
  implies_text : {a b : Tree} {v w : List ℕ} → Spells disjunction a v → Spells implication b w → Spells implication (implies a b) (v ++ (codes "->" ++ w))
  -- disjunction: a conjunction, or conjunction | disjunction
  conjunction_alone : {t : Tree} {w : List ℕ} → Spells conjunction t w → Spells disjunction t w
  or_text : {a b : Tree} {v w : List ℕ} → Spells conjunction a v → Spells disjunction b w → Spells disjunction (or a b) (v ++ (codes "|" ++ w))
  -- conjunction: a temporal, or temporal & conjunction
  temporal_alone : {t : Tree} {w : List ℕ} → Spells temporal t w → Spells conjunction t w
  and_text : {a b : Tree} {v w : List ℕ} → Spells temporal a v → Spells conjunction b w → Spells conjunction (and a b) (v ++ (codes "&" ++ w))
  -- temporal: a unary, or unary U temporal, or unary R temporal
  unary_alone : {t : Tree} {w : List ℕ} → Spells unary t w → Spells temporal t w
  until_text : {a b : Tree} {v w : List ℕ} → Spells unary a v → Spells temporal b w → Spells temporal (until a b) (v ++ (codes "U" ++ w))
  release_text : {a b : Tree} {v w : List ℕ} → Spells unary a v → Spells temporal b w → Spells temporal (release a b) (v ++ (codes "R" ++ w))
  -- unary: a one-sided sign and a unary, a letter, a constant, or (implication)
  not_text : {a : Tree} {w : List ℕ} → Spells unary a w → Spells unary (not a) (codes "!" ++ w)
  next_text : {a : Tree} {w : List ℕ} → Spells unary a w → Spells unary (next a) (codes "X" ++ w)
  always_text : {a : Tree} {w : List ℕ} → Spells unary a w → Spells unary (always a) (codes "G" ++ w)
  eventually_text : {a : Tree} {w : List ℕ} → Spells unary a w → Spells unary (eventually a) (codes "F" ++ w)
  -- letter number k is the k-th after `a`, whose byte is 97
  letter_text : (k : ℕ) → k < 26 → Spells unary (letter k) ((97 + k) ∷ [])
  one_text : Spells unary one (codes "1")
  zero_text : Spells unary zero (codes "0")
  bracket_text : {t : Tree} {w : List ℕ} → Spells implication t w → Spells unary t (codes "(" ++ (w ++ codes ")"))

-- A formula text, of any length: bytes that spell some tree.
abbrev pub FormulaText : List ℕ → Type 0
FormulaText w = (t : Tree) × Spells implication t w

-- Bytes with which some formula text, of any length, begins.
abbrev pub Begins : List ℕ → Type 0
Begins w = (rest : List ℕ) × FormulaText (w ++ rest)
