-- What is true of the grammar and of reading. Assumes nothing.
use Rattle.std.specs.Prelude.{◌≡◌, ℕ, List, Result}
use Rattle.pltl.specs.Formulas.{Tree}
use Rattle.texts.specs.declared.faults.TextFault.{TextFault}
use Rattle.texts.specs.Grammar.{Spells, implication}
use Rattle.texts.specs.Reading.{Reads}
use Rattle.texts.specs.Scan.{reading}

-- A text spells at most one tree.
abbrev pub OneTree : Type 0
OneTree = (a b : Tree) (w : List ℕ) → Spells implication a w → Spells implication b w → a ≡ b

-- Every text has an answer, `reading`, and no other.
abbrev pub EveryTextRead : Type 0
EveryTextRead = (w : List ℕ) → Reads w (reading w)

abbrev pub ReadOneWay : Type 0
ReadOneWay = (w : List ℕ) (r s : Result Tree TextFault) → Reads w r → Reads w s → r ≡ s
