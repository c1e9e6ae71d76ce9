-- What reading a text answers: its tree, or the refusal that comes first. A reader has to believe this file.
-- Assumes nothing.
use Rattle.std.specs.Prelude.{◌≡◌, ℕ, ◌+◌, ◌<◌, ◌≤◌, List, length, take, Ok, Err, Result}
use Rattle.pltl.specs.Formulas.{Tree}
use Rattle.texts.specs.declared.faults.TextFault.{TextFault}
use Rattle.texts.specs.declared.faults.TextFault.TheVariants.{Empty, TooLong, Unexpected, Incomplete, Full}
use Rattle.texts.specs.Grammar.{Spells, implication, FormulaText, Begins}

-- A text has 1 to 512 bytes.
abbrev pub Sized : List ℕ → Type 0
Sized w = (0 < length w) × (length w ≤ 512)

-- `Reads w r`: the text w is answered r. The byte that is unexpected at i is the first that no formula text
-- has after the bytes before it; a text is incomplete if it begins a formula text and is none.
abbrev pub Reads : List ℕ → Result Tree TextFault → Type 0
Reads w (Ok t) = Sized w × Spells implication t w
Reads w (Err Empty) = length w ≡ 0
Reads w (Err TooLong) = 512 < length w
Reads w (Err (Unexpected i)) = Sized w × (i < length w) × Begins (take i w) × (Begins (take (i + 1) w) → ⊥)
Reads w (Err (Incomplete n)) = Sized w × (n ≡ length w) × Begins w × (FormulaText w → ⊥)
Reads w (Err Full) = ⊥
