-- What a text is answered by a table, and the table afterwards. Assumes nothing.
use Rattle.std.specs.Prelude.{ℕ, cond, List, length, Ok, Err, Result, nat_lt}
use Rattle.pltl.specs.Formulas.{Tree, Formula, normal}
use Rattle.pltl.specs.Formulas as formula
use Rattle.texts.specs.declared.faults.TextFault.{TextFault}
use Rattle.texts.specs.declared.faults.TextFault.TheVariants.{Full}
use Rattle.texts.specs.Scan.{reading}
use Rattle.tables.specs.declared.number.Number.{Number}
use Rattle.tables.specs.declared.table.entering.Form.{Form}
use Rattle.tables.specs.declared.table.entering.Form.TheVariants.{Itself, Always}
use Rattle.tables.specs.Entering.{place, enter}

-- The formula that is numbered.
abbrev pub entry : Form → Tree → Formula
entry Itself t = normal t
entry Always t = formula.Always (normal t)

-- A text that was read is refused exactly where what it enters does not fit into 512 numbers.
abbrev pub answer_read : List Formula → Form → Result Tree TextFault → Result ℕ TextFault
answer_read fs m (Ok t) = cond (nat_lt 512 (length (enter fs (entry m t)))) (Err Full) (Ok (place (enter fs (entry m t)) (entry m t)))
answer_read fs m (Err f) = Err f

abbrev pub after_read : List Formula → Form → Result Tree TextFault → List Formula
after_read fs m (Ok t) = cond (nat_lt 512 (length (enter fs (entry m t)))) fs (enter fs (entry m t))
after_read fs m (Err f) = fs

-- What a text is answered where the table has the formulas fs, and the formulas afterwards.
abbrev pub answer : List Formula → Form → List ℕ → Result ℕ TextFault
answer fs m w = answer_read fs m (reading w)

abbrev pub after : List Formula → Form → List ℕ → List Formula
after fs m w = after_read fs m (reading w)

abbrev pub by_number : Result Number TextFault → Result ℕ TextFault
by_number (Ok n) = Ok n.0
by_number (Err f) = Err f
