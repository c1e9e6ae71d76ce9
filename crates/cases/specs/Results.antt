-- Answers by plain numbers. Assumes nothing.
use Rattle.std.specs.Prelude.{ℕ, Ok, Err, Result}
use Rattle.tables.specs.declared.number.Number.{Number}
use Rattle.cases.specs.declared.faults.CallFault.{CallFault}

abbrev pub call_number : Result Number CallFault → Result ℕ CallFault
call_number (Ok n) = Ok n.0
call_number (Err f) = Err f
