-- What is printed of a line's fault: that of the fault that caused it, or its own. Assumes nothing.
use Rattle.std.specs.Prelude.{ℤ, negsuc}
use Rattle.texts.specs.declared.faults.Layer.TheVariants as layer
use Rattle.texts.specs.declared.faults.Refusal.{Refusal}
use Rattle.texts.specs.Faults as text
use Rattle.kits.specs.Faults as kit
use Rattle.cases.specs.Faults as case
use Rattle.cases.specs.declared.faults.CallFault.{CallFault}
use Rattle.cases.specs.declared.faults.CallFault.TheVariants as call
use Rattle.casefile.specs.declared.faults.SheetFault.{SheetFault}
use Rattle.casefile.specs.declared.faults.SheetFault.TheVariants.{FileRefused, BufferTooShort, NoMemory}
use Rattle.casefile.specs.declared.faults.LineFault.{LineFault}
use Rattle.casefile.specs.declared.faults.LineFault.TheVariants.{NotDue, Value, Text, Case, Kit}

-- The fault of a call, as it stands in a line's fault.
abbrev pub from_call : CallFault → LineFault
from_call (call.Text f) = Text f
from_call (call.Case f) = Case f
from_call (call.Kit f) = Kit f

abbrev pub refusal : LineFault → Refusal
refusal NotDue = record { number = 19; layer = layer.Line; place = 0 }
refusal (Value at) = record { number = 20; layer = layer.Line; place = at }
refusal (Text f) = text.refusal f
refusal (Case f) = case.case_refusal f
refusal (Kit f) = kit.refusal f

-- What is answered in place of a sheet's length.
abbrev pub fault_number : SheetFault → ℤ
fault_number FileRefused = negsuc 21
fault_number BufferTooShort = negsuc 20
fault_number NoMemory = negsuc 99
