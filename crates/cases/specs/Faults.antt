-- What is printed of a case's fault, and of a call's. Assumes nothing.
use Rattle.texts.specs.declared.faults.Layer.TheVariants as layer
use Rattle.texts.specs.declared.faults.Refusal.{Refusal}
use Rattle.texts.specs.Faults as text
use Rattle.kits.specs.Faults as kit
use Rattle.cases.specs.declared.faults.CaseFault.{CaseFault}
use Rattle.cases.specs.declared.faults.CaseFault.TheVariants.{UnknownKind, SecondProperty, TooManyClauses, NotInTable, NoSuchStep, TooManySteps, StrayLetter, TooManyPositions, ClosedRun, NoPosition, FalseRoot}
use Rattle.cases.specs.declared.faults.CallFault.{CallFault}
use Rattle.cases.specs.declared.faults.CallFault.TheVariants.{Text, Case, Kit}

abbrev pub case_refusal : CaseFault → Refusal
case_refusal UnknownKind = record { number = 6; layer = layer.Case; place = 0 }
case_refusal SecondProperty = record { number = 7; layer = layer.Case; place = 0 }
case_refusal TooManyClauses = record { number = 8; layer = layer.Case; place = 0 }
case_refusal (NotInTable i) = record { number = 10; layer = layer.Case; place = i }
case_refusal (NoSuchStep i) = record { number = 11; layer = layer.Case; place = i }
case_refusal TooManySteps = record { number = 13; layer = layer.Case; place = 0 }
case_refusal (StrayLetter b) = record { number = 14; layer = layer.Case; place = b }
case_refusal TooManyPositions = record { number = 15; layer = layer.Case; place = 0 }
case_refusal ClosedRun = record { number = 16; layer = layer.Case; place = 0 }
case_refusal NoPosition = record { number = 17; layer = layer.Case; place = 0 }
case_refusal (FalseRoot n) = record { number = 18; layer = layer.Case; place = n }

abbrev pub refusal : CallFault → Refusal
refusal (Text f) = text.refusal f
refusal (Case f) = case_refusal f
refusal (Kit f) = kit.refusal f
