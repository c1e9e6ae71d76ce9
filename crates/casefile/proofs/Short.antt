-- What is printed of a fault has a number below 100 and a layer below 10. Assumes nothing.
use Rattle.std.proofs.Common.{◌<◌, lit<}
use Rattle.texts.specs.declared.faults.Refusal.{Refusal}
use Rattle.texts.specs.declared.faults.TextFault.{TextFault}
use Rattle.texts.specs.declared.faults.TextFault.TheVariants.{Empty, TooLong, Unexpected, Incomplete, Full}
use Rattle.texts.specs.Faults as text
use Rattle.texts.specs.Faults.{layer_number}
use Rattle.kits.specs.declared.faults.KitFault.{KitFault}
use Rattle.kits.specs.declared.faults.KitFault.TheVariants.{Unknown, NotAllowed}
use Rattle.kits.specs.Faults as kit
use Rattle.cases.specs.declared.faults.CaseFault.{CaseFault}
use Rattle.cases.specs.declared.faults.CaseFault.TheVariants.{UnknownKind, SecondProperty, TooManyClauses, NotInTable, NoSuchStep, TooManySteps, StrayLetter, TooManyPositions, ClosedRun, NoPosition, FalseRoot}
use Rattle.cases.specs.Faults as case
use Rattle.casefile.specs.declared.faults.LineFault.{LineFault}
use Rattle.casefile.specs.declared.faults.LineFault.TheVariants.{NotDue, Value, Text, Case, Kit}
use Rattle.casefile.specs.Faults.{refusal}

pub record Short (r : Refusal) : Type 0 where
  pub number : r.number < 100
  pub layer : layer_number r.layer < 10

text_short : (f : TextFault) → Short (text.refusal f)
text_short Empty = record { number = lit< tt; layer = lit< tt }
text_short TooLong = record { number = lit< tt; layer = lit< tt }
text_short (Unexpected i) = record { number = lit< tt; layer = lit< tt }
text_short (Incomplete n) = record { number = lit< tt; layer = lit< tt }
text_short Full = record { number = lit< tt; layer = lit< tt }

kit_short : (f : KitFault) → Short (kit.refusal f)
kit_short Unknown = record { number = lit< tt; layer = lit< tt }
kit_short NotAllowed = record { number = lit< tt; layer = lit< tt }

case_short : (f : CaseFault) → Short (case.case_refusal f)
case_short UnknownKind = record { number = lit< tt; layer = lit< tt }
case_short SecondProperty = record { number = lit< tt; layer = lit< tt }
case_short TooManyClauses = record { number = lit< tt; layer = lit< tt }
case_short (NotInTable i) = record { number = lit< tt; layer = lit< tt }
case_short (NoSuchStep i) = record { number = lit< tt; layer = lit< tt }
case_short TooManySteps = record { number = lit< tt; layer = lit< tt }
case_short (StrayLetter b) = record { number = lit< tt; layer = lit< tt }
case_short TooManyPositions = record { number = lit< tt; layer = lit< tt }
case_short ClosedRun = record { number = lit< tt; layer = lit< tt }
case_short NoPosition = record { number = lit< tt; layer = lit< tt }
case_short (FalseRoot n) = record { number = lit< tt; layer = lit< tt }

pub short : (f : LineFault) → Short (refusal f)
short NotDue = record { number = lit< tt; layer = lit< tt }
short (Value at) = record { number = lit< tt; layer = lit< tt }
short (Text f) = text_short f
short (Case f) = case_short f
short (Kit f) = kit_short f
