-- What is printed of a kit's fault. Assumes nothing.
use Rattle.texts.specs.declared.faults.Layer.TheVariants as layer
use Rattle.texts.specs.declared.faults.Refusal.{Refusal}
use Rattle.kits.specs.declared.faults.KitFault.{KitFault}
use Rattle.kits.specs.declared.faults.KitFault.TheVariants.{Unknown, NotAllowed}

abbrev pub refusal : KitFault → Refusal
refusal Unknown = record { number = 9; layer = layer.Kit; place = 0 }
refusal NotAllowed = record { number = 12; layer = layer.Kit; place = 0 }
