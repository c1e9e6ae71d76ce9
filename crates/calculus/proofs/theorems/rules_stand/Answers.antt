use Rattle.calculus.proofs.SoundRules.{rules_law}
use Rattle.calculus.proofs.SoundUnits.{units_law}
use Rattle.calculus.proofs.theorems.rules_stand.Goals as goal

pub returns : goal.returns
returns c = record { rules = rules_law; units = units_law }
