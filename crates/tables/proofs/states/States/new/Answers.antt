use Rattle.std.proofs.Common.{refl, arith}
use Rattle.tables.specs.Rows.{recorded}
use Rattle.tables.proofs.RecordedStates.{zeros}
use Rattle.tables.proofs.states.States.new.Goals as goal

pub invariant_of-result : goal.invariant_of-result
invariant_of-result c = record { few = omega arith; clean = zeros 26 }

pub returns : goal.returns
unfolding recorded
returns c = refl
