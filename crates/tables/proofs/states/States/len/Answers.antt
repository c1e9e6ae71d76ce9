use Rattle.std.proofs.Common.{sym}
use Rattle.tables.proofs.RecordedStates.{length_recorded}
use Rattle.tables.proofs.states.States.len.Goals as goal

pub returns : goal.returns
returns c = record { value = sym (length_recorded _ _); few = c.args.self.now.few }
