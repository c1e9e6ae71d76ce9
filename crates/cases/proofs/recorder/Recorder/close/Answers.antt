use Rattle.std.proofs.Common.{arith}
use Rattle.std.proofs.lemmas.Bool.{lt-ltb}
use Rattle.tables.proofs.RecordedStates.{length_recorded}
use Rattle.cases.proofs.recorder.Recorder.close.Goals as goal

pub invariant_of-self : goal.invariant_of-self
invariant_of-self c =
    let s = c.args.self.now.states in
    record { fits = lt-ltb _ _ (omega (arith, c.if-back-len.false, c.len-len.ensures.value, length_recorded s.letters s.len)) }
