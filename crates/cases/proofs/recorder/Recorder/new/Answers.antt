use Rattle.std.proofs.Common.{length, sym, ap, ◌∙◌}
use Rattle.std.proofs.lemmas.Bool.{eq-eqb}
use Rattle.tables.proofs.RecordedStates.{length_recorded}
use Rattle.cases.proofs.recorder.Recorder.new.Goals as goal

pub invariant_of-result : goal.invariant_of-result
invariant_of-result c =
    let s = c.new.result in
    record { fits = eq-eqb s.len 0 (sym (length_recorded s.letters s.len) ∙ ap length c.new.ensures) }
