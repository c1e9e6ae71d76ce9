use Rattle.std.proofs.Common.{◌≡◌, true, ap, ◌∙◌, subst}
use Rattle.std.proofs.lemmas.Bool.{eqb-true}
use Rattle.tables.proofs.RecordedStates.{length_recorded}
use Rattle.cases.specs.Phases.{back_of, phase_fits}
use Rattle.cases.specs.Recordings.{run_model}
use Rattle.cases.proofs.Recorded.{loop_of_empty}
use Rattle.cases.proofs.recorder.Recorder.record.Goals as goal

pub returns-in-Empty-Loop : goal.returns-in-Empty-Loop
returns-in-Empty-Loop c =
    let r = c.args.self.now in
    let s = r.states in
    let none = eqb-true s.len 0 (subst (λ p. phase_fits p s.len ≡ true) c.in-Empty-Loop.is-0 r.fits) in
    let a = loop_of_empty (run_model r) c.args.event _ (ap back_of c.in-Empty-Loop.is-0) (length_recorded s.letters s.len ∙ none) c.in-Empty-Loop.is-1 in
    record { value = a.0; after = a.1 }
