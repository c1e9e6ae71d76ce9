use Rattle.std.proofs.Common.{◌≡◌, true, length, sym, ap, ◌∙◌, subst, arith}
use Rattle.std.proofs.lemmas.List.{length_push}
use Rattle.std.proofs.lemmas.Bool.{lt-ltb}
use Rattle.tables.specs.Rows.{recorded, state_of}
use Rattle.tables.proofs.RecordedStates.{length_recorded}
use Rattle.cases.specs.Phases.{phase_fits}
use Rattle.cases.proofs.recorder.Recorder.take_state.Goals as goal

pub invariant_of-self : goal.invariant_of-self
invariant_of-self c =
    let s = c.args.self.now.states in
    let t = c.push.new.self in
    let same : s.len ≡ t.len = sym (length_recorded s.letters s.len) ∙ ap length (sym c.in_default-push.ensures.after) ∙ length_recorded t.letters t.len in
    record { fits = subst (λ n. phase_fits c.args.self.now.phase n ≡ true) same c.args.self.now.fits }

pub invariant_of-self-2 : goal.invariant_of-self-2
invariant_of-self-2 c =
    let s = c.args.self.now.states in
    let t = c.push.new.self in
    let more = length_push (recorded s.letters s.len) (state_of c.args.letters) in
    record { fits = lt-ltb 0 t.len (omega (arith, length_recorded t.letters t.len, ap length c.in-Some-push.ensures.after, more)) }
